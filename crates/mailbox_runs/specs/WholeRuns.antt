-- The run under posts is that of its turns.
-- Beside the promise.
use Rattle.std.specs.Prelude.{◌≡◌, ℕ, ◌+◌, ◌-◌, ◌*◌, ◌<◌, ◌≤◌, min, List, length}
use Rattle.cpu12_isa.specs.Regions.{is_free}
use Rattle.cpu12_parts.specs.State.{State}
use Rattle.cpu12_emul.specs.Simulation.{Same}
use Rattle.run_law.specs.Soundness.{AllGood, Ascend}
use Rattle.interrupt_plan.specs.{declared.Post.Post, Posts.IsGoodPost}
use Rattle.firmware_code.specs.declared.firmware.Firmware.{Firmware}
use Rattle.byte_scaling.specs.Widths.{places}
use Rattle.mailbox_runs.specs.{Turns.Turn, Turns.AreTurns, Runs.turns_from, Answering.run_of_turns}
use Rattle.mailbox_runs.specs.{Answering.SimulateTurns, UninterruptedTurns.AllTurnRuns}
use Rattle.mailbox_runs.specs.Postings.{posted, IsBox, AreOfSize}

-- From boundary g on, where sample w waits in the mailbox of a state that is else s, the run under good posts is that
-- of its turns, each from where the one before ended without interrupts, and behind the copy its states simulate
-- theirs. It has room for so many turns, and up to boundary `last`.
abbrev pub RunsAreTurns : Type 0
RunsAreTurns =
    (flags : ℕ) (f : Firmware) (samples : List (List ℕ)) (n : ℕ) (steps : List ℕ → ℕ) (last most g w : ℕ)
    (done : List ℕ) (posts : List Post) (turns : List Turn) (s v : State)
    → IsBox f.memory_map n → AreOfSize n samples → f.memory_map.outputs + places f.width * f.outputs ≤ 0x1020
    → f.inputs ≡ n → 1 ≤ f.step_bound → 1000000 + 2 * f.step_bound ≤ last
    → AreTurns n steps g w done posts turns → AllTurnRuns f flags samples turns s
    → w ≤ length samples → AllGood (IsGoodPost (length samples)) posts → Ascend (λ p. p.moment) g posts
    → Same is_free v (posted f.memory_map samples w s)
    → (1000001 - g) + min w 1 < most → (1 ≤ w → g ≤ 1000000 + f.step_bound)
    → (turns_from flags f samples last most g w posts v ≡ run_of_turns flags f samples turns s)
    × SimulateTurns flags f samples last turns posts v s
