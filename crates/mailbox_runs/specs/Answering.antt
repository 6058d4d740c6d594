-- A run of a block's mailbox firmware under posts, by its turns: what each answers and takes is read off its own steps
-- without interrupts.
-- Beside the promise.
use Rattle.std.specs.Prelude.{◌≡◌, ℕ, ◌+◌, ◌-◌, ◌^◌, ◌<◌, ◌≤◌, ◌≢◌, ◌==◌, true, if◌then◌else◌}
use Rattle.std.specs.Prelude.{List, [], ◌∷◌, All, None, drop, length, map}
use Rattle.fuzzy_meaning.specs.{declared.block.Block.Block, Blocks.IsValid}
use Rattle.rule_layout.specs.Layouts.{IsWithinLimits}
use Rattle.cpu12_parts.specs.State.{State}
use Rattle.cpu12_emul.specs.{Simulation.OnStackOnly, Simulation.Same, Take.FrameSeen}
use Rattle.run_law.specs.{Forms.Ran, Soundness.AllSimulate}
use Rattle.run_law.specs.Uninterrupted.{uninterrupted, counted, resumed_of, frames_after}
use Rattle.interrupt_plan.specs.{declared.Post.Post, Posts.AreGoodPosts}
use Rattle.firmware_code.specs.declared.firmware.Firmware.{Firmware}
use Rattle.firmware_code.specs.Uninterrupted.{Answer, values_in, AreUninterrupted, AreAnswersOf}
use Rattle.firmware_code.specs.Arrivals.{given}
use Rattle.mailbox_code.specs.Mailboxes.{is_postable, IsMailboxOf}
use Rattle.eval_code.specs.Firing.{AreInputBytes}
use Rattle.firmware_runs.specs.Facts.{FactsBeside}
use Rattle.mailbox_runs.specs.Turns.{Turn, AreTurns, samples_of}
use Rattle.mailbox_runs.specs.Runs.{AnswerSeen, RunSeen, no_turn, before_turns, turn_from, arrival, steps_of}
use Rattle.mailbox_runs.specs.Runs.{last_boundary, run_under_posts}
use Rattle.alone_runs.specs.Rows.{bytes_of}

-- a turn that answers begins with its sample in the mailbox
abbrev pub begun : Firmware → List (List ℕ) → Turn → State → State
begun f samples t s = if t.sample == 0 then s else given f.memory_map (bytes_of samples t.sample) s

-- the state where the code waits again
abbrev pub ended : ℕ → Firmware → List (List ℕ) → Turn → State → State
ended flags f samples t s = uninterrupted flags t.steps (begun f samples t s)

-- the moment of a post in its turn, counted from where the turn begins
abbrev pub moment_in : Turn → ℕ × Post → ℕ
moment_in t p = p.0 - t.begin

-- what a turn answers, where it does, and the frames and the boundaries inside an instruction of what is taken in it
abbrev pub answer_of : ℕ → Firmware → List (List ℕ) → Turn → State → List AnswerSeen
answer_of flags f samples t s =
    if t.sample == 0 then []
    else record {
      sample = t.sample;
      at = t.begin + t.steps;
      bytes = bytes_of samples t.sample;
      values = values_in f (ended flags f samples t s);
      instrs = counted flags t.steps (begun f samples t s);
    } ∷ []

abbrev pub frames_in : ℕ → Firmware → List (List ℕ) → Turn → State → List (ℕ × FrameSeen)
frames_in flags f samples t s =
    map (λ x. (t.begin + x.0, x.1)) (frames_after flags (moment_in t) (begun f samples t s) None t.taken)

abbrev pub resumed_in : ℕ → Firmware → List (List ℕ) → Turn → State → ℕ
resumed_in flags f samples t s = resumed_of flags (moment_in t) (begun f samples t s) t.taken t.steps

-- the turns one after another, from the state where the first begins
abbrev pub run_of_turns : ℕ → Firmware → List (List ℕ) → List Turn → State → RunSeen
run_of_turns flags f samples [] s = no_turn true [] 0
run_of_turns flags f samples (t ∷ ts) s =
    before_turns (answer_of flags f samples t s) (frames_in flags f samples t s) (resumed_in flags f samples t s)
    (run_of_turns flags f samples ts (ended flags f samples t s))

-- Behind the copy, from boundary n + 5 of a turn that answers, up to its end each state keeps the facts beside handlers
-- to which the mailbox is open too: none of these steps reads or writes it.
abbrev pub KeepsFacts : ℕ → Firmware → List (List ℕ) → Turn → State → Type 0
KeepsFacts flags f samples t s =
    t.sample ≢ 0 → (j : ℕ) → f.inputs + 5 ≤ j → j < t.steps
    → FactsBeside is_postable flags f (uninterrupted flags j (begun f samples t s))

abbrev pub AllKeepFacts : ℕ → Firmware → List (List ℕ) → List Turn → State → Type 0
AllKeepFacts flags f samples [] s = Unit {0}
AllKeepFacts flags f samples (t ∷ ts) s =
    KeepsFacts flags f samples t s × AllKeepFacts flags f samples ts (ended flags f samples t s)

-- A turn that answers runs under posts as r: it comes to its end in the turn's steps, and from boundary n + 5 on,
-- behind the copy, each of its states simulates that of the turn's steps alone from s.
pub record SimulatesTurn (flags : ℕ) (f : Firmware) (t : Turn) (s : State) (r : Ran Post (Unit {0})) : Type 0 where
  pub arrived : r.arrived ≡ true
  pub steps : r.steps ≡ t.steps
  pub simulates :
      AllSimulate OnStackOnly is_postable flags (drop (f.inputs + 5) r.states) (uninterrupted flags (f.inputs + 5) s)
  pub last : Same is_postable r.state (uninterrupted flags t.steps s)

-- So does each turn that answers, of the run from state v on with these posts left and up to boundary `last` at the
-- most, beside the turns alone from s.
abbrev pub SimulateTurns : ℕ → Firmware → List (List ℕ) → ℕ → List Turn → List Post → State → State → Type 0
SimulateTurns flags f samples last [] posts v s = Unit {0}
SimulateTurns flags f samples last (t ∷ ts) posts v s =
    (let r = turn_from flags f samples last t.begin posts v in
    (t.sample ≢ 0 → SimulatesTurn flags f t (begun f samples t s) r)
    × SimulateTurns flags f samples last ts r.left r.state (ended flags f samples t s))

abbrev pub answer_in : AnswerSeen → Answer
answer_in a = record { values = a.values; instructions = a.instrs }

-- What a block's mailbox firmware gives under posts: the run is that of the turns, each as long as its steps without
-- posts and from where the one before ended; its answers are the uninterrupted ones over the samples that the turns
-- answer, and the block's, within the firmware's bound; behind the copy no step of a turn reads or writes the mailbox,
-- and each state of the run simulates that of the turn's steps alone.
pub record AnswersUnderPosts (b : Block) (f : Firmware) (flags : ℕ) (samples : List (List ℕ)) (posts : List Post)
    (run : RunSeen) : Type 0 where
  pub turns : List Turn
  pub turns_are : AreTurns f.inputs (steps_of flags f samples) 0 0 [] posts turns
  pub arrived : (arrival f samples flags).arrived ≡ true
  pub run_is : run ≡ run_of_turns flags f samples turns (arrival f samples flags).state
  pub uninterrupted : AreUninterrupted f flags (map (bytes_of samples) (samples_of turns)) (map answer_in run.answers)
  pub of_block : AreAnswersOf f.width b f.instr_bound (λ o. 0) (map (bytes_of samples) (samples_of turns))
      (map answer_in run.answers)
  pub facts : AllKeepFacts flags f samples turns (arrival f samples flags).state
  pub simulate : SimulateTurns flags f samples (last_boundary f) turns posts (arrival f samples flags).state
      (arrival f samples flags).state

-- so does a run, where the firmware is one of a valid block in the mailbox form
abbrev pub AnswersItsPosts : Firmware → ℕ → List (List ℕ) → List Post → RunSeen → Type 0
AnswersItsPosts f flags samples posts run =
    (b : Block) → IsValid b → IsWithinLimits b → IsMailboxOf b f → All (AreInputBytes b) samples
    → AnswersUnderPosts b f flags samples posts run

-- The mailbox firmware of a block answers so under all good posts.
abbrev pub AnswersUnderAllPosts : Type 0
AnswersUnderAllPosts =
    (f : Firmware) (flags : ℕ) (samples : List (List ℕ)) (posts : List Post)
    → flags < 2 ^ 8 → AreGoodPosts (length samples) posts
    → AnswersItsPosts f flags samples posts (run_under_posts f samples posts flags)
