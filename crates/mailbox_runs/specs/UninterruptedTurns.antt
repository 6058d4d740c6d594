-- The turns of a block's mailbox firmware without interrupts: how many steps each takes, and what its steps are.
-- Beside the promise.
use Rattle.std.specs.Prelude.{◌≡◌, ◌≢◌, ℕ, ◌+◌, ◌^◌, ◌<◌, ◌≤◌, ◌⊎◌, ◌==◌, true, if◌then◌else◌}
use Rattle.std.specs.Prelude.{List, [], ◌∷◌, ◌++◌, All, length, map, slice_index}
use Rattle.fuzzy_meaning.specs.{declared.block.Block.Block, Blocks.IsValid}
use Rattle.rule_layout.specs.Layouts.{IsWithinLimits}
use Rattle.cpu12_parts.specs.State.{State}
use Rattle.cpu12_emul.specs.Image.{image_memory}
use Rattle.run_law.specs.Uninterrupted.{uninterrupted}
use Rattle.interrupt_plan.specs.{declared.Post.Post, Posts.AreGoodPosts}
use Rattle.firmware_code.specs.declared.firmware.Firmware.{Firmware}
use Rattle.mailbox_code.specs.Turns.{IsAt, IsLook, IsChoice, IsCopied}
use Rattle.firmware_code.specs.Uninterrupted.{AreUninterrupted, AreAnswersOf}
use Rattle.firmware_code.specs.Arrivals.{given}
use Rattle.mailbox_code.specs.Mailboxes.{is_postable, IsMailboxOf}
use Rattle.eval_code.specs.Firing.{AreInputBytes}
use Rattle.firmware_runs.specs.Facts.{FactsBeside}
use Rattle.mailbox_runs.specs.{Turns.Turn, Turns.AreTurns, Turns.samples_of, Runs.arrival, Runs.steps_of}
use Rattle.mailbox_runs.specs.Answering.{ended, run_of_turns, answer_in, AllKeepFacts}
use Rattle.alone_runs.specs.Rows.{bytes_of}

-- a turn that answers one of n samples, after those that are done, takes as many steps as `steps` says, another 2 or
-- none
pub record HasSteps (n : ℕ) (steps : List ℕ → ℕ) (done : List ℕ) (t : Turn) : Type 0 where
  pub within : t.sample ≤ n
  pub rests : t.sample ≡ 0 → (t.steps ≡ 0) ⊎ (t.steps ≡ 2)
  pub answers : t.sample ≢ 0 → t.steps ≡ steps (done ++ t.sample ∷ [])

abbrev pub HaveSteps : ℕ → (List ℕ → ℕ) → List ℕ → List Turn → Type 0
HaveSteps n steps done [] = Unit {0}
HaveSteps n steps done (t ∷ ts) =
    HasSteps n steps done t × HaveSteps n steps (if t.sample == 0 then done else done ++ t.sample ∷ []) ts

-- The turns of good posts do.
abbrev pub TurnsHaveSteps : Type 0
TurnsHaveSteps =
    (n samples : ℕ) (steps : List ℕ → ℕ) (posts : List Post) (turns : List Turn) → AreGoodPosts samples posts
    → AreTurns n steps 0 0 [] posts turns → HaveSteps samples steps [] turns

-- an idle turn: POSTED is 0, and the code waits again
pub record IsIdleRun (f : Firmware) (flags : ℕ) (s : State) : Type 0 where
  pub looked : State
  pub chosen : State
  pub look : IsLook f.memory_map (image_memory f.image.bytes) flags s looked
  pub choice : IsChoice f.memory_map (image_memory f.image.bytes) flags looked chosen
  pub first : uninterrupted flags 1 s ≡ looked
  pub second : uninterrupted flags 2 s ≡ chosen

-- A turn of n steps that answers, from the state with its sample in the mailbox: POSTED is seen, MAIL copied, and EVAL
-- called at boundary f.inputs + 5. From there on the states keep the facts beside handlers to which the mailbox is open
-- too, and PC is not where the code waits, up to the end.
pub record IsAnswerRun (f : Firmware) (flags n : ℕ) (s : State) : Type 0 where
  pub looked : State
  pub chosen : State
  pub called : State
  pub look : IsLook f.memory_map (image_memory f.image.bytes) flags s looked
  pub choice : IsChoice f.memory_map (image_memory f.image.bytes) flags looked chosen
  pub on : IsAt (image_memory f.image.bytes) (f.memory_map.wait + 5) chosen
  pub copy : IsCopied f.memory_map f.inputs (image_memory f.image.bytes) flags chosen called
  pub first : uninterrupted flags 1 s ≡ looked
  pub second : uninterrupted flags 2 s ≡ chosen
  pub third : uninterrupted flags 3 s ≡ copy.masked
  pub call : uninterrupted flags (f.inputs + 5) s ≡ called
  pub behind : f.inputs + 5 < n
  pub within : n ≤ f.step_bound
  pub facts : (j : ℕ) → f.inputs + 5 ≤ j → j < n → FactsBeside is_postable flags f (uninterrupted flags j s)
  pub away : (j : ℕ) → f.inputs + 5 ≤ j → j < n → (uninterrupted flags j s).regs.pc ≢ f.memory_map.wait

-- A turn begins where the code waits and no sample is posted; so does the next.
pub record IsTurnRun (f : Firmware) (flags : ℕ) (samples : List (List ℕ)) (t : Turn) (s : State) : Type 0 where
  pub at : IsAt (image_memory f.image.bytes) f.memory_map.wait s
  pub cleared : slice_index s.mem f.memory_map.sample_flag ≡ 0
  pub rests : t.sample ≡ 0 → (t.steps ≡ 0) ⊎ ((t.steps ≡ 2) × IsIdleRun f flags s)
  pub answers : t.sample ≢ 0 → IsAnswerRun f flags t.steps (given f.memory_map (bytes_of samples t.sample) s)
  pub at_end : IsAt (image_memory f.image.bytes) f.memory_map.wait (ended flags f samples t s)
  pub cleared_at_end : slice_index (ended flags f samples t s).mem f.memory_map.sample_flag ≡ 0

abbrev pub AllTurnRuns : Firmware → ℕ → List (List ℕ) → List Turn → State → Type 0
AllTurnRuns f flags samples [] s = Unit {0}
AllTurnRuns f flags samples (t ∷ ts) s =
    IsTurnRun f flags samples t s × AllTurnRuns f flags samples ts (ended flags f samples t s)

-- What a list of turns gives without interrupts, from the first arrival where the code waits: the answers are the
-- uninterrupted ones of the samples that are answered, and the block's, within the firmware's bound.
pub record RunsTurns (b : Block) (f : Firmware) (flags : ℕ) (samples : List (List ℕ)) (turns : List Turn)
    : Type 0 where
  pub arrived : (arrival f samples flags).arrived ≡ true
  pub runs : AllTurnRuns f flags samples turns (arrival f samples flags).state
  pub answers_are : AreUninterrupted f flags (map (bytes_of samples) (samples_of turns))
      (map answer_in (run_of_turns flags f samples turns (arrival f samples flags).state).answers)
  pub of_block : AreAnswersOf f.width b f.instr_bound (λ o. 0) (map (bytes_of samples) (samples_of turns))
      (map answer_in (run_of_turns flags f samples turns (arrival f samples flags).state).answers)
  pub facts : AllKeepFacts flags f samples turns (arrival f samples flags).state

-- The mailbox firmware of a block runs its turns so.
abbrev pub MailboxRunsTurns : Type 0
MailboxRunsTurns =
    (b : Block) (f : Firmware) (flags : ℕ) (samples : List (List ℕ)) (turns : List Turn) → IsValid b
    → IsWithinLimits b → IsMailboxOf b f → flags < 2 ^ 8 → All (AreInputBytes b) samples
    → HaveSteps (length samples) (steps_of flags f samples) [] turns → RunsTurns b f flags samples turns
