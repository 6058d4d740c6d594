-- The turn in which the mailbox form answers a sample, without interrupts.
-- Beside the promise.
use Rattle.std.specs.Prelude.{◌≡◌, ℕ, ◌+◌, ◌^◌, ◌<◌, List, [], ◌∷◌, ◌++◌, length, slice_index}
use Rattle.fuzzy_meaning.specs.{declared.block.Block.Block, Blocks.IsValid}
use Rattle.rule_layout.specs.Layouts.{IsWithinLimits}
use Rattle.cpu12_parts.specs.{State.State, Executions.IsUntil}
use Rattle.cpu12_emul.specs.{Image.image_memory, Step.reset_with}
use Rattle.firmware_code.specs.{declared.firmware.Firmware.Firmware, Arrivals.given, Interruptible.is_idle}
use Rattle.firmware_code.specs.Uninterrupted.{is_waiting}
use Rattle.mailbox_code.specs.Turns.{IsAt, IsLook, IsChoice, IsCopied, IsTurned, IsReady}
use Rattle.mailbox_code.specs.Mailboxes.{IsMailboxOf}
use Rattle.eval_code.specs.{declared.memory_map.MemoryMap.MemoryMap, Firing.AreInputBytes, Evaluation.HasAnswers}
use Rattle.byte_scaling.specs.declared.width.Width.{Width}

-- A sample that is given in s is seen, copied and answered, and the code waits again in t. These are all instructions
-- of the turn.
pub record IsSampleTurn (l : MemoryMap) (b : Block) (w : Width) (most : ℕ) (image : List ℕ) (flags : ℕ) (before : ℕ → ℕ)
    (bytes : List ℕ) (s t : State) : Type 0 where
  pub looked : State
  pub look : IsLook l image flags (given l bytes s) looked
  pub chosen : State
  pub choice : IsChoice l image flags looked chosen
  pub on : IsAt image (l.wait + 5) chosen
  pub called : State
  pub copy : IsCopied l (length b.inputs) image flags chosen called
  pub turned : IsTurned l b w most image flags before bytes called t
  pub cleared : slice_index t.mem l.sample_flag ≡ 0
  pub until : IsUntil (is_idle l) flags (0 ∷ 0 ∷ 0 ∷ (copy.ds ++ turned.ds)) (given l bytes s) t

-- So a firmware answers samples, from its first arrival on.
pub record TakesSamples (l : MemoryMap) (b : Block) (w : Width) (most : ℕ) (image : List ℕ) (flags : ℕ) : Type 0 where
  pub first : State
  pub ready : IsReady l b w image flags first
  pub arrived : IsUntil (is_waiting l) flags (0 ∷ 0 ∷ 0 ∷ []) (reset_with image) first
  pub answers : (before : ℕ → ℕ) (bytes : List ℕ) (s : State) → AreInputBytes b bytes → IsAt image l.wait s
      → HasAnswers l b w before s.mem → (t : State) × IsSampleTurn l b w most image flags before bytes s t

-- The mailbox firmware of a block does, whatever the open flags are.
abbrev pub MailboxTakesSamples : Type 0
MailboxTakesSamples =
    (b : Block) (f : Firmware) (flags : ℕ) → IsValid b → IsWithinLimits b → IsMailboxOf b f → flags < 2 ^ 8
    → TakesSamples f.memory_map b f.width f.instr_bound (image_memory f.image.bytes) flags
