-- The uninterrupted answers of a firmware: whole instructions alone, from reset.
-- Beside the promise.
use Rattle.std.specs.Prelude.{◌≡◌, ℕ, zero, suc, ◌+◌, ◌-◌, ◌^◌, ◌<◌, ◌≤◌, ◌==◌, Bool, List, [], ◌∷◌, length, All}
use Rattle.std.specs.Prelude.{slice_index}
use Rattle.fuzzy_meaning.specs.declared.block.Block.{Block}
use Rattle.cpu12_isa.specs.Memory.{word_of}
use Rattle.cpu12_parts.specs.{State.State, Executions.IsUntil}
use Rattle.cpu12_emul.specs.{Image.image_memory, Step.reset_with}
use Rattle.eval_code.specs.{declared.memory_map.MemoryMap.MemoryMap, Widths.answer, Firing.AreInputBytes}
use Rattle.byte_scaling.specs.declared.{width.Width.Width, width.Width.TheVariants.Byte, width.Width.TheVariants.Word}
use Rattle.byte_scaling.specs.Widths.{places}
use Rattle.firmware_code.specs.{declared.firmware.Firmware.Firmware, Interruptible.is_idle, Arrivals.given}

-- the output values, and the number of instructions from the write of the inputs on
pub record Answer : Type 0 where
  pub values : List ℕ
  pub instructions : ℕ

-- the value of an answer that stands at an address, and n values from there on
abbrev pub value_at : Width → List ℕ → ℕ → ℕ
value_at Byte mem at = slice_index mem at
value_at Word mem at = word_of (slice_index mem at) (slice_index mem (at + 1))

abbrev pub values_from : Width → List ℕ → ℕ → ℕ → List ℕ
values_from w mem at zero = []
values_from w mem at (suc n) = value_at w mem at ∷ values_from w mem (at + places w) n

-- the values of a firmware's outputs
abbrev pub values_in : Firmware → State → List ℕ
values_in f s = values_from f.width s.mem f.memory_map.outputs f.outputs

-- PC is where the code waits
abbrev pub is_waiting : MemoryMap → State → Bool
is_waiting l s = s.regs.pc == l.wait

-- a sample is given in one state where the code waits, and answered in the next
pub record IsAnswerTo (f : Firmware) (flags : ℕ) (bytes : List ℕ) (s t : State) (a : Answer) : Type 0 where
  pub ds : List ℕ
  pub until : IsUntil (is_idle f.memory_map) flags ds (given f.memory_map bytes s) t
  pub values : a.values ≡ values_in f t
  pub instructions : a.instructions ≡ length ds

abbrev pub AreAnswersTo : Firmware → ℕ → List (List ℕ) → List Answer → State → Type 0
AreAnswersTo f flags [] [] s = Unit {0}
AreAnswersTo f flags [] (a ∷ answers) s = ⊥
AreAnswersTo f flags (bytes ∷ samples) [] s = ⊥
AreAnswersTo f flags (bytes ∷ samples) (a ∷ answers) s =
    (t : State) × (IsAnswerTo f flags bytes s t a × AreAnswersTo f flags samples answers t)

-- the answers to a list of samples, from the first arrival where the code waits
pub record AreUninterrupted (f : Firmware) (flags : ℕ) (samples : List (List ℕ)) (answers : List Answer) : Type 0 where
  pub first : State
  pub ds : List ℕ
  pub arrived : IsUntil (is_waiting f.memory_map) flags ds (reset_with (image_memory f.image.bytes)) first
  pub each : AreAnswersTo f flags samples answers first

-- They have one value.
abbrev pub UninterruptedAreOne : Type 0
UninterruptedAreOne =
    (f : Firmware) (flags : ℕ) (samples : List (List ℕ)) (xs ys : List Answer) → AreUninterrupted f flags samples xs
    → AreUninterrupted f flags samples ys → xs ≡ ys

-- an answer has a block's answers over bytes after those before, by at most so many instructions
pub record IsAnswerOf (w : Width) (b : Block) (most : ℕ) (before : ℕ → ℕ) (bytes : List ℕ) (a : Answer) : Type 0 where
  pub values : (o : ℕ) → 1 ≤ o → o ≤ length b.outputs → slice_index a.values (o - 1) ≡ answer w b o bytes (before o)
  pub count : length a.values ≡ length b.outputs
  pub instructions : a.instructions ≤ most

-- those to a list of samples, each after the one before
abbrev pub AreAnswersOf : Width → Block → ℕ → (ℕ → ℕ) → List (List ℕ) → List Answer → Type 0
AreAnswersOf w b most before [] [] = Unit {0}
AreAnswersOf w b most before [] (a ∷ answers) = ⊥
AreAnswersOf w b most before (bytes ∷ samples) [] = ⊥
AreAnswersOf w b most before (bytes ∷ samples) (a ∷ answers) =
    IsAnswerOf w b most before bytes a × AreAnswersOf w b most (λ o. answer w b o bytes (before o)) samples answers

-- the uninterrupted answers to every list of samples exist, and are a block's, within the firmware's bound
abbrev pub AnswersUninterrupted : Block → Firmware → Type 0
AnswersUninterrupted b f = (flags : ℕ) (samples : List (List ℕ)) → flags < 2 ^ 8 → All (AreInputBytes b) samples
    → (answers : List Answer) × (AreUninterrupted f flags samples answers
    × AreAnswersOf f.width b f.instr_bound (λ o. 0) samples answers)
