-- The uninterrupted answers of a firmware that stands alone.
-- Beside the promise.
use Rattle.std.specs.Prelude.{◌≡◌, ℕ, List, [], ◌∷◌, length}
use Rattle.fuzzy_meaning.specs.{declared.block.Block.Block, Blocks.IsValid}
use Rattle.rule_layout.specs.Layouts.{IsWithinLimits}
use Rattle.cpu12_parts.specs.State.{State}
use Rattle.cpu12_emul.specs.Image.{image_memory}
use Rattle.eval_code.specs.Widths.{answer}
use Rattle.firmware_code.specs.{declared.firmware.Firmware.Firmware, Arrivals.IsArrived}
use Rattle.firmware_code.specs.Uninterrupted.{Answer, values_in, AreUninterrupted, AreAnswersOf, AnswersUninterrupted}
use Rattle.alone_code.specs.{Firmwares.IsFirmwareOf, Answers.AreAnswered}

-- the answers of samples that whole instructions answer where interrupts may come
abbrev pub answers_by : (b : Block) (f : Firmware) (image : List ℕ) (flags : ℕ) (before : ℕ → ℕ)
    (samples : List (List ℕ)) (s : State)
    → AreAnswered f.memory_map b f.width f.instr_bound image flags before samples s → List Answer
answers_by b f image flags before [] s h = []
answers_by b f image flags before (bytes ∷ samples) s h =
    record { values = values_in f h.0; instructions = length h.1.0.ds }
    ∷ answers_by b f image flags (λ o. answer f.width b o bytes (before o)) samples h.0 h.1.1

-- They are the uninterrupted ones, and the block's, within the firmware's bound.
abbrev pub AnsweredAreUninterrupted : Type 0
AnsweredAreUninterrupted =
    (b : Block) (f : Firmware) (flags : ℕ) (samples : List (List ℕ)) (s : State) → f.outputs ≡ length b.outputs
    → IsArrived f.memory_map (image_memory f.image.bytes) flags s
    → (h : AreAnswered f.memory_map b f.width f.instr_bound (image_memory f.image.bytes) flags
    (λ o. 0) samples s)
    → AreUninterrupted f flags samples (answers_by b f (image_memory f.image.bytes) flags (λ o. 0) samples s h)
    × AreAnswersOf f.width b f.instr_bound
    (λ o. 0) samples (answers_by b f (image_memory f.image.bytes) flags (λ o. 0) samples s h)

-- Those of the firmware of a block exist, and are its.
abbrev pub FirmwareIsUninterrupted : Type 0
FirmwareIsUninterrupted =
    (b : Block) (f : Firmware) → IsValid b → IsWithinLimits b → IsFirmwareOf b f → AnswersUninterrupted b f
