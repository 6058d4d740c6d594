-- The firmware of a block whose tables are watched, and what it answers while a byte of them is upset.
-- Beside the promise.
use Rattle.std.specs.Prelude.{◌≡◌, ◌≢◌, ℕ, ◌+◌, ◌*◌, ◌^◌, ◌<◌, ◌≤◌, ◌==◌, not, Bool, true, false, List, [], ◌∷◌, ◌++◌}
use Rattle.std.specs.Prelude.{length, sum_by, All, Option, Some, None, slice_index, slice_set, if◌then◌else◌}
use Rattle.fz_num.specs.declared.dec.Dec.{Dec}
use Rattle.fuzzy_meaning.specs.declared.{block.Block.Block, block.Output.Output}
use Rattle.fuzzy_meaning.specs.Blocks.{IsValid, output_at}
use Rattle.byte_scaling.specs.{Cells.nearest_byte, declared.width.Width.TheVariants.Byte}
use Rattle.rule_layout.specs.Layouts.{IsWithinLimits}
use Rattle.cpu12_isa.specs.{declared.instr.Instr.TheVariants.Rts, Fits.AreBytes, Regions.is_free, Regions.vector}
use Rattle.cpu12_asm.specs.{declared.items.Item.Item, Bytes.byte_at}
use Rattle.cpu12_parts.specs.{State.State, Executions.Execution, Executions.all_steps}
use Rattle.cpu12_emul.specs.Image.{image_memory}
use Rattle.eval_code.specs.declared.memory_map.MemoryMap.{MemoryMap}
use Rattle.eval_code.specs.{Widths.answer, MemoryMaps.main_map, Bounds.instruction_bound, Bounds.steps_by}
use Rattle.eval_code.specs.{Items.block_items, Firing.AreInputBytes, Evaluation.HasAnswers}
use Rattle.firmware_code.specs.declared.firmware.Firmware.{Firmware}
use Rattle.firmware_code.specs.Interruptible.{is_idle, IsInterruptible, IsInterruptibleStep}
use Rattle.firmware_code.specs.{Images.vector_items, Images.IsImageOf, Arrivals.given, Arrivals.IsArrived}
use Rattle.watched_code.specs.declared.segments.Segment.{Segment}
use Rattle.watched_code.specs.WatchedCode.{segments_of, fault_at, watched_front, watched_map}

-- the items of its image: those of a block with the check before EVAL, and the vectors
abbrev pub watched_items : Block → List Item
watched_items b =
    block_items (watched_map b) b Byte (watched_front main_map b) (Rts ∷ []) ++ vector_items (watched_map b)

-- what a segment adds to the instructions of a sample: three for each byte, and one
abbrev pub segment_bound : Segment → ℕ
segment_bound s = 1 + 3 * length s.bytes

unfoldable pub watched_bound : Block → ℕ
watched_bound b = instruction_bound Byte b + 4 + sum_by segment_bound (segments_of main_map b)

-- a firmware is that of a block with watched tables
pub record IsWatchedFirmwareOf (b : Block) (f : Firmware) : Type 0 where
  pub image : IsImageOf (watched_items b) f.image
  pub memory_map : f.memory_map ≡ watched_map b
  pub inputs : f.inputs ≡ length b.inputs
  pub outputs : f.outputs ≡ length b.outputs
  pub width : f.width ≡ Byte
  pub instructions : f.instr_bound ≡ watched_bound b
  pub steps : f.step_bound ≡ steps_by b (watched_bound b)

-- A valid block within the limits has one.
abbrev pub BlocksHaveWatchedFirmware : Type 0
BlocksHaveWatchedFirmware =
    (b : Block) → IsValid b → IsWithinLimits b → (f : Firmware) × IsWatchedFirmwareOf b f

-- a byte of memory that holds another value while a sample is answered: its address, and what it holds
abbrev pub Change : Type 0
Change = ℕ × ℕ

abbrev pub changed : Option Change → List ℕ → List ℕ
changed None mem = mem
changed (Some c) mem = slice_set mem c.0 c.1

-- whether the value is another than the image's
abbrev pub is_upset : List ℕ → Option Change → Bool
is_upset image None = false
is_upset image (Some c) = not (slice_index image c.0 == c.1)

-- a sample's bytes, and the byte that is changed while it is answered
pub record Watched : Type 0 where
  pub bytes : List ℕ
  pub change : Option Change

-- the byte is one that the image has from the tables' start up to the vectors
abbrev pub IsTableChange : MemoryMap → List (ℕ × ℕ) → Option Change → Type 0
IsTableChange l image None = Unit {0}
IsTableChange l image (Some c) = (l.tables ≤ c.0) × (c.0 < vector) × (byte_at image c.0 ≢ None) × (c.1 < 2 ^ 8)

pub record IsGoodSample (b : Block) (l : MemoryMap) (image : List (ℕ × ℕ)) (x : Watched) : Type 0 where
  pub bytes : AreInputBytes b x.bytes
  pub change : IsTableChange l image x.change

-- an output's default's byte, or with NC the answer before
abbrev pub default_or : Output → Option Dec → ℕ → ℕ
default_or o None before = before
default_or o (Some d) before = nearest_byte o d

abbrev pub default_of : Option Output → ℕ → ℕ
default_of None before = before
default_of (Some o) before = default_or o o.default before

-- what output o answers to a sample, after the answer before: the block's answer, but the default where a byte is
-- upset
abbrev pub watched_answer : Block → List ℕ → Watched → ℕ → ℕ → ℕ
watched_answer b image x o before =
    if is_upset image x.change then default_of (output_at b o) before else answer Byte b o x.bytes before

-- and FAULT
abbrev pub watched_fault : List ℕ → Watched → ℕ
watched_fault image x = if is_upset image x.change then 1 else 0

-- a sample is given: its bytes and READY are written, and the byte is changed
abbrev pub upset_given : MemoryMap → Watched → State → State
upset_given l x s = record s { mem = changed x.change (given l x.bytes s).mem }

-- the change is taken away again: the image's byte stands there
abbrev pub restored : List ℕ → Option Change → State → State
restored image None s = s
restored image (Some c) s = record s { mem = slice_set s.mem c.0 (slice_index image c.0) }

-- From there at most so many whole instructions lead to where the code waits again, and memory from $2000 on is the
-- image with the byte changed. The answers and FAULT are the sample's.
pub record IsWatchAnswered (l : MemoryMap) (b : Block) (most : ℕ) (image : List ℕ) (flags : ℕ) (before : ℕ → ℕ)
    (x : Watched) (s t : State) : Type 0 where
  pub ds : List ℕ
  pub execution : Execution (IsInterruptibleStep is_free l (changed x.change image) flags) ds (upset_given l x s) t
  pub idle : is_idle l t ≡ true
  pub interruptible : IsInterruptible is_free (changed x.change image) t
  pub answers : HasAnswers l b Byte (λ o. watched_answer b image x o (before o)) t.mem
  pub fault : slice_index t.mem fault_at ≡ watched_fault image x
  pub instructions : length ds ≤ most
  pub steps : all_steps ds ≤ steps_by b most

-- a list of samples, each answered after the one before
abbrev pub AreWatchAnswered : MemoryMap → Block → ℕ → List ℕ → ℕ → (ℕ → ℕ) → List Watched → State → Type 0
AreWatchAnswered l b most image flags before [] s = Unit {0}
AreWatchAnswered l b most image flags before (x ∷ xs) s =
    (t : State) × (IsWatchAnswered l b most image flags before x s t
    × AreWatchAnswered l b most image flags (λ o. watched_answer b image x o (before o)) xs
    (restored image x.change t))

-- A firmware answers every list of samples so from reset, whatever the open flags are, with a byte of its tables
-- changed in each of them or in none.
abbrev pub AnswersWatched : Block → Firmware → Type 0
AnswersWatched b f =
    (flags : ℕ) (samples : List Watched) → flags < 2 ^ 8 → All (IsGoodSample b f.memory_map f.image.bytes) samples
    → (s : State) × (IsArrived f.memory_map (image_memory f.image.bytes) flags s
    × AreWatchAnswered f.memory_map b f.instr_bound (image_memory f.image.bytes) flags (λ o. 0) samples s)

-- The firmware of a block with watched tables does.
abbrev pub WatchedAnswers : Type 0
WatchedAnswers =
    (b : Block) (f : Firmware) → IsValid b → IsWithinLimits b → IsWatchedFirmwareOf b f → AnswersWatched b f

-- The memory of its image is one of bytes.
abbrev pub WatchedIsBytes : Type 0
WatchedIsBytes =
    (b : Block) (f : Firmware) → IsValid b → IsWithinLimits b → IsWatchedFirmwareOf b f
    → AreBytes (image_memory f.image.bytes)
