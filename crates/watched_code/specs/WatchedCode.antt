-- The code that checks a firmware's tables before EVAL.
-- Beside the promise.
use Rattle.std.specs.Prelude.{ℕ, ◌+◌, ◌-◌, ◌^◌, ◌<◌, ◌≤◌, List, [], ◌∷◌, ◌++◌, length, flat_map, Option, Some, None}
use Rattle.std.specs.Prelude.{option_map}
use Rattle.fuzzy_meaning.specs.declared.{block.Block.Block, block.Output.Output}
use Rattle.byte_scaling.specs.Cells.{nearest_byte}
use Rattle.rule_layout.specs.declared.flat.RuleInstruction.{RuleInstruction}
use Rattle.rule_layout.specs.declared.flat.RuleInstruction.TheVariants as instruction
use Rattle.rule_layout.specs.Layouts.{instruction_of, weights_of}
use Rattle.cpu12_isa.specs.{declared.instr.Instr.Instr, Code.code_bytes, Regions.stack_end}
use Rattle.cpu12_isa.specs.declared.instr.Instr.TheVariants.{LdabImmediate, LdxImmediate, StabExtended, ClrExtended}
use Rattle.cpu12_isa.specs.declared.instr.Instr.TheVariants.{CpxImmediate, Bne, Rts, AddbImmediate}
use Rattle.cpu12_isa.specs.declared.instr.Instr.TheVariants.{AddbPostIncrementX}
use Rattle.eval_code.specs.{declared.memory_map.MemoryMap.MemoryMap, MemoryMaps.main_map}
use Rattle.eval_code.specs.Data.{table_bytes, singleton_bytes, rule_bytes}
use Rattle.watched_code.specs.{declared.segments.Segment.Segment, Checksums.check_byte}
use Rattle.firmware_code.specs.Code.{frame_code}

-- FAULT, which is 1 where the tables are not what they were, and else 0
abbrev pub fault_at : ℕ
fault_at = 0x1030

-- the segment of these bytes from an address on
abbrev pub segment : ℕ → List ℕ → Segment
segment at bytes = record { at = at; bytes = bytes }

abbrev pub weight_segments : ℕ → RuleInstruction → List ℕ → List Segment
weight_segments at instruction.Rev weights = []
weight_segments at instruction.Revw weights = segment at weights ∷ []

-- the term tables, the singletons, the weights where there are some, and the rule list
abbrev pub segments_of : MemoryMap → Block → List Segment
segments_of l b =
    segment l.tables (table_bytes b) ∷ segment l.singletons (singleton_bytes b)
    ∷ (weight_segments l.weights (instruction_of b) (weights_of b) ++ segment l.rules (rule_bytes l.slots b) ∷ [])

-- their bytes, one after another
abbrev pub segment_bytes : List Segment → List ℕ
segment_bytes segments = flat_map (λ (s : Segment). s.bytes) segments

-- a segment lies above RAM, has a byte, and ends in memory
abbrev pub IsSegment : Segment → Type 0
IsSegment s = (stack_end ≤ s.at) × (1 ≤ length s.bytes) × (s.at + length s.bytes < 2 ^ 16)

abbrev pub AreSegments : List Segment → Type 0
AreSegments [] = Unit {0}
AreSegments (s ∷ segments) = IsSegment s × AreSegments segments

-- how many bytes code has
abbrev pub code_length : List Instr → ℕ
code_length code = length (code_bytes code)

-- an output's default's byte, or with NC nothing, stored at an address
abbrev pub default_code : ℕ → Option ℕ → List Instr
default_code at None = []
default_code at (Some byte) = LdabImmediate byte ∷ StabExtended at ∷ []

abbrev pub defaults_code : ℕ → List Output → List Instr
defaults_code at [] = []
defaults_code at (o ∷ os) = default_code at (option_map (nearest_byte o) o.default) ++ defaults_code (at + 1) os

-- BAD: FAULT is set, and the outputs get their defaults
abbrev pub bad_code : MemoryMap → List Output → List Instr
bad_code l outputs = LdabImmediate 1 ∷ StabExtended fault_at ∷ (defaults_code l.outputs outputs ++ Rts ∷ [])

-- a segment's bytes are added to B, of which one at least is there: back to ADDB as long as X is not behind the last
-- one
abbrev pub segment_code : Segment → List Instr
segment_code s = LdxImmediate s.at ∷ AddbPostIncrementX ∷ CpxImmediate (s.at + length s.bytes) ∷ Bne 0xF9 ∷ []

abbrev pub segments_code : List Segment → List Instr
segments_code segments = flat_map segment_code segments

-- how many bytes are between BAD and what stands behind the branch to it
abbrev pub back_to_bad : MemoryMap → List Output → List Segment → ℕ
back_to_bad l outputs segments =
    code_length (bad_code l outputs) + code_length (LdabImmediate 0 ∷ segments_code segments) + 4

-- the check: BAD where the segments' sum with the check byte is not 0, and else FAULT is cleared
abbrev pub check_code : MemoryMap → List Output → List Segment → List Instr
check_code l outputs segments =
    LdabImmediate 0 ∷ (segments_code segments
    ++ AddbImmediate (check_byte (segment_bytes segments)) ∷ Bne (2 ^ 8 - back_to_bad l outputs segments)
    ∷ ClrExtended fault_at ∷ [])

-- where BAD and the check stand: behind the frame's last instruction
abbrev pub bad_at : MemoryMap → ℕ
bad_at l = l.code + code_length (frame_code l)

abbrev pub check_at : MemoryMap → List Output → ℕ
check_at l outputs = bad_at l + code_length (bad_code l outputs)

-- the frame that calls the check, BAD, and the check, behind which EVAL stands
abbrev pub watched_front_over : MemoryMap → List Output → List Segment → List Instr
watched_front_over l outputs segments =
    frame_code (record l { eval = check_at l outputs }) ++ (bad_code l outputs ++ check_code l outputs segments)

abbrev pub watched_front : MemoryMap → Block → List Instr
watched_front l b = watched_front_over l b.outputs (segments_of l b)

abbrev pub watched_map_over : MemoryMap → List Output → List Segment → MemoryMap
watched_map_over l outputs segments = record l {
  eval = l.code
      + code_length (watched_front_over l outputs segments);
}

-- the memory map of a watched firmware: that of one that stands alone, with EVAL behind the check
abbrev pub watched_map : Block → MemoryMap
watched_map b = watched_map_over main_map b.outputs (segments_of main_map b)
