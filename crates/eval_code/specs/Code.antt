-- The code of EVAL, instruction by instruction.
-- Beside the promise.
use Rattle.std.specs.Prelude.{ℕ, ◌+◌, ◌-◌, List, [], ◌∷◌, ◌++◌, length, take, replicate, sum_by, Option, Some}
use Rattle.std.specs.Prelude.{None, option_map}
use Rattle.fuzzy_meaning.specs.declared.{block.Block.Block, block.Input.Input, block.Output.Output}
use Rattle.byte_scaling.specs.Cells.{nearest_byte}
use Rattle.rule_layout.specs.declared.{flat.Slot.Slot, flat.RuleInstruction.RuleInstruction}
use Rattle.rule_layout.specs.declared.flat.Slot.TheVariants.{Term, Complement, Out}
use Rattle.rule_layout.specs.declared.flat.RuleInstruction.TheVariants as instruction
use Rattle.rule_layout.specs.{Slots.slots_of, Slots.term_count, Slots.singleton_count, Layouts.instruction_of}
use Rattle.cpu12_isa.specs.declared.instr.Instr.{Instr}
use Rattle.cpu12_isa.specs.declared.instr.Instr.TheVariants.{LdaaImmediate, LdaaExtended, LdabImmediate, LdxImmediate}
use Rattle.cpu12_isa.specs.declared.instr.Instr.TheVariants.{LdyImmediate, StaaExtended, StabExtended, ClrExtended}
use Rattle.cpu12_isa.specs.declared.instr.Instr.TheVariants.{Coma, CpxImmediate, Beq, Bra, Andcc, Orcc, TransferXD}
use Rattle.cpu12_isa.specs.declared.instr.Instr.TheVariants.{TransferYD, Ediv, Fdiv, Mem, Rev, Revw, Wav}
use Rattle.eval_code.specs.declared.memory_map.MemoryMap.{MemoryMap}
use Rattle.byte_scaling.specs.declared.{width.Width.Width, width.Width.TheVariants.Byte, width.Width.TheVariants.Word}
use Rattle.byte_scaling.specs.Widths.{places}

-- the grades of each input's byte, of which the first stands at this address, under its terms' tables, one after
-- another
abbrev pub fuzzify_code : ℕ → List Input → List Instr
fuzzify_code at [] = []
fuzzify_code at (input ∷ inputs) =
    LdaaExtended at ∷ (replicate (length input.terms) Mem ++ fuzzify_code (at + 1) inputs)

-- how many terms the inputs before this one have
abbrev pub terms_before : List Input → ℕ → ℕ
terms_before inputs i = sum_by term_count (take (i - 1) inputs)

-- what a slot at this address gets before the rules: a term's has its grade; a complement is 255 minus that; an
-- output's term begins at 0
abbrev pub slot_code : ℕ → List Input → ℕ → Slot → List Instr
slot_code slots inputs at (Term i t) = []
slot_code slots inputs at (Complement i t) =
    LdaaExtended (slots + (terms_before inputs i + (t - 1))) ∷ Coma ∷ StaaExtended at ∷ []
slot_code slots inputs at (Out o t) = ClrExtended at ∷ []

-- the same for slots one after another
abbrev pub slots_code : ℕ → List Input → ℕ → List Slot → List Instr
slots_code slots inputs at [] = []
slots_code slots inputs at (s ∷ ss) = slot_code slots inputs at s ++ slots_code slots inputs (at + 1) ss

-- the rule list over the slots, from A 255 and V 0, with its weights where it has some
abbrev pub rules_code : MemoryMap → RuleInstruction → List Instr
rules_code l instruction.Rev = LdxImmediate l.rules ∷ LdyImmediate l.slots ∷ LdaaImmediate 0xFF ∷ Andcc 0xFD ∷ Rev ∷ []
rules_code l instruction.Revw =
    LdxImmediate l.rules ∷ LdyImmediate l.weights ∷ LdaaImmediate 0xFF ∷ Andcc 0xFD ∷ Orcc 0x01 ∷ Revw ∷ []

-- the bytes of a word: the quotient, and what the remainder makes
abbrev pub word_code : ℕ → List Instr
word_code at = Ediv ∷ Fdiv ∷ TransferYD ∷ StabExtended at ∷ TransferXD ∷ StaaExtended (at + 1) ∷ []

-- the answer from the sums; where the sum of the masses is 0, the default's byte, or with NC none
abbrev pub quotient_code : Width → ℕ → Option ℕ → List Instr
quotient_code Byte at (Some byte) =
    CpxImmediate 0 ∷ Beq 5 ∷ Ediv ∷ TransferYD ∷ Bra 2 ∷ LdabImmediate byte ∷ StabExtended at ∷ []
quotient_code Byte at None = CpxImmediate 0 ∷ Beq 6 ∷ Ediv ∷ TransferYD ∷ StabExtended at ∷ []
quotient_code Word at (Some byte) =
    CpxImmediate 0 ∷ Beq 15 ∷ (word_code at ++ Bra 8 ∷ LdabImmediate byte ∷ StabExtended at ∷ ClrExtended (at + 1) ∷ [])
quotient_code Word at None = CpxImmediate 0 ∷ Beq 13 ∷ word_code at

-- an output's answer to an address, from its singletons and its slots
abbrev pub output_code : Width → ℕ → ℕ → ℕ → Output → List Instr
output_code w singletons slots at o =
    LdxImmediate singletons ∷ LdyImmediate slots ∷ LdabImmediate (length o.singletons) ∷ Wav
    ∷ quotient_code w at (option_map (nearest_byte o) o.default)

-- the same for outputs one after another
abbrev pub outputs_code : Width → ℕ → ℕ → ℕ → List Output → List Instr
outputs_code w singletons slots at [] = []
outputs_code w singletons slots at (o ∷ os) =
    output_code w singletons slots at o
    ++ outputs_code w (singletons + length o.singletons) (slots + length o.singletons) (at + places w) os

-- how many slots stand before those of the outputs' terms
abbrev pub input_slots : List Slot → List Output → ℕ
input_slots slots outputs = length slots - sum_by singleton_count outputs

-- EVAL, the answers to the inputs' bytes, over slots and with rules for this instruction; what stands behind it is its
-- caller's
abbrev pub eval_code_over : MemoryMap → Width → List Input → List Output → List Slot → RuleInstruction → List Instr
eval_code_over l w inputs outputs slots f =
    (LdxImmediate l.tables ∷ LdyImmediate l.slots ∷ [])
    ++ (fuzzify_code l.inputs inputs
    ++ (slots_code l.slots inputs l.slots slots
    ++ (rules_code l f
    ++ outputs_code w l.singletons (l.slots + input_slots slots outputs) l.outputs outputs)))

abbrev pub eval_code : MemoryMap → Block → Width → List Instr
eval_code l b w = eval_code_over l w b.inputs b.outputs (slots_of b) (instruction_of b)

-- EVAL with the code before and behind it
abbrev pub block_code : MemoryMap → Block → Width → List Instr → List Instr → List Instr
block_code l b w before behind = before ++ (eval_code l b w ++ behind)
