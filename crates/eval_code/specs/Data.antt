-- The bytes of a firmware beside its code.
-- Beside the promise.
use Rattle.std.specs.Prelude.{ℕ, ◌/◌, ◌%◌, ◌^◌, List, [], ◌∷◌, map, flat_map}
use Rattle.fuzzy_meaning.specs.declared.{block.Block.Block, block.Output.Output}
use Rattle.byte_scaling.specs.Cells.{nearest_byte}
use Rattle.point_slope.specs.Tables.{table_of}
use Rattle.rule_layout.specs.declared.flat.RuleInstruction.{RuleInstruction}
use Rattle.rule_layout.specs.declared.flat.RuleInstruction.TheVariants as instruction
use Rattle.rule_layout.specs.{declared.flat.Conjunction.Conjunction, Lists.list_bytes, Lists.list_words}
use Rattle.rule_layout.specs.Layouts.{conjunctions_of, weights_of, instruction_of}

-- the tables of all input terms, four bytes each
abbrev pub table_bytes : Block → List ℕ
table_bytes b = flat_map (λ row. row) (table_of b)

-- the singletons' bytes, in the order of outputs and terms
abbrev pub singleton_bytes_of : Output → List ℕ
singleton_bytes_of o = map (nearest_byte o) o.singletons

abbrev pub singleton_bytes : Block → List ℕ
singleton_bytes b = flat_map singleton_bytes_of b.outputs

-- a byte for each conjunction, for REVW alone
abbrev pub weight_bytes_by : RuleInstruction → List ℕ → List ℕ
weight_bytes_by instruction.Rev weights = []
weight_bytes_by instruction.Revw weights = weights

abbrev pub weight_bytes : Block → List ℕ
weight_bytes b = weight_bytes_by (instruction_of b) (weights_of b)

-- a word's bytes, the high one first
abbrev pub bytes_of_word : ℕ → List ℕ
bytes_of_word w = (w / 2 ^ 8) ∷ (w % 2 ^ 8) ∷ []

-- the rule list: slots by their numbers for REV, by their addresses for REVW
abbrev pub rule_bytes_by : ℕ → RuleInstruction → List Conjunction → List ℕ
rule_bytes_by slots instruction.Rev conjunctions = list_bytes conjunctions
rule_bytes_by slots instruction.Revw conjunctions = flat_map bytes_of_word (list_words slots conjunctions)

abbrev pub rule_bytes : ℕ → Block → List ℕ
rule_bytes slots b = rule_bytes_by slots (instruction_of b) (conjunctions_of b)
