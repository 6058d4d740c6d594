-- The slots of a block, and their numbers.
-- Beside the promise.
use Rattle.std.specs.Prelude.{ℕ, ◌+◌, ◌==◌, ◌&&◌, ◌||◌, Bool, false, List, [], ◌∷◌, ◌++◌, map, filter, length}
use Rattle.std.specs.Prelude.{if◌then◌else◌}
use Rattle.std.specs.List.{range_with_len, list_any}
use Rattle.fuzzy_meaning.specs.declared.{block.Block.Block, block.Input.Input, block.Output.Output, block.Rule.Rule}
use Rattle.fuzzy_meaning.specs.Conditions.{Condition, Joins, joins, evaluate_pushed}
use Rattle.rule_layout.specs.{declared.flat.Slot.Slot, Spreading.Literal}
use Rattle.rule_layout.specs.declared.flat.Slot.TheVariants.{Term, Complement, Out}

-- the terms of variable i, of which there are n, and then those of the variables after it: each
-- a variable and a term of it, both from 1
abbrev pub terms_from : ℕ → List ℕ → List (ℕ × ℕ)
terms_from i [] = []
terms_from i (n ∷ ns) = map (λ t. (i, t)) (range_with_len 1 n) ++ terms_from (i + 1) ns

abbrev pub term_count : Input → ℕ
term_count x = length x.terms

abbrev pub singleton_count : Output → ℕ
singleton_count x = length x.singletons

abbrev pub input_terms : Block → List (ℕ × ℕ)
input_terms b = terms_from 1 (map term_count b.inputs)

abbrev pub output_terms : Block → List (ℕ × ℕ)
output_terms b = terms_from 1 (map singleton_count b.outputs)

-- OR and AND alike: some part does
abbrev pub in_some_part : Joins Bool
in_some_part = joins false (λ a b. a || b) false (λ a b. a || b)

-- the literal j, u is the complement of input i's term t
abbrev pub is_complement : ℕ → ℕ → Bool → ℕ → ℕ → Bool
is_complement i t odd j u = odd && (i == j && t == u)

-- input i and term t stand in the condition under an odd number of NOTs
abbrev pub has_complement : ℕ → ℕ → Bool → Condition → Bool
has_complement i t = evaluate_pushed in_some_part (is_complement i t)

-- some rule uses the complement of input i's term t
abbrev pub is_complemented : List Rule → ℕ → ℕ → Bool
is_complemented rules i t = list_any (λ r. has_complement i t false r.cond) rules

abbrev pub term_slot : ℕ × ℕ → Slot
term_slot p = Term p.0 p.1

abbrev pub complement_slot : ℕ × ℕ → Slot
complement_slot p = Complement p.0 p.1

abbrev pub out_slot : ℕ × ℕ → Slot
out_slot p = Out p.0 p.1

-- all input terms in the order of their declaration, the complements that some rule uses, in the
-- same order, and all output terms
unfoldable pub slots_of : Block → List Slot
slots_of b =
    map term_slot (input_terms b)
    ++ (map complement_slot (filter (λ p. is_complemented b.rules p.0 p.1) (input_terms b))
    ++ map out_slot (output_terms b))

abbrev pub is_same_slot : Slot → Slot → Bool
is_same_slot (Term i t) (Term j u) = i == j && t == u
is_same_slot (Complement i t) (Complement j u) = i == j && t == u
is_same_slot (Out i t) (Out j u) = i == j && t == u
is_same_slot _ _ = false

-- a slot's first place in a list of slots, from 0
abbrev pub number_in : List Slot → Slot → ℕ
number_in [] s = 0
number_in (x ∷ xs) s = if is_same_slot s x then 0 else number_in xs s + 1

abbrev pub literal_slot : Literal → Slot
literal_slot l = if l.complement then Complement l.input l.term else Term l.input l.term

abbrev pub literal_number : List Slot → Literal → ℕ
literal_number ss l = number_in ss (literal_slot l)

abbrev pub conclusion_number : List Slot → ℕ × ℕ → ℕ
conclusion_number ss p = number_in ss (out_slot p)
