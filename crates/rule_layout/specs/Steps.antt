-- What the steps of laying out rules make, by a table of the slots' numbers.
-- Beside the promise.
use Rattle.std.specs.Prelude.{ℕ, List, map, All}
use Rattle.fuzzy_meaning.specs.declared.block.Rule.{Rule}
use Rattle.rule_layout.specs.{declared.flat.Conjunction.Conjunction, Spreading.Literal, Grid.FitsGrid, Slots.out_slot}
use Rattle.rule_layout.specs.{Tables.table_literal, Tables.table_number, Tables.IsInTable, Layouts.rule_spread}

-- a conjunction of a rule
abbrev pub table_conjunction : List ℕ → Rule → List Literal → Conjunction
table_conjunction table r ls = record {
  literals = map (table_literal table) ls;
  conclusions = map (λ p. table_number table (out_slot p)) r.concl;
}

abbrev pub table_conjunctions : List ℕ → Rule → List Conjunction
table_conjunctions table r = map (table_conjunction table r) (rule_spread r)

-- a rule that can be spread by a table
pub record IsSpreadable (r : Rule) : Type 0 where
  pub fits : FitsGrid r.cond
  pub conclusions : All (λ p. IsInTable (out_slot p)) r.concl

-- a conjunction with these conclusions
abbrev pub with_conclusions : List ℕ → List ℕ → Conjunction
with_conclusions conclusions ls = record { literals = ls; conclusions = conclusions }
