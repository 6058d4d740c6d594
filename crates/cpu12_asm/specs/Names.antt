-- The values of names.
-- Beside the promise.
use Rattle.std.specs.Prelude.{ℕ, List, Option}
use Rattle.std.specs.BTreeMap.{BTreeMap, get_by}
use Rattle.std.specs.Borrow.{Bor}
use Rattle.std.specs.Cmp.Lexicographic.{slice_cmp}
use Rattle.std.specs.Ordering.{nat_cmp}

-- the value that a map has at a name
abbrev pub value_in : BTreeMap (Bor (List ℕ)) ℕ → List ℕ → Option ℕ
value_in names name = get_by (λ k. slice_cmp nat_cmp name k.now) names
