-- A table that says of each address whether it is in a set.
-- Beside the promise.
use Rattle.std.specs.Prelude.{◌≡◌, ℕ, Bool, false, List, length, slice_index_or}
use Rattle.std.specs.BTreeSet.{BTreeSet, contains_by}
use Rattle.std.specs.Ordering.{nat_cmp}

pub record AreFlags (set : BTreeSet ℕ) (table : List Bool) : Type 0 where
  pub size : length table ≡ 65536
  pub flags : (at : ℕ) → slice_index_or table at false ≡ contains_by (nat_cmp at) set
