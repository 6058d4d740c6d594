-- A name that gets a value.
use Rattle.std.proofs.Common.{◌≡◌, ℕ, ◌<◌, List, [], ◌∷◌, length, Option, Some, None, is_some, refl, arith}
use Rattle.std.proofs.lemmas.Map.Text.{btree_map_updates_str}
use Rattle.std.specs.BTreeMap.{BTreeMap, UpdatesBy}
use Rattle.std.specs.Borrow.{Bor}
use Rattle.std.specs.Cmp.Lexicographic.{slice_cmp}
use Rattle.std.specs.Option.{option_copied}
use Rattle.std.specs.Ordering.{nat_cmp}
use Rattle.cpu12_asm.specs.{Names.value_in, Values.with_value, Values.is_given}

pub value_in-set : (name : List ℕ) (m n : BTreeMap (Bor (List ℕ)) ℕ) (v : ℕ) → 0 < length name
    → UpdatesBy (λ x y. slice_cmp nat_cmp x.now y.now) (λ k. slice_cmp nat_cmp name k.now) m n (Some v)
    → value_in n ≡ with_value (value_in m) name v
value_in-set [] m n v some u = absurd (omega arith)
value_in-set (b ∷ bs) m n v some u = λ i q. btree_map_updates_str (b ∷ bs) m n (Some v) u q i

pub is_given-named : (value : List ℕ → Option ℕ) (name : List ℕ) → 0 < length name
    → is_given value name ≡ is_some (value name)
is_given-named value [] some = absurd (omega arith)
is_given-named value (b ∷ bs) some = refl

pub is_some-copied : (o : Option (Bor ℕ)) → is_some o ≡ is_some (option_copied o)
is_some-copied None = refl
is_some-copied (Some v) = refl
