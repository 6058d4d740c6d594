-- Bytes whose addresses ascend are one list.
use Rattle.std.proofs.Common.{◌≡◌, ℕ, Bool, true, false, cond, List, [], ◌∷◌, refl, sym, ap, ◌∙◌}
use Rattle.std.proofs.lemmas.Cmp.{nat_cmp_total}
use Rattle.std.proofs.lemmas.Map.Lookups.{exact_unsigned}
use Rattle.std.specs.BTreeMap.{is_at}
use Rattle.std.specs.FinMap.Entries.{below_all, find, is_sorted, same_entries}
use Rattle.std.specs.List.{AllByRecursion}
use Rattle.std.specs.List.Sorted.{IsStrictlySortedBy}
use Rattle.std.specs.Map.{keys_of}
use Rattle.std.specs.Ordering.{nat_cmp}
use Rattle.std.specs.Prelude.{◌&&◌, T, Some}
use Rattle.std.specs.declared.cmp.Ordering.TheVariants.{Less}
use Rattle.cpu12_asm.specs.{Bytes.IsAscending, Bytes.byte_at, Laws.AscendingBytesAreOne}

-- ---- bytes that ascend are in the order of their addresses

both : (a b : Bool) → T a → T b → T (a && b)
both true b x y = y
both false b x y = absurd x

all_above : (k : ℕ) (bytes : List (ℕ × ℕ)) → AllByRecursion (λ y. nat_cmp k y ≡ Less) (keys_of bytes)
    → T (below_all nat_cmp k bytes)
all_above k [] h = tt
all_above k (b ∷ bytes) h = rw h.0 (all_above k bytes h.1)

rises : (bytes : List (ℕ × ℕ)) → IsAscending bytes → T (is_sorted nat_cmp bytes)
unfolding IsStrictlySortedBy
rises [] h = tt
rises (b ∷ bytes) h = both _ _ (all_above b.0 bytes h.0) (rises bytes h.1)

find_is : (q : ℕ) (bytes : List (ℕ × ℕ)) → find nat_cmp q bytes ≡ byte_at bytes q
find_is q [] = refl
find_is q (b ∷ bytes) = ap (cond (is_at (nat_cmp q) b.0) (Some b.1)) (find_is q bytes)

-- ---- so they are one list

pub one_list : AscendingBytesAreOne
one_list bytes others ascend ascend' same =
    same_entries nat_cmp nat_cmp_total exact_unsigned bytes others (rises bytes ascend) (rises others ascend')
    (λ at. find_is at bytes ∙ same at ∙ sym (find_is at others))
