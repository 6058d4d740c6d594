-- Levels, from the numbers of their rows.
use Rattle.std.proofs.Common.{◌≡◌, ◌≤◌, ◌<◌, ◌+◌, ◌-◌, ℕ, zero, suc, Bool, true, false, List, [], ◌∷◌, length, take}
use Rattle.std.proofs.Common.{drop, get_or, refl, sym, ◌∙◌, ap, arith}
use Rattle.std.specs.Prelude.{All, map, MatchOption, Option, Some, None}
use Rattle.std.specs.Bool.{IsTrue, MatchBool}
use Rattle.std.specs.List.{IsAllAdjacentAnswer}
use Rattle.std.specs.List.Sorted.{IsNonDecreasing}
use Rattle.std.specs.Ordering.{is_le, nat_cmp}
use Rattle.std.proofs.lemmas.List.Sorted.{non_decreasing_from_is_sorted}
use Rattle.std.proofs.lemmas.List.Elements.{All-cons, All-nil, All-tail}
use Rattle.trace_io.specs.FirstRows.{Fields}
use Rattle.interrupt_plan.specs.{declared.levels.Level.Level, Rows.AreInOrder, Rows.SpellAll, Rows.count_of}
use Rattle.interrupt_plan.specs.Levels.{AreGoodLevels, IsGoodLevel, LevelNotAfter, SpellsLevel, no_writes, numbers_of}
use Rattle.interrupt_plan.proofs.PlanLemmas.{count_small, take_all}

-- ---- the numbers of fields

abbrev AreNumbers : Fields → List ℕ → Type 0
AreNumbers fields ns = map count_of fields ≡ map Some ns

none_among : {X : Type 0} (f : X → Option ℕ) (d : X) (xs : List X) (ns : List ℕ) (i : ℕ) → map f xs ≡ map Some ns
    → i < length xs
    → f (get_or xs i d) ≡ None → ⊥
none_among f d [] ns i is lt none = omega arith
none_among f d (x ∷ xs) [] i is lt none = cc
none_among f d (x ∷ xs) (n ∷ ns) zero is lt none =
    let here : f x ≡ Some n = cc in
    let bad : Some n ≡ None = sym here ∙ none in
    cc
none_among f d (x ∷ xs) (n ∷ ns) (suc i) is lt none =
    let rest : map f xs ≡ map Some ns = cc in
    none_among f d xs ns i rest (omega arith) none

pub no_number : (fields : Fields) (i : ℕ) (field : List ℕ) (ns : List ℕ) → i < length fields
    → get_or fields i [] ≡ field → None ≡ count_of field
    → AreNumbers fields ns → ⊥
no_number fields i field ns lt is none are = none_among count_of [] fields ns i are lt (ap count_of is ∙ sym none)

one_list : (ns ms : List ℕ) → map Some ns ≡ map Some ms → ns ≡ ms
one_list [] [] is = refl
one_list [] (m ∷ ms) is = cc
one_list (n ∷ ns) [] is = cc
one_list (n ∷ ns) (m ∷ ms) is =
    let here : n ≡ m = cc in
    let rest : map Some ns ≡ map Some ms = cc in
    ap (λ (k : ℕ). k ∷ ns) here ∙ ap (λ (l : List ℕ). m ∷ l) (one_list ns ms rest)

pub one_numbers : (fields : Fields) (ns ms : List ℕ) → AreNumbers fields ns → AreNumbers fields ms → ns ≡ ms
one_numbers fields ns ms are are' = one_list ns ms (sym are ∙ are')

abbrev IsSmall : ℕ → Type 0
IsSmall n = n ≤ 999999999

pub small_numbers : (fields : Fields) (ns : List ℕ) → AreNumbers fields ns → All IsSmall ns
small_numbers [] [] are = All-nil IsSmall
small_numbers [] (n ∷ ns) are = cc
small_numbers (f ∷ fs) [] are = All-nil IsSmall
small_numbers (f ∷ fs) (n ∷ ns) are =
    let here : count_of f ≡ Some n = cc in
    let rest : AreNumbers fs ns = cc in
    All-cons IsSmall n ns (count_small f n here) (small_numbers fs ns rest)

-- ---- the level of numbers

-- what a test of neighbours answers
pub rises_as : (xs : List ℕ) (r : Bool) → IsAllAdjacentAnswer (λ x y b. is_le (nat_cmp x y) ≡ b) xs r
    → (IsTrue r → IsNonDecreasing xs) × (IsNonDecreasing xs → IsTrue r)
rises_as xs r cases = go r (non_decreasing_from_is_sorted xs r cases)
  where
    go : (r : Bool) → MatchBool r (IsNonDecreasing xs)
        ((k : ℕ) × (k + 1 < length xs) × ((d : ℕ) → get_or xs (k + 1) d < get_or xs k d))
        → (IsTrue r → IsNonDecreasing xs) × (IsNonDecreasing xs → IsTrue r)
    go true rise = ((λ yes. rise), (λ rise. refl))
    go false (k, lt, falls) =
        ((λ no. cc), (λ rise. let up = rise k (k + 1) 0 (omega arith) lt in absurd (omega (arith, up, falls 0))))

behind_three : (a b c : ℕ) (ns : List ℕ) → take (length (a ∷ b ∷ c ∷ ns) - 3) (drop 3 (a ∷ b ∷ c ∷ ns)) ≡ ns
behind_three a b c ns = take_all (length (a ∷ b ∷ c ∷ ns) - 3) ns (omega arith)

pub three_and_more : (ns : List ℕ) → 3 ≤ length ns
    → ns ≡ get_or ns 0 0 ∷ get_or ns 1 0 ∷ get_or ns 2 0 ∷ take (length ns - 3) (drop 3 ns)
three_and_more [] some = absurd (omega arith)
three_and_more (a ∷ []) some = absurd (omega arith)
three_and_more (a ∷ b ∷ []) some = absurd (omega arith)
three_and_more (a ∷ b ∷ c ∷ ns) some = ap (λ (l : List ℕ). a ∷ b ∷ c ∷ l) (sym (behind_three a b c ns))

pub small_behind : (a b c : ℕ) (ns : List ℕ) → All IsSmall (a ∷ b ∷ c ∷ ns) → All IsSmall ns
small_behind a b c ns small =
    All-tail IsSmall c ns (All-tail IsSmall b (c ∷ ns) (All-tail IsSmall a (b ∷ c ∷ ns) small))

pub inner_of : (ns : List ℕ) (l : Level) → ns ≡ numbers_of l → take (length ns - 3) (drop 3 ns) ≡ l.inner.items
inner_of ns l is = ap (λ (ms : List ℕ). take (length ms - 3) (drop 3 ms)) is
    ∙ behind_three l.sample l.moment l.fast l.inner.items

abbrev IsLevelOf : List ℕ → ℕ → Level → Type 0
IsLevelOf ns fast l = (ns ≡ numbers_of l) × IsGoodLevel fast l

pub spelled_by : (fields : Fields) (ns : List ℕ) (fast : ℕ) → AreNumbers fields ns → (r : Option Level)
    → MatchOption r ((l : Level) → ns ≡ numbers_of l → IsGoodLevel fast l → ⊥) (IsLevelOf ns fast)
    → MatchOption r ((l : Level) → SpellsLevel fast fields l → ⊥) (SpellsLevel fast fields)
spelled_by fields ns fast are None none =
    λ l spelled. none l (one_numbers fields ns (numbers_of l) are spelled.numbers) spelled.good
spelled_by fields ns fast are (Some l) is = record { numbers = are ∙ ap (map Some) is.0; good = is.1 }

-- ---- good levels

good_each : (fast : ℕ) (rows : List Fields) (ls : List Level) → SpellAll (SpellsLevel fast) rows ls
    → All (IsGoodLevel fast) ls
good_each fast [] [] spelled = All-nil (IsGoodLevel fast)
good_each fast [] (l ∷ ls) spelled = absurd spelled
good_each fast (row ∷ rows) [] spelled = absurd spelled
good_each fast (row ∷ rows) (l ∷ ls) spelled =
    All-cons (IsGoodLevel fast) l ls spelled.0.good (good_each fast rows ls spelled.1)

pub good_levels : (fast : ℕ) (rows : List Fields) (ls : List Level) → SpellAll (SpellsLevel fast) rows ls
    → AreInOrder no_writes LevelNotAfter ls
    → AreGoodLevels fast ls
good_levels fast rows ls spelled order =
    record { few = order.few; each = good_each fast rows ls spelled; ascends = order.ascends }
