-- The numbers of slots in a list.
use Rattle.rule_layout.proofs.Words.{◌&&◌, ◌+◌, ◌<◌, ◌==◌, ◌∙◌, ◌∷◌, ◌≡◌, ◌≢◌, ◌≤◌, All, ap, arith, Bool, Complement}
use Rattle.rule_layout.proofs.Words.{drop, drop_more, false, get_or, is_same_slot, IsInTable, length, List, nat_tests}
use Rattle.rule_layout.proofs.Words.{number_in, Out, place_of, refl, Slot, subst, sym, table_number, Term, true, ℕ}
use Rattle.std.proofs.{Common.set, Common.true≢false, lemmas.List.get_or-set_same, lemmas.List.get_or-set_other}

same_numbers : (i t j u : ℕ) → i ≡ j → t ≡ u → (i == j && t == u) ≡ true
same_numbers i t j u e f = grind (arith, nat_tests)

numbers_from_same : (i t j u : ℕ) → (i == j && t == u) ≡ true → (i ≡ j) × (t ≡ u)
numbers_from_same i t j u e = (grind (arith, nat_tests), grind (arith, nat_tests))

-- two slots at one place are one slot
pub same_from_place : (s x : Slot) → IsInTable s → IsInTable x → place_of s ≡ place_of x → is_same_slot s x ≡ true
same_from_place (Term i t) (Term j u) h k e = same_numbers i t j u (omega arith) (omega arith)
same_from_place (Term i t) (Complement j u) h k e = absurd (omega arith)
same_from_place (Term i t) (Out j u) h k e = absurd (omega arith)
same_from_place (Complement i t) (Term j u) h k e = absurd (omega arith)
same_from_place (Complement i t) (Complement j u) h k e = same_numbers i t j u (omega arith) (omega arith)
same_from_place (Complement i t) (Out j u) h k e = absurd (omega arith)
same_from_place (Out i t) (Term j u) h k e = absurd (omega arith)
same_from_place (Out i t) (Complement j u) h k e = absurd (omega arith)
same_from_place (Out i t) (Out j u) h k e = same_numbers i t j u (omega arith) (omega arith)

pub slot_from_same : (s x : Slot) → is_same_slot s x ≡ true → s ≡ x
slot_from_same (Term i t) (Term j u) e = let h = numbers_from_same i t j u e in cc
slot_from_same (Term i t) (Complement j u) e = cc
slot_from_same (Term i t) (Out j u) e = cc
slot_from_same (Complement i t) (Term j u) e = cc
slot_from_same (Complement i t) (Complement j u) e = let h = numbers_from_same i t j u e in cc
slot_from_same (Complement i t) (Out j u) e = cc
slot_from_same (Out i t) (Term j u) e = cc
slot_from_same (Out i t) (Complement j u) e = cc
slot_from_same (Out i t) (Out j u) e = let h = numbers_from_same i t j u e in cc

pub place_below : (s : Slot) → IsInTable s → place_of s < 300
place_below (Term i t) h = omega arith
place_below (Complement i t) h = omega arith
place_below (Out i t) h = omega arith

-- the table's numbers, with one slot more from the end
pub numbers_more : (x : Slot) (rest : List Slot) (table : List ℕ) (k at : ℕ) → length table ≡ 300 → IsInTable x
    → at ≡ place_of x →
    ((s : Slot) → IsInTable s → number_in rest s < length rest → table_number table s ≡ (k + 1) + number_in rest s) →
    (s : Slot) → IsInTable s → number_in (x ∷ rest) s < length (x ∷ rest)
    → table_number (set table at k) s ≡ k + number_in (x ∷ rest) s
numbers_more x rest table k at size known here before s inside found = by_test (is_same_slot s x) refl
  where
    by_test : (b : Bool) → is_same_slot s x ≡ b → table_number (set table at k) s ≡ k + number_in (x ∷ rest) s
    by_test true e =
        let same = slot_from_same s x e in
        let place : place_of s ≡ at = ap place_of same ∙ sym here in
        let room : at < length table = omega (arith, place_below x known, size, here) in
        rw (place, e) (get_or-set_same table at k 0 room ∙ omega arith)
    by_test false e =
        let apart : place_of s ≢ at = λ p. true≢false (sym (same_from_place s x inside known (p ∙ here)) ∙ e) in
        let later : number_in rest s < length rest = omega (arith, rw e at found) in
        rw e (get_or-set_other table at (place_of s) k 0 apart ∙ (before s inside later ∙ omega arith))

-- the table has the numbers of the slots from the k-th on
abbrev pub NumbersFrom : List Slot → ℕ → List ℕ → Type 0
NumbersFrom ss k table = (s : Slot) → IsInTable s → number_in (drop k ss) s < length (drop k ss)
    → table_number table s ≡ k + number_in (drop k ss) s

pub NumbersFrom_more : (ss : List Slot) (n k at : ℕ) (d : Slot) (table : List ℕ) → k + 1 ≡ n → n ≤ length ss
    → length table ≡ 300 → All IsInTable ss → at ≡ place_of (get_or ss k d) →
    NumbersFrom ss n table → NumbersFrom ss k (set table at k)
NumbersFrom_more ss n k at d table next room size known here before =
    let lt : k < length ss = omega arith in
    let split = drop_more ss k d lt in
    let known_here : IsInTable (get_or ss k d) = known k d lt in
    let tail = subst (λ (m : ℕ). NumbersFrom ss m table) (sym next) before in
    subst (λ (w : List Slot). (s : Slot) → IsInTable s → number_in w s < length w
    → table_number (set table at k) s ≡ k + number_in w s) (sym split)
    (numbers_more (get_or ss k d) (drop (k + 1) ss) table k at size known_here here tail)
