-- What is noted again, and what has changed since.
use Rattle.std.proofs.Common.{◌≡◌, ◌≤◌, ◌<◌, ◌==◌, ℕ, suc, zero, Bool, true, false, not, List, [], ◌∷◌, length, get_or}
use Rattle.std.proofs.Common.{set, Option, Some, None, option_map, refl, ap, sym, ◌∙◌, subst, arith, inl, inr}
use Rattle.std.proofs.Common.{get_or-set_other, get_or-set_same}
use Rattle.std.proofs.lemmas.Bool.{cases_lt, eq-eqb, eqb-true, or_left, or_right, or_cases, false_from_ne_true}
use Rattle.std.proofs.lemmas.Bool.{false≢true, not-false}
use Rattle.std.proofs.lemmas.List.{get_or-replicate, get_or_past, length-replicate}
use Rattle.cpu12_isa.specs.Tags.{untagged}
use Rattle.cpu12_isa.specs.Watching.{noted_again, is_changed, any_changed, is_listed, AreListed, NothingIsWatched}

-- whether the byte at an address is another than the noted one
abbrev pub changed_at : List (Option ℕ) → List ℕ → ℕ → Bool
changed_at ns mem at = is_changed (get_or ns at None) (get_or mem at 0)

-- the table with the byte at one address noted again
abbrev pub noted_at : List (Option ℕ) → List ℕ → ℕ → List (Option ℕ)
noted_at ns mem at = set ns at (option_map (λ (b : ℕ). get_or mem at 0) (get_or ns at None))

-- of one noted byte
stays : (n : Option ℕ) (v : ℕ) → (is_changed n v ≡ true → ⊥) → option_map (λ (b : ℕ). v) n ≡ n
stays None v h = refl
stays (Some b) v h =
    let same : b ≡ v = eqb-true b v (not-false (b == v) (false_from_ne_true (not (b == v)) h)) in
    ap (λ (x : ℕ). Some x) (sym same)

fresh : (n : Option ℕ) (v : ℕ) → is_changed (option_map (λ (b : ℕ). v) n) v ≡ true → ⊥
fresh None v c = false≢true c
fresh (Some b) v c = false≢true (ap not (sym (eq-eqb v v refl)) ∙ c)

again : (n : Option ℕ) (v : ℕ) → option_map (λ (b : ℕ). v) (option_map (λ (b : ℕ). v) n) ≡ option_map (λ (b : ℕ). v) n
again None v = refl
again (Some b) v = refl

-- of tables
pub length_noted_again : (ns : List (Option ℕ)) (mem : List ℕ) → length (noted_again ns mem) ≡ length ns
length_noted_again [] mem = refl
length_noted_again (n ∷ ns) [] = refl
length_noted_again (n ∷ ns) (v ∷ vs) = ap suc (length_noted_again ns vs)

-- where nothing has changed, the table stays
pub noted_stays : (ns : List (Option ℕ)) (mem : List ℕ) → ((at : ℕ) → changed_at ns mem at ≡ true → ⊥)
    → noted_again ns mem ≡ ns
noted_stays [] mem h = refl
noted_stays (n ∷ ns) [] h = refl
noted_stays (n ∷ ns) (v ∷ vs) h =
    ap (λ (x : Option ℕ). x ∷ noted_again ns vs) (stays n v (h zero))
    ∙ ap (λ (xs : List (Option ℕ)). n ∷ xs) (noted_stays ns vs (λ at. h (suc at)))

-- a byte that is noted first changes nothing of what is noted then
pub noted_at_again : (ns : List (Option ℕ)) (mem : List ℕ) (at : ℕ) → at < length mem
    → noted_again (noted_at ns mem at) mem ≡ noted_again ns mem
noted_at_again [] mem at l = refl
noted_at_again (n ∷ ns) [] at l = absurd (omega (arith, l))
noted_at_again (n ∷ ns) (v ∷ vs) zero l = ap (λ (x : Option ℕ). x ∷ noted_again ns vs) (again n v)
noted_at_again (n ∷ ns) (v ∷ vs) (suc at) l =
    ap (λ (xs : List (Option ℕ)). option_map (λ (b : ℕ). v) n ∷ xs) (noted_at_again ns vs at (omega (arith, l)))

-- what is noted again has not changed
pub none_after : (ns : List (Option ℕ)) (mem : List ℕ) (at : ℕ) → length ns ≤ length mem
    → changed_at (noted_again ns mem) mem at ≡ true → ⊥
none_after [] mem at l c = false≢true c
none_after (n ∷ ns) [] at l c = absurd (omega (arith, l))
none_after (n ∷ ns) (v ∷ vs) zero l c = fresh n v c
none_after (n ∷ ns) (v ∷ vs) (suc at) l c = none_after ns vs at (omega (arith, l)) c

-- another entry leaves what has changed elsewhere
pub changed_beside : (ns : List (Option ℕ)) (mem : List ℕ) (x at : ℕ) (n : Option ℕ) → (at ≡ x → ⊥)
    → changed_at (set ns x n) mem at ≡ changed_at ns mem at
changed_beside ns mem x at n ne =
    ap (λ (o : Option ℕ). is_changed o (get_or mem at 0)) (get_or-set_other ns x at n None ne)

-- an entry that has not changed by itself has not changed there
pub changed_other : (ns : List (Option ℕ)) (mem : List ℕ) (x at : ℕ) (n : Option ℕ) → x < length ns
    → (is_changed n (get_or mem x 0) ≡ true → ⊥)
    → changed_at (set ns x n) mem at ≡ true → at ≡ x → ⊥
changed_other ns mem x at n l h c e =
    let here : changed_at (set ns x n) mem x ≡ true = subst (λ (k : ℕ). changed_at (set ns x n) mem k ≡ true) e c in
    h (ap (λ (o : Option ℕ). is_changed o (get_or mem x 0)) (sym (get_or-set_same ns x n None l)) ∙ here)

-- what has changed once an entry is put that has not
pub changed_before : (ns : List (Option ℕ)) (mem : List ℕ) (x at : ℕ) (n : Option ℕ) → x < length ns
    → (is_changed n (get_or mem x 0) ≡ true → ⊥)
    → changed_at (set ns x n) mem at ≡ true → (at ≡ x → ⊥) × (changed_at ns mem at ≡ true)
changed_before ns mem x at n l h c =
    let ne : at ≡ x → ⊥ = changed_other ns mem x at n l h c in
    (ne, sym (changed_beside ns mem x at n ne) ∙ c)

pub changed_once_noted : (ns : List (Option ℕ)) (mem : List ℕ) (x at : ℕ) → x < length ns
    → changed_at (noted_at ns mem x) mem at ≡ true → (at ≡ x → ⊥) × (changed_at ns mem at ≡ true)
changed_once_noted ns mem x at l c = changed_before ns mem x at _ l (fresh (get_or ns x None) (get_or mem x 0)) c

-- the first of a list is passed where its byte has not changed
pub listed_next : (x : ℕ) (rest : List ℕ) (ns : List (Option ℕ)) (mem : List ℕ) → (changed_at ns mem x ≡ true → ⊥)
    → AreListed (x ∷ rest) ns mem → AreListed rest ns mem
listed_next x rest ns mem h all at c = elim (or_cases (x == at) (is_listed rest at) (all at c)) [
  | inl e ↦ absurd (h (subst (λ (k : ℕ). changed_at ns mem k ≡ true) (sym (eqb-true x at e)) c))
  | inr e ↦ e
]

pub listed_noted : (x : ℕ) (rest : List ℕ) (ns : List (Option ℕ)) (mem : List ℕ) → x < length ns
    → AreListed (x ∷ rest) ns mem → AreListed rest (noted_at ns mem x) mem
listed_noted x rest ns mem l all at c =
    let before = changed_once_noted ns mem x at l c in
    elim (or_cases (x == at) (is_listed rest at) (all at before.1)) [
      | inl e ↦ absurd (before.0 (sym (eqb-true x at e)))
      | inr e ↦ e
    ]

-- some byte has changed, or none
pub any_from : (ns : List (Option ℕ)) (mem : List ℕ) (at : ℕ) → at < length mem → changed_at ns mem at ≡ true
    → any_changed ns mem ≡ true
any_from [] mem at l c = c
any_from (n ∷ ns) [] at l c = absurd (omega (arith, l))
any_from (n ∷ ns) (v ∷ vs) zero l c = or_left (is_changed n v) (any_changed ns vs) c
any_from (n ∷ ns) (v ∷ vs) (suc at) l c =
    or_right (is_changed n v) (any_changed ns vs) (any_from ns vs at (omega (arith, l)) c)

pub none_from : (ns : List (Option ℕ)) (mem : List ℕ) → ((at : ℕ) → changed_at ns mem at ≡ true → ⊥)
    → any_changed ns mem ≡ false
none_from [] mem h = refl
none_from (n ∷ ns) [] h = refl
none_from (n ∷ ns) (v ∷ vs) h = rw (false_from_ne_true (is_changed n v) (h zero)) (none_from ns vs (λ at. h (suc at)))

-- where nothing is listed, nothing has changed
pub none_listed : (written : List ℕ) (ns : List (Option ℕ)) (mem : List ℕ) (empty : Bool)
    → empty ≡ (length written == 0) → empty ≡ true → (length written < 64 → AreListed written ns mem) → (at : ℕ)
    → changed_at ns mem at ≡ true → ⊥
none_listed [] ns mem empty is e listed at c = false≢true (listed (omega arith) at c)
none_listed (w ∷ ws) ns mem empty is e listed at c =
    absurd (omega (arith, eqb-true (length (w ∷ ws)) 0 (sym is ∙ e)))

-- nothing has changed past the end of the table
pub changed_within : (ns : List (Option ℕ)) (mem : List ℕ) (at : ℕ) → changed_at ns mem at ≡ true → at < length ns
changed_within ns mem at c = elim (cases_lt at (length ns)) [
  | inl l ↦ l
  | inr l ↦ absurd (false≢true
      (ap (λ (o : Option ℕ). is_changed o (get_or mem at 0)) (sym (get_or_past ns at None l)) ∙ c))
]

-- where nothing is watched
pub length_untagged : (n : ℕ) → length (untagged n) ≡ n
unfolding untagged
length_untagged n = length-replicate n None

untagged_at : (n at : ℕ) → get_or (untagged n) at None ≡ None
unfolding untagged
untagged_at n at = elim (cases_lt at n) [
  | inl l ↦ get_or-replicate n at None None l
  | inr l ↦ get_or_past (untagged n) at None (let e = length_untagged n in omega (arith, e, l))
]

pub untagged_stays : (mem : List ℕ) (n at : ℕ) → changed_at (untagged n) mem at ≡ true → ⊥
untagged_stays mem n at c =
    false≢true (ap (λ (o : Option ℕ). is_changed o (get_or mem at 0)) (sym (untagged_at n at)) ∙ c)

pub nothing_is_watched : NothingIsWatched
nothing_is_watched = (length_untagged 65536, untagged_at 65536)
