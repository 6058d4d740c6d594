-- Every literal and conclusion of a valid block has its slot.
use Rattle.rule_layout.proofs.Words.{[], ◌&&◌, ◌++◌, ◌+◌, ◌-◌, ◌<◌, ◌==◌, ◌||◌, ◌∙◌, ◌∷◌, ◌≡◌, ◌≤◌, All, all}
use Rattle.rule_layout.proofs.Words.{All-append, All-cons, All-head, All-map, All-nil, All-tail, also, any, ap, ap₂}
use Rattle.rule_layout.proofs.Words.{arith, Block, Bool, choices, Complement, complement_slot, Condition, Conditions}
use Rattle.rule_layout.proofs.Words.{end, false, false≢true, filter, get_or, has_complement, HasSingleton, HasTerm}
use Rattle.rule_layout.proofs.Words.{input_terms, is, is_complemented, is_same_slot, IsInTable, IsSomeAnd, IsValid}
use Rattle.rule_layout.proofs.Words.{length, List, list_any, Literal, literal_slot, map, nat_tests, negation, not}
use Rattle.rule_layout.proofs.Words.{number_in, Out, out_slot, output_terms, range_with_len, refl, Rule, rule_spread}
use Rattle.rule_layout.proofs.Words.{singleton_count, slice_get, Slot, slots_of, spread_of, spread_parts, subst, suc}
use Rattle.rule_layout.proofs.Words.{Term, term_count, term_slot, terms_from, true, zero, ℕ, ⊎_elim}
use Rattle.std.proofs.{lemmas.Bool.or_cases}
use Rattle.fuzzy_meaning.specs.{Blocks.IsValidCondition, Conditions.AllHaveLiterals}
use Rattle.rule_layout.specs.{Spreading.literal}
use Rattle.std.proofs.lemmas.List.Folds.{list_any-append}
use Rattle.fuzzy_meaning.proofs.Algebra.{AllHaveLiterals-some}
use Rattle.rule_layout.proofs.BlockLemmas.{term_in_grid, singleton_in_table}
use Rattle.rule_layout.proofs.SlotLemmas.{some_has_complement}

-- whether the slot is in the list
abbrev pub is_in : Slot → List Slot → Bool
is_in s ss = list_any (is_same_slot s) ss

or_left : (a b : Bool) → a ≡ true → (a || b) ≡ true
or_left true b e = refl
or_left false b e = absurd (false≢true e)

or_right : (a b : Bool) → b ≡ true → (a || b) ≡ true
or_right true b e = refl
or_right false b e = e

pub number_in-lt : (ss : List Slot) (s : Slot) → is_in s ss ≡ true → number_in ss s < length ss
number_in-lt [] s e = absurd (false≢true e)
number_in-lt (x ∷ xs) s e = by_test (is_same_slot s x) refl (number_in-lt xs s)
  where
    by_test : (b : Bool) → is_same_slot s x ≡ b → (is_in s xs ≡ true → number_in xs s < length xs)
        → number_in (x ∷ xs) s < length (x ∷ xs)
    by_test true h ind = rw h (omega arith)
    by_test false h ind =
        let later : is_in s xs ≡ true = rw h at e in
        let lt = ind later in
        rw h (omega arith)

is_in-append_left : (s : Slot) (xs ys : List Slot) → is_in s xs ≡ true → is_in s (xs ++ ys) ≡ true
is_in-append_left s xs ys e = list_any-append (is_same_slot s) xs ys ∙ or_left _ _ e

is_in-append_right : (s : Slot) (xs ys : List Slot) → is_in s ys ≡ true → is_in s (xs ++ ys) ≡ true
is_in-append_right s xs ys e = list_any-append (is_same_slot s) xs ys ∙ or_right _ _ e

-- whether the pair is in the list
abbrev has_pair : ℕ → ℕ → List (ℕ × ℕ) → Bool
has_pair i t ps = list_any (λ p. i == p.0 && t == p.1) ps

is_in-terms : (i t : ℕ) (ps : List (ℕ × ℕ)) → is_in (Term i t) (map term_slot ps) ≡ has_pair i t ps
is_in-terms i t [] = refl
is_in-terms i t (p ∷ ps) = ap (λ (b : Bool). (i == p.0 && t == p.1) || b) (is_in-terms i t ps)

is_in-complements : (i t : ℕ) (ps : List (ℕ × ℕ)) → is_in (Complement i t) (map complement_slot ps) ≡ has_pair i t ps
is_in-complements i t [] = refl
is_in-complements i t (p ∷ ps) = ap (λ (b : Bool). (i == p.0 && t == p.1) || b) (is_in-complements i t ps)

is_in-outs : (i t : ℕ) (ps : List (ℕ × ℕ)) → is_in (Out i t) (map out_slot ps) ≡ has_pair i t ps
is_in-outs i t [] = refl
is_in-outs i t (p ∷ ps) = ap (λ (b : Bool). (i == p.0 && t == p.1) || b) (is_in-outs i t ps)

same_pair : (i t j u : ℕ) → i ≡ j → t ≡ u → (i == j && t == u) ≡ true
same_pair i t j u e f = grind (arith, nat_tests)

pair_from_same : (i t j u : ℕ) → (i == j && t == u) ≡ true → (i ≡ j) × (t ≡ u)
pair_from_same i t j u e = (grind (arith, nat_tests), grind (arith, nat_tests))

has_pair-range : (i t j s n : ℕ) → i ≡ j → s ≤ t → t < s + n
    → has_pair i t (map (λ u. (j, u)) (range_with_len s n)) ≡ true
has_pair-range i t j s zero e from to = absurd (omega arith)
has_pair-range i t j s (suc n) e from to = by_here (t == s) refl (λ p q. has_pair-range i t j (s + 1) n e p q)
  where
    by_here : (b : Bool) → (t == s) ≡ b
        → (s + 1 ≤ t → t < (s + 1) + n → has_pair i t (map (λ u. (j, u)) (range_with_len (s + 1) n)) ≡ true)
        → has_pair i t (map (λ u. (j, u)) (range_with_len s (suc n))) ≡ true
    by_here true h ind = or_left _ _ (same_pair i t j s e (grind (arith, nat_tests)))
    by_here false h ind = or_right _ _ (ind (grind (arith, nat_tests)) (omega arith))

has_pair-append_left : (i t : ℕ) (ps qs : List (ℕ × ℕ)) → has_pair i t ps ≡ true → has_pair i t (ps ++ qs) ≡ true
has_pair-append_left i t ps qs e = list_any-append (λ (p : ℕ × ℕ). i == p.0 && t == p.1) ps qs ∙ or_left _ _ e

has_pair-append_right : (i t : ℕ) (ps qs : List (ℕ × ℕ)) → has_pair i t qs ≡ true → has_pair i t (ps ++ qs) ≡ true
has_pair-append_right i t ps qs e = list_any-append (λ (p : ℕ × ℕ). i == p.0 && t == p.1) ps qs ∙ or_right _ _ e

has_pair-terms_from : {X : Type 0} (count : X → ℕ) (xs : List X) (j k i t : ℕ) → i ≡ j + k → 1 ≤ t
    → IsSomeAnd (slice_get xs k) (λ x. t ≤ count x) → has_pair i t (terms_from j (map count xs)) ≡ true
has_pair-terms_from count [] j k i t e from h = absurd h
has_pair-terms_from count (x ∷ xs) j zero i t e from h =
    has_pair-append_left i t (map (λ u. (j, u)) (range_with_len 1 (count x))) (terms_from (j + 1) (map count xs))
    (has_pair-range i t j 1 (count x) (omega arith) from (omega arith))
has_pair-terms_from count (x ∷ xs) j (suc k) i t e from h =
    has_pair-append_right i t (map (λ u. (j, u)) (range_with_len 1 (count x))) (terms_from (j + 1) (map count xs))
    (has_pair-terms_from count xs (j + 1) k i t (omega arith) from h)

has_pair-filter : (i t : ℕ) (test : ℕ × ℕ → Bool) (ps : List (ℕ × ℕ)) → test (i, t) ≡ true → has_pair i t ps ≡ true
    → has_pair i t (filter test ps) ≡ true
has_pair-filter i t test [] passes e = e
has_pair-filter i t test (p ∷ ps) passes e =
    ⊎_elim here (λ h. by_test (test p) refl (has_pair-filter i t test ps passes h))
    (or_cases (i == p.0 && t == p.1) (has_pair i t ps) e)
  where
    here : (i == p.0 && t == p.1) ≡ true → has_pair i t (filter test (p ∷ ps)) ≡ true
    here h =
        let same = pair_from_same i t p.0 p.1 h in
        let pass : test p ≡ true =
        subst (λ (q : ℕ × ℕ). test q ≡ true)
        (ap₂ (λ (j u : ℕ). let q : ℕ × ℕ = (j, u) in q) same.0 same.1) passes in
        rw pass (or_left _ _ h)

    by_test : (b : Bool) → test p ≡ b → has_pair i t (filter test ps) ≡ true
        → has_pair i t (filter test (p ∷ ps)) ≡ true
    by_test true g later = rw g (or_right _ _ later)
    by_test false g later = rw g later

module _ (b : Block) (v : IsValid b) where
  pub term_in_slots : (i t : ℕ) → HasTerm b i t → is_in (Term i t) (slots_of b) ≡ true
  unfolding slots_of
  term_in_slots i t h =
      is_in-append_left (Term i t) (map term_slot (input_terms b)) _
      (is_in-terms i t (input_terms b)
      ∙ has_pair-terms_from term_count b.inputs 1 (i - 1) i t (omega (arith, h.input_from)) h.term_from h.term_to)

  pub complement_in_slots : (i t : ℕ) → HasTerm b i t → is_complemented b.rules i t ≡ true
      → is_in (Complement i t) (slots_of b) ≡ true
  unfolding slots_of
  complement_in_slots i t h used =
      let test : ℕ × ℕ → Bool = λ p. is_complemented b.rules p.0 p.1 in
      let found = has_pair-filter i t test (input_terms b) used
      (has_pair-terms_from term_count b.inputs 1 (i - 1) i t (omega (arith, h.input_from)) h.term_from h.term_to) in
      is_in-append_right (Complement i t) (map term_slot (input_terms b)) _
      (is_in-append_left (Complement i t) (map complement_slot (filter test (input_terms b)))
      (map out_slot (output_terms b)) (is_in-complements i t (filter test (input_terms b)) ∙ found))

  pub out_in_slots : (o t : ℕ) → HasSingleton b o t → is_in (Out o t) (slots_of b) ≡ true
  unfolding slots_of
  out_in_slots o t h =
      is_in-append_right (Out o t) (map term_slot (input_terms b)) _
      (is_in-append_right (Out o t)
      (map complement_slot (filter (λ p. is_complemented b.rules p.0 p.1) (input_terms b)))
      (map out_slot (output_terms b))
      (is_in-outs o t (output_terms b)
      ∙ has_pair-terms_from singleton_count b.outputs 1 (o - 1) o t (omega (arith, h.output_from)) h.term_from
      h.term_to))

-- the literal's slot has a place in the tables and a number
pub record HasSlot (b : Block) (s : Slot) : Type 0 where
  pub known : IsInTable s
  pub found : number_in (slots_of b) s < length (slots_of b)

abbrev pub LiteralHasSlot : Block → Literal → Type 0
LiteralHasSlot b l = HasSlot b (literal_slot l)

pub All-choices : {A : Type 0} (P : A → Type 0) (xs ys : List (List A)) → All (All P) xs → All (All P) ys
    → All (All P) (choices xs ys)
All-choices P [] ys h k = All-nil (All P)
All-choices P (x ∷ xs) ys h k =
    All-append (All P) (map (λ y. x ++ y) ys) (choices xs ys)
    (All-map (All P) (λ y. x ++ y) ys (λ j d lt. All-append P x _ (All-head (All P) x xs h) (k j d lt)))
    (All-choices P xs ys (All-tail (All P) x xs h) k)

-- the complements of the condition are used by some rule
abbrev AreUsedBy : Block → Bool → Condition → Type 0
AreUsedBy b odd c = (i t : ℕ) → has_complement i t odd c ≡ true → is_complemented b.rules i t ≡ true

leaf_has_slot : (b : Block) (v : IsValid b) (odd : Bool) (i t : ℕ) → HasTerm b i t → AreUsedBy b odd (is i t)
    → LiteralHasSlot b (literal odd i t)
leaf_has_slot b v true i t h used = record {
  known = term_in_grid b i t v h;
  found = number_in-lt (slots_of b) (Complement i t)
      (complement_in_slots b v i t h (used i t (same_pair i t i t refl refl)));
}
leaf_has_slot b v false i t h used = record {
  known = term_in_grid b i t v h;
  found = number_in-lt (slots_of b) (Term i t) (term_in_slots b v i t h);
}

module _ (b : Block) (v : IsValid b) where
  mutual
    pub literals_have_slots : (odd : Bool) (c : Condition) → IsValidCondition b c → AreUsedBy b odd c
        → All (All (LiteralHasSlot b)) (spread_of odd c)
    literals_have_slots odd (is i t) h used =
        All-cons (All (LiteralHasSlot b)) (literal odd i t ∷ []) []
        (All-cons (LiteralHasSlot b) (literal odd i t) [] (leaf_has_slot b v odd i t h used)
        (All-nil (LiteralHasSlot b))) (All-nil (All (LiteralHasSlot b)))
    literals_have_slots odd (negation c) h used = literals_have_slots (not odd) c h used
    literals_have_slots odd (all cs) h used =
        parts_have_slots odd odd cs (AllHaveLiterals-some (HasTerm b) cs h) used
    literals_have_slots odd (any cs) h used =
        parts_have_slots odd (not odd) cs (AllHaveLiterals-some (HasTerm b) cs h) used

    parts_have_slots : (odd any : Bool) (cs : Conditions) → AllHaveLiterals (HasTerm b) cs
        → ((i t : ℕ) → some_has_complement i t odd any cs ≡ true → is_complemented b.rules i t ≡ true)
        → All (All (LiteralHasSlot b)) (spread_parts odd any cs)
    parts_have_slots odd true end h used = All-nil (All (LiteralHasSlot b))
    parts_have_slots odd false end h used =
        All-cons (All (LiteralHasSlot b)) [] [] (All-nil (LiteralHasSlot b)) (All-nil (All (LiteralHasSlot b)))
    parts_have_slots odd true (also c cs) h used =
        All-append (All (LiteralHasSlot b)) (spread_of odd c) (spread_parts odd true cs)
        (literals_have_slots odd c h.0 (λ i t e. used i t (or_left _ _ e)))
        (parts_have_slots odd true cs h.1 (λ i t e. used i t (or_right _ _ e)))
    parts_have_slots odd false (also c cs) h used =
        All-choices (LiteralHasSlot b) (spread_of odd c) (spread_parts odd false cs)
        (literals_have_slots odd c h.0 (λ i t e. used i t (or_left _ _ e)))
        (parts_have_slots odd false cs h.1 (λ i t e. used i t (or_right _ _ e)))

list_any-at : {X : Type 0} (p : X → Bool) (xs : List X) (k : ℕ) (d : X) → k < length xs → p (get_or xs k d) ≡ true
    → list_any p xs ≡ true
list_any-at p [] k d lt e = absurd (omega arith)
list_any-at p (x ∷ xs) zero d lt e = or_left _ _ e
list_any-at p (x ∷ xs) (suc k) d lt e = or_right _ _ (list_any-at p xs k d (omega arith) e)

-- each literal and each conclusion of the rule has its slot
pub record RuleHasSlots (b : Block) (r : Rule) : Type 0 where
  pub literals : All (All (LiteralHasSlot b)) (rule_spread r)
  pub conclusions : All (λ p. HasSlot b (out_slot p)) r.concl

pub rules_have_slots : (b : Block) → IsValid b → All (RuleHasSlots b) b.rules
rules_have_slots b v = λ k d lt.
    let r = get_or b.rules k d in
    let valid = v.rules k d lt in
    let made : RuleHasSlots b r = record {
      literals = literals_have_slots b v false r.cond valid.condition
          (λ i t e. list_any-at (λ (q : Rule). has_complement i t false q.cond) b.rules k d lt e);
      conclusions = λ j p here. record {
        known = singleton_in_table b _ _ v (valid.conclusions j p here);
        found = number_in-lt (slots_of b) _ (out_in_slots b v _ _ (valid.conclusions j p here));
      };
    } in
    made
