-- An AND or an OR with its parts: what it comes to, that they are smaller, and which names they have.
use Rattle.fcl_check.proofs.Words.{[], ◌++◌, ◌+◌, ◌<◌, ◌∙◌, ◌∷◌, ◌≡◌, ◌≤◌, AllByRecursion, and_condition, and_of}
use Rattle.fcl_check.proofs.Words.{and_pairs, ands_conditions, ands_pairs, ap, arith, Bool, Condition, false}
use Rattle.fcl_check.proofs.Words.{flat_map, flat_map-append, get_or, length, List, map, Name}
use Rattle.fcl_check.proofs.Words.{not_condition, not_pairs, nots_conditions, nots_pairs, Option, option_or}
use Rattle.fcl_check.proofs.Words.{or_condition, or_of, or_pairs, Pair, refl, subst, suc, sym, take, take_all, TAnd}
use Rattle.fcl_check.proofs.Words.{TNot, TOr, zero, ℕ}
use Rattle.fuzzy_meaning.specs.Conditions.{Conditions, all, also, any, conditions}
use Rattle.std.proofs.{lemmas.Bool.eqb-false}
use Rattle.fcl_syntax.specs.{declared.tree.Operand.Operand}
use Rattle.std.proofs.Math.Dec.{eqb}
use Rattle.fcl_syntax.specs.Conditions.{nots_of, ands_of, not_size, nots_size, and_size, ands_size, or_size}
use Rattle.fcl_check.specs.{Places.first as first_at, Steps.pair_of}
use Rattle.fcl_check.proofs.{Elements.parts_of, Places.first-append}

-- AND and its parts, or OR and its parts
pub record Kind (X W : Type 0) : Type 0 where
  pub of : X → List (ℕ × X) → W
  pub first : W → X
  pub first_of : (x : X) (xs : List (ℕ × X)) → first (of x xs) ≡ x
  pub size : X → ℕ
  pub sizes : List (ℕ × X) → ℕ
  pub size_whole : W → ℕ
  pub size_more : (x : ℕ × X) (xs : List (ℕ × X)) → sizes (x ∷ xs) ≡ size x.1 + sizes xs
  pub size_of : (x : X) (xs : List (ℕ × X)) → size_whole (of x xs) ≡ 1 + size x + sizes xs
  pub pairs : X → List Pair
  pub all_pairs : List (ℕ × X) → List Pair
  pub pairs_whole : W → List Pair
  pub pairs_none : all_pairs [] ≡ []
  pub pairs_more : (x : ℕ × X) (xs : List (ℕ × X)) → all_pairs (x ∷ xs) ≡ pairs x.1 ++ all_pairs xs
  pub pairs_of : (x : X) (xs : List (ℕ × X)) → pairs_whole (of x xs) ≡ pairs x ++ all_pairs xs
  pub join : Conditions → Condition
  pub condition : (Name → Name → Condition) → X → Condition
  pub condition_whole : (Name → Name → Condition) → W → Condition
  pub together : (f : Name → Name → Condition) (x : X) (y : ℕ × X) (xs : List (ℕ × X))
      → condition_whole f (of x (y ∷ xs))
      ≡ join (conditions (condition f x ∷ map (λ (z : ℕ × X). condition f z.1) (y ∷ xs)))

pub all_parts : (f : Name → Name → Condition) (ts : List (ℕ × TNot))
    → nots_conditions f (nots_of ts) ≡ conditions (map (λ (t : ℕ × TNot). not_condition f t.1) ts)
all_parts f [] = refl
all_parts f (t ∷ ts) = ap (also (not_condition f t.1)) (all_parts f ts)

abbrev pub and_kind : Kind TNot TAnd
and_kind = record {
  of = λ t ts. and_of t (nots_of ts);
  first = λ w. elim w [ and_of t ts ↦ t ];
  first_of = λ t ts. refl;
  size = not_size;
  sizes = λ ts. nots_size (nots_of ts);
  size_whole = and_size;
  size_more = λ t ts. refl;
  size_of = λ t ts. refl;
  pairs = not_pairs;
  all_pairs = λ ts. nots_pairs (nots_of ts);
  pairs_whole = and_pairs;
  pairs_none = refl;
  pairs_more = λ t ts. refl;
  pairs_of = λ t ts. refl;
  join = all;
  condition = not_condition;
  condition_whole = and_condition;
  together = λ f t u ts. rw (all_parts f ts) refl;
}

pub any_parts : (f : Name → Name → Condition) (items : List (ℕ × TAnd))
    → ands_conditions f (ands_of items) ≡ conditions (map (λ (a : ℕ × TAnd). and_condition f a.1) items)
any_parts f [] = refl
any_parts f (a ∷ items) = ap (also (and_condition f a.1)) (any_parts f items)

abbrev pub or_kind : Kind TAnd TOr
or_kind = record {
  of = λ a items. or_of a (ands_of items);
  first = λ w. elim w [ or_of a items ↦ a ];
  first_of = λ a items. refl;
  size = and_size;
  sizes = λ items. ands_size (ands_of items);
  size_whole = or_size;
  size_more = λ a items. refl;
  size_of = λ a items. refl;
  pairs = and_pairs;
  all_pairs = λ items. ands_pairs (ands_of items);
  pairs_whole = or_pairs;
  pairs_none = refl;
  pairs_more = λ a items. refl;
  pairs_of = λ a items. refl;
  join = any;
  condition = and_condition;
  condition_whole = or_condition;
  together = λ f a c items. rw (any_parts f items) refl;
}

module _ {X W : Type 0} (k : Kind X W) where
  size-get : (xs : List (ℕ × X)) (i : ℕ) (d : ℕ × X) → i < length xs → k.size (get_or xs i d).1 ≤ k.sizes xs
  size-get [] i d within = absurd (omega arith)
  size-get (x ∷ xs) zero d within = omega (arith, k.size_more x xs)
  size-get (x ∷ xs) (suc i) d within = omega (arith, k.size_more x xs, size-get xs i d (omega arith))

  module _ (P : Pair → Type 0) where
    known_parts : (x : ℕ × X) (xs : List (ℕ × X)) → AllByRecursion P (k.all_pairs (x ∷ xs))
        → AllByRecursion P (k.pairs x.1) × AllByRecursion P (k.all_pairs xs)
    known_parts x xs known = parts_of P (k.pairs x.1) _ (subst (AllByRecursion P) (k.pairs_more x xs) known)

    known-get : (xs : List (ℕ × X)) (i : ℕ) (d : ℕ × X) → AllByRecursion P (k.all_pairs xs) → i < length xs
        → AllByRecursion P (k.pairs (get_or xs i d).1)
    known-get [] i d known within = absurd (omega arith)
    known-get (x ∷ xs) zero d known within = (known_parts x xs known).0
    known-get (x ∷ xs) (suc i) d known within = known-get xs i d (known_parts x xs known).1 (omega arith)

  abbrev pub places_in : (Pair → List ℕ) → ℕ × X → List ℕ
  places_in places x = flat_map places (k.pairs x.1)

  -- the parts that are left have the first place of all, whichever places an operand's answers tell of
  abbrev pub HaveFirst : (Operand → Option ℕ → Type 0) → List (ℕ × X) → W → Type 0
  HaveFirst answers left whole =
      (places : Pair → List ℕ) → ((o : Operand) (at : Option ℕ) → answers o at → at ≡ first_at (places (pair_of o)))
      → first_at (flat_map (places_in places) left) ≡ first_at (flat_map places (k.pairs_whole whole))

  places_of : (places : Pair → List ℕ) (xs : List (ℕ × X))
      → flat_map places (k.all_pairs xs) ≡ flat_map (places_in places) xs
  places_of places [] = rw k.pairs_none refl
  places_of places (x ∷ xs) =
      rw (k.pairs_more x xs, flat_map-append places (k.pairs x.1) (k.all_pairs xs), places_of places xs) refl

  module _ {whole : W} {first : X} (more : List (ℕ × X)) (seen : k.of first more ≡ whole) where
    -- the first place in the first part, or else in the others
    pub first_place : (places : Pair → List ℕ)
        → first_at (flat_map places (k.pairs_whole whole))
        ≡ option_or (first_at (flat_map places (k.pairs first))) (first_at (flat_map (places_in places) more))
    first_place places = rw (
      ← seen,
      k.pairs_of first more,
      flat_map-append places (k.pairs first) (k.all_pairs more),
      places_of places more,
    ) (first-append (flat_map places (k.pairs first)) (flat_map (places_in places) more))

    pub first_falls : k.size first < k.size_whole whole
    first_falls = rw (← seen) (omega (arith, k.size_of first more))

    pub part_falls : {read : List (ℕ × X)} {i : ℕ} {x : ℕ × X} → read ≡ more → i < length read → x ≡ get_or read i x
        → k.size x.1 < k.size_whole whole
    part_falls {read} {i} {x} same within is =
        let here = size-get more i x (rw same at within) in
        let mine = subst (λ (y : ℕ × X). k.size y.1 ≤ k.sizes more) (sym (rw same at is)) here in
        rw (← seen) (omega (arith, mine, k.size_of first more))

    module _ (P : Pair → Type 0) (known : AllByRecursion P (k.pairs_whole whole)) where
      known_both : AllByRecursion P (k.pairs first) × AllByRecursion P (k.all_pairs more)
      known_both = parts_of P (k.pairs first) _
          (subst (AllByRecursion P) (ap k.pairs_whole (sym seen) ∙ k.pairs_of first more) known)

      pub first_known : AllByRecursion P (k.pairs first)
      first_known = known_both.0

      pub part_known : {read : List (ℕ × X)} {i : ℕ} {x : ℕ × X} → read ≡ more → i < length read → x ≡ get_or read i x
          → AllByRecursion P (k.pairs x.1)
      part_known {read} {i} {x} same within is =
          let here = known-get P more i x known_both.1 (rw same at within) in
          subst (λ (y : ℕ × X). AllByRecursion P (k.pairs y.1)) (sym (rw same at is)) here

    -- the conditions of all parts that were read, where a test says that there are several
    module _ (f : Name → Name → Condition) where
      whole_together : (xs : List (ℕ × X)) → 1 ≤ length xs
          → k.join (conditions (k.condition f first ∷ map (λ (x : ℕ × X). k.condition f x.1) xs))
          ≡ k.condition_whole f (k.of first xs)
      whole_together [] some = absurd (omega arith)
      whole_together (x ∷ xs) some = sym (k.together f first x xs)

      pub whole_of_all : {n : ℕ} {empty : Bool} {read : List (ℕ × X)} {i : ℕ} → n ≡ length more → empty ≡ eqb n 0
          → (cs : List Condition) (c : Condition) → empty ≡ false → read ≡ more → length read ≤ i
          → cs ≡ k.condition f (k.first whole) ∷ map (λ (x : ℕ × X). k.condition f x.1) (take i more)
          → c ≡ k.join (conditions cs) → c ≡ k.condition_whole f whole
      whole_of_all {n} {read = read} {i} count tested cs c is same behind parts made =
          let some : 1 ≤ length more = omega (arith, count, eqb-false n 0 (sym tested ∙ is)) in
          let begins : k.first whole ≡ first = ap k.first (sym seen) ∙ k.first_of first more in
          let every : cs ≡ k.condition f first ∷ map (λ (x : ℕ × X). k.condition f x.1) more =
          rw (take_all i more (rw same at behind), begins) at parts in
          made ∙ ap (λ ds. k.join (conditions ds)) every ∙ whole_together more some ∙ ap (k.condition_whole f) seen
