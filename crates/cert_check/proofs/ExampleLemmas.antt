-- Certificates that are accepted.
use Rattle.std.proofs.Common.{◌≡◌, ℕ, zero, suc, ◌-◌, ◌≤◌, List, [], ◌∷◌, Some, None, refl, subst, arith}
use Rattle.std.specs.Prelude.{slice_get, All, IsTrue, pos}
use Rattle.fuzzy_meaning.specs.declared.{block.Block.Block, block.Output.Output, block.Rule.Rule}
use Rattle.fuzzy_meaning.specs.{Meaning.concludes, Conditions.is, Conditions.negation}
use Rattle.fuzzy_meaning.specs.Blocks.{IsValid, output_at}
use Rattle.fuzzy_meaning.specs.Examples.{dec, heater, latch, ExamplesAreValid}
use Rattle.error_bound.specs.declared.boxes.Interval.{Interval}
use Rattle.error_bound.specs.declared.boxes.Leaf as the
use Rattle.error_bound.specs.Boxes.{IsBox}
use Rattle.error_bound.specs.Leaves.{Holds, IsStrong, IsStill, strong, silent}
use Rattle.error_bound.specs.{Bounds.IsBound, Bounds.bound, CellErrors.term_errors, Laws.TermErrorsAre}
use Rattle.box_tree.specs.declared.{cert.LeafLine.LeafLine, cert.LeafLine.TheVariants.Pairs}
use Rattle.box_tree.specs.declared.cert.Node.TheVariants.{Split}
use Rattle.cell_bounds.specs.declared.claims.Claim.TheVariants.{Pair}
use Rattle.cert_check.specs.Trees.{Part, IsTree, leaf, split, whole}
use Rattle.cert_check.specs.Acceptance.{HasBound, IsGreatestBound, IsAccepted}
use Rattle.cert_check.specs.Examples.{leaf_node, heater_cert, latch_cert, ExamplesAreAccepted}
use Rattle.fz_list.proofs.Algebra.{All-cons, All-none}

abbrev pair : ℕ → ℕ → the.Leaf
pair r k = record { rule = r; k = k }

abbrev pairs_line : ℕ → ℕ → LeafLine
pairs_line r k = Pairs (record { items = (r, k) ∷ [] })

abbrev span_of : ℕ → ℕ → List Interval
span_of f t = record { from = f; to = t } ∷ []

abbrev part : ℕ → ℕ → ℕ → ℕ → Part
part f t r k = record { box = span_of f t; stated = pairs_line r k }

abbrev cold_box : List Interval
cold_box = span_of 0 127

abbrev hot_box : List Interval
hot_box = span_of 128 255

abbrev heater_parts : List Part
heater_parts = part 0 127 1 127 ∷ part 128 255 2 127 ∷ []

heater_tree : IsTree (whole heater) heater_cert.nodes heater_parts []
heater_tree = split (whole heater) 1 128 (leaf_node 1 127 ∷ leaf_node 2 127 ∷ []) (leaf_node 2 127 ∷ []) []
    (part 0 127 1 127 ∷ []) (part 128 255 2 127 ∷ [])
    (omega arith) (omega arith, omega arith) (leaf cold_box (pairs_line 1 127) (leaf_node 2 127 ∷ []))
    (leaf hot_box (pairs_line 2 127) [])

abbrev cold_rule : Rule
cold_rule = record { cond = is 1 1; weight = None; concl = (1, 1) ∷ [] }

abbrev hot_rule : Rule
hot_rule = record { cond = is 1 2; weight = None; concl = (1, 2) ∷ [] }

abbrev power : Output
power = record {
  lo = dec (pos 0);
  hi = dec (pos 1000000);
  singletons = dec (pos 0) ∷ dec (pos 1000000) ∷ [];
  default =
      Some (dec (pos 0));
}

cold_strong : IsStrong heater cold_box 1 cold_rule 127
cold_strong = record { term = 1; concludes_it = refl; low = record { cross = omega arith }; byte_low = omega arith }

box_valid : (f t : ℕ) → f ≤ t → t ≤ 255 → IsBox (record { from = f; to = t } ∷ [])
box_valid f t h k = record { some = at f t h k }
  where
    at : (f t : ℕ) → f ≤ t → t ≤ 255 → (n : ℕ) (v : Interval) → slice_get (record { from = f; to = t } ∷ []) n ≡ Some v
        → (v.from ≤ v.to) × (v.to ≤ 255)
    at f t h k zero v e = let s : (record { from = f; to = t }) ≡ v = cc in
        subst (λ (i : Interval). (i.from ≤ i.to) × (i.to ≤ 255)) s (h, k)
    at f t h k (suc n) v e = absurd (let z : ⊥ = cc in z)

cold_bound : 19609 ≡ bound heater (term_errors heater cold_box) 1 power 1 (pair 1 127)
cold_bound = refl

cold_wide_bound : 15702 ≡ bound heater (term_errors heater cold_box) 1 power 256 (pair 1 127)
cold_wide_bound = refl

hot_strong : IsStrong heater hot_box 1 hot_rule 127
hot_strong = record { term = 2; concludes_it = refl; low = record { cross = omega arith }; byte_low = omega arith }

hot_bound : 19609 ≡ bound heater (term_errors heater hot_box) 1 power 1 (pair 2 127)
hot_bound = refl

hot_wide_bound : 15702 ≡ bound heater (term_errors heater hot_box) 1 power 256 (pair 2 127)
hot_wide_bound = refl

bound_of : TermErrorsAre → (b : Block) (box : List Interval) (o : ℕ) (x : Output) (h : ℕ) (l : the.Leaf) (n : ℕ)
    → IsValid b → IsBox box → n ≡ bound b (term_errors b box) o x h l → IsBound b box o x h l n
bound_of errors b box o x h l n v ib e = record { errors = term_errors b box; are_errors = errors b box v ib; is = e }

-- where a pair holds over an interval it is the Bound of the part with that pair
HasBound-pair : TermErrorsAre → (b : Block) → IsValid b → (x : Output) (h f t r k n : ℕ) → f ≤ t → t ≤ 255
    → Holds b (span_of f t) 1 (pair r k) → n ≡ bound b (term_errors b (span_of f t)) 1 x h (pair r k)
    → HasBound b 1 x h (part f t r k) n
HasBound-pair errors b valid x h f t r k n to top holds e = record {
  claim = Pair (pair r k);
  claim_is = refl;
  allowed = tt;
  bound_is = (holds, bound_of errors b (span_of f t) 1 x h (pair r k) n valid (box_valid f t to top) e);
}

cold_part : TermErrorsAre → IsValid heater → (h n : ℕ)
    → n ≡ bound heater (term_errors heater cold_box) 1 power h (pair 1 127)
    → HasBound heater 1 power h (part 0 127 1 127) n
cold_part errors valid h n e = HasBound-pair errors heater valid power h 0 127 1 127 n (omega arith) (omega arith)
    (strong cold_rule (omega arith) (omega arith) (omega arith) refl cold_strong) e

hot_part : TermErrorsAre → IsValid heater → (h n : ℕ)
    → n ≡ bound heater (term_errors heater hot_box) 1 power h (pair 2 127)
    → HasBound heater 1 power h (part 128 255 2 127) n
hot_part errors valid h n e = HasBound-pair errors heater valid power h 128 255 2 127 n (omega arith) (omega arith)
    (strong hot_rule (omega arith) (omega arith) (omega arith) refl hot_strong) e

heater_greatest : TermErrorsAre → IsValid heater → (h n : ℕ)
    → n ≡ bound heater (term_errors heater cold_box) 1 power h (pair 1 127)
    → n ≡ bound heater (term_errors heater hot_box) 1 power h (pair 2 127)
    → IsGreatestBound heater 1 power h heater_parts n
heater_greatest errors valid h n e f =
    let P : Part → Type 0 = λ p. (m : ℕ) × HasBound heater 1 power h p m × (m ≤ n) in
    let cp = part 0 127 1 127 in
    let hp = part 128 255 2 127 in
    record {
      each = All-cons P cp (hp ∷ []) (n, cold_part errors valid h n e, omega arith)
          (All-cons P hp [] (n, hot_part errors valid h n f, omega arith) (All-none P));
      some = (0, cp, omega arith, refl, cold_part errors valid h n e);
    }

first_is : {X : Type 0} (n e : X) → slice_get (n ∷ []) 0 ≡ Some e → n ≡ e
first_is n e h = cc

no_second : {X : Type 0} (n e : X) (k : ℕ) → slice_get (n ∷ []) (suc k) ≡ Some e → ⊥
no_second n e k h = let z : ⊥ = cc in z

-- the one output, with the one error
only : (b : Block) (h n : ℕ) (y : Output) (parts : List Part) → b.outputs ≡ y ∷ [] → IsGreatestBound b 1 y h parts n
    → (o : ℕ) (x : Output) (e : ℕ) → 1 ≤ o → output_at b o ≡ Some x → slice_get (n ∷ []) (o - 1) ≡ Some e
    → IsGreatestBound b o x h parts e
only b h n y parts eb g o x e l ex ee = by_k (o - 1) refl
  where
    by_k : (k : ℕ) → o - 1 ≡ k → IsGreatestBound b o x h parts e
    by_k (suc k) ek = absurd (no_second n e k (subst (λ j. slice_get (n ∷ []) j ≡ Some e) ek ee))
    by_k zero ek =
        let eo : 1 ≡ o = omega arith in
        let s0 : slice_get b.outputs 0 ≡ Some x = subst (λ j. slice_get b.outputs j ≡ Some x) ek ex in
        let s : slice_get (y ∷ []) 0 ≡ Some x = subst (λ os. slice_get os 0 ≡ Some x) eb s0 in
        let e1 : y ≡ x = first_is y x s in
        let e2 : n ≡ e = first_is n e (subst (λ j. slice_get (n ∷ []) j ≡ Some e) ek ee) in
        subst (λ q. IsGreatestBound b q x h parts e) eo
        (subst (λ z. IsGreatestBound b 1 z h parts e) e1 (subst (λ m. IsGreatestBound b 1 y h parts m) e2 g))

claimed_one : (n c : ℕ) → n ≤ c → (k e d : ℕ) → slice_get (n ∷ []) k ≡ Some e → slice_get (c ∷ []) k ≡ Some d → e ≤ d
claimed_one n c h zero e d p q = let e1 : n ≡ e = cc in let e2 : c ≡ d = cc in omega arith
claimed_one n c h (suc k) e d p q = absurd (let z : ⊥ = cc in z)

heater_accepted : TermErrorsAre → IsValid heater → IsAccepted heater 1 heater_cert (19609 ∷ [])
heater_accepted errors valid =
    record {
      claims_count = refl;
      errors_count = refl;
      parts = heater_parts;
      tree = heater_tree;
      greatest =
          only heater 1 19609 power heater_parts refl (heater_greatest errors valid 1 19609 cold_bound hot_bound);
      claimed =
          claimed_one 19609 19609 (omega arith);
    }

heater_accepted_wide : TermErrorsAre → IsValid heater → IsAccepted heater 256 heater_cert (15702 ∷ [])
heater_accepted_wide errors valid =
    record {
      claims_count = refl;
      errors_count = refl;
      parts = heater_parts;
      tree = heater_tree;
      greatest =
          only heater 256 15702 power heater_parts refl
          (heater_greatest errors valid 256 15702 cold_wide_bound hot_wide_bound);
      claimed =
          claimed_one 15702 19609 (omega arith);
    }

-- with NC, a vertical edge and a complement
abbrev keeper : Output
keeper = record {
  lo = dec (pos 0);
  hi = dec (pos 1000000);
  singletons =
      dec (pos 0) ∷ dec (pos 1000000) ∷ [];
  default = None;
}

abbrev on_rule : Rule
on_rule = record { cond = negation (is 1 1); weight = None; concl = (1, 2) ∷ [] }

abbrev off_rule : Rule
off_rule = record { cond = is 1 2; weight = None; concl = (1, 1) ∷ [] }

on_strong : IsStrong latch (span_of 0 63) 1 on_rule 255
on_strong = record { term = 2; concludes_it = refl; low = record { cross = omega arith }; byte_low = omega arith }

off_strong : IsStrong latch (span_of 192 255) 1 off_rule 255
off_strong = record { term = 1; concludes_it = refl; low = record { cross = omega arith }; byte_low = omega arith }

-- between the two, neither fires
silent_between : All (λ r. (t : ℕ) → IsTrue (concludes r 1 t) → IsStill latch (span_of 64 191) r) latch.rules
silent_between =
    let P : Rule → Type 0 = λ r. (t : ℕ) → IsTrue (concludes r 1 t) → IsStill latch (span_of 64 191) r in
    All-cons P on_rule (off_rule ∷ []) (λ t _. record { high = refl; byte_high = refl })
    (All-cons P off_rule [] (λ t _. record { high = refl; byte_high = refl }) (All-none P))

on_bound : 3922 ≡ bound latch (term_errors latch (span_of 0 63)) 1 keeper 1 (pair 1 255)
on_bound = refl

off_bound : 3922 ≡ bound latch (term_errors latch (span_of 192 255)) 1 keeper 1 (pair 2 255)
off_bound = refl

latch_tree : IsTree (whole latch) latch_cert.nodes (part 0 63 1 255 ∷ part 64 191 0 0 ∷ part 192 255 2 255 ∷ []) []
latch_tree = split (span_of 0 255) 1 64 (leaf_node 1 255 ∷ Split 1 192 ∷ leaf_node 0 0 ∷ leaf_node 2 255 ∷ [])
    (Split 1 192 ∷ leaf_node 0 0 ∷ leaf_node 2 255 ∷ []) [] (part 0 63 1 255 ∷ [])
    (part 64 191 0 0 ∷ part 192 255 2 255 ∷ []) (omega arith) (omega arith, omega arith)
    (leaf (span_of 0 63) (pairs_line 1 255) (Split 1 192 ∷ leaf_node 0 0 ∷ leaf_node 2 255 ∷ []))
    (split (span_of 64 255) 1 192 (leaf_node 0 0 ∷ leaf_node 2 255 ∷ []) (leaf_node 2 255 ∷ []) []
    (part 64 191 0 0 ∷ []) (part 192 255 2 255 ∷ []) (omega arith) (omega arith, omega arith)
    (leaf (span_of 64 191) (pairs_line 0 0) (leaf_node 2 255 ∷ []))
    (leaf (span_of 192 255) (pairs_line 2 255) []))

latch_greatest : TermErrorsAre → IsValid latch
    → IsGreatestBound latch 1 keeper 1 (part 0 63 1 255 ∷ part 64 191 0 0 ∷ part 192 255 2 255 ∷ []) 3922
latch_greatest errors v =
    let P : Part → Type 0 = λ q. (m : ℕ) × HasBound latch 1 keeper 1 q m × (m ≤ 3922) in
    let first : HasBound latch 1 keeper 1 (part 0 63 1 255) 3922 =
    HasBound-pair errors latch v keeper 1 0 63 1 255 3922 (omega arith) (omega arith)
    (strong on_rule (omega arith) (omega arith) (omega arith) refl on_strong) on_bound in
    let second : HasBound latch 1 keeper 1 (part 64 191 0 0) 0 =
    HasBound-pair errors latch v keeper 1 64 191 0 0 0 (omega arith) (omega arith)
    (silent refl refl silent_between) refl in
    let third : HasBound latch 1 keeper 1 (part 192 255 2 255) 3922 =
    HasBound-pair errors latch v keeper 1 192 255 2 255 3922 (omega arith) (omega arith)
    (strong off_rule (omega arith) (omega arith) (omega arith) refl off_strong) off_bound in
    record {
      each = All-cons P (part 0 63 1 255) (part 64 191 0 0 ∷ part 192 255 2 255 ∷ []) (3922, first, omega arith)
          (All-cons P (part 64 191 0 0) (part 192 255 2 255 ∷ []) (0, second, omega arith)
          (All-cons P (part 192 255 2 255) [] (3922, third, omega arith) (All-none P)));
      some = (0, part 0 63 1 255, omega arith, refl, first);
    }

latch_accepted : TermErrorsAre → IsValid latch
    → IsAccepted latch 1 latch_cert (3922 ∷ [])
latch_accepted errors valid =
    record {
      claims_count = refl;
      errors_count = refl;
      parts =
          part 0 63 1 255 ∷ part 64 191 0 0 ∷ part 192 255 2 255 ∷ [];
      tree = latch_tree;
      greatest =
          only latch 1 3922 keeper (part 0 63 1 255 ∷ part 64 191 0 0 ∷ part 192 255 2 255 ∷ []) refl
          (latch_greatest errors valid);
      claimed = claimed_one 3922 3922 (omega arith);
    }

pub examples_accepted : ExamplesAreValid → TermErrorsAre → ExamplesAreAccepted
examples_accepted valid errors =
    (heater_accepted errors valid.0, heater_accepted_wide errors valid.0, latch_accepted errors valid.1)
