-- Leaves: whether they hold, which fault or Bound they have, and the best one of a box.
use Rattle.std.proofs.Common.{◌≡◌, ℕ, Bool, true, false, List, [], ◌∷◌, refl, arith, ◌≤◌, max, ◌+◌, ◌-◌, ◌<◌, length}
use Rattle.std.proofs.Common.{sym, ap, ◌∙◌, get_or-set_other, Some, subst, ⊎_elim, get_or, zero, suc, ◌⊎◌, inl, inr}
use Rattle.std.proofs.Common.{◌*◌, ◌/◌, None, mul-le-mul_right}
use Rattle.std.proofs.lemmas.Option.{slice_get_within, get_or_from_slice_get, slice_get-get_or}
use Rattle.std.proofs.{lemmas.Bool.Decides.nat_tests, lemmas.Grind.get_or-set_at, lemmas.Bool.cases_lt}
use Rattle.std.proofs.lemmas.Int.{ints}
use Rattle.std.specs.Prelude.{◌==◌, ◌&&◌, ◌||◌, slice_index, slice_set, ◌≢◌, IsTrue, All, slice_get, IfSome, ◌<ℤ◌}
use Rattle.std.specs.Prelude.{if◌then◌else◌}
use Rattle.std.specs.List.{list_any}
use Rattle.fz_list.proofs.Algebra.{list_any-left, IsSomeAnd-at, IsSomeAnd-some, IsSomeAnd-within, some_at}
use Rattle.fz_list.proofs.Algebra.{All-slice_get}
use Rattle.fuzzy_meaning.specs.{Blocks.IsValid, Blocks.output_at, Blocks.IsValidOutput, declared.block.Output.Output}
use Rattle.fuzzy_meaning.specs.{declared.block.Block.Block, declared.block.Rule.Rule, Meaning.concludes}
use Rattle.error_bound.specs.Faults.{IsStrongFault, weak, still, IsFirstFiring, IsSilentFault, silent as firing, loud}
use Rattle.error_bound.specs.Best.{silent_leaf, IsCandidate, IsFirstGreatest, IsBest, silent as best_silent}
use Rattle.error_bound.specs.BestLeaves.{IsBestBound, of_leaf, of_none, BestLeavesAreOne, BestLeavesHold}
use Rattle.error_bound.specs.Leaves.{rule_at, concludes_some, IsPairFor, strong, silent, IsStrong, IsStill, Holds}
use Rattle.error_bound.specs.Bounds.{IsBound, bound, errors_from, strong_bound, silent_bound, greatest_offset}
use Rattle.error_bound.specs.Faults.{of_strong, of_silent, FaultyLeavesFail, LeafFaultsAreOne, HasLeafFault}
use Rattle.error_bound.specs.{Best.strong as best_strong, Best.nothing, declared.boxes.LeafFault.LeafFault}
use Rattle.error_bound.specs.{declared.boxes.Interval.Interval, Boxes.IsBox}
use Rattle.error_bound.specs.declared.ends.Side.TheVariants.{Low, High}
use Rattle.error_bound.specs.{Boxes.rule_span, Boxes.rule_byte_span, BestLeaves.BestBoundsAreLeast, Errors.billion}
use Rattle.error_bound.specs.{Reaches.IsEndOfRule, declared.boxes.Leaf.Leaf, CellErrors.term_errors}
use Rattle.error_bound.specs.{Ratios.value_of, Ratios.IsStrengthRatio, declared.ends.End.End, Spans.Span, Spans.only}
use Rattle.fz_num.specs.{Fractions.Fraction, Fractions.over, Fractions.AtMost, Fractions.IsBelow, Decimals.distance}
use Rattle.error_bound.proofs.RuleLemmas.{silent_same, none_same, strong_same, part_same, rule_low_proper}
use Rattle.error_bound.proofs.Nested.{bound_strong, bound_silent, leaves_hold_inside, bounds_fall, bounds_unique}
use Rattle.error_bound.proofs.{RuleLemmas.bytes_ordered, Nested.moved, Nested.ratio-mono, Literals.term_errors-are}
use Rattle.fz_num.proofs.Algebra.{AtMost-trans}
use Rattle.error_bound.specs.declared.boxes.Leaf as the

pub any-some : (o t : ℕ) (cs : List (ℕ × ℕ)) → list_any (λ c. (c.0 == o) && (c.1 == t)) cs ≡ true
    → list_any (λ c. c.0 == o) cs ≡ true
any-some o t cs h = list_any-left (λ (c : ℕ × ℕ). c.0 == o) (λ (c : ℕ × ℕ). c.1 == t) cs h

same_number : (t : ℕ) → (t == t) ≡ true
same_number t = grind (arith, nat_tests)

pub any-term : (o : ℕ) (cs : List (ℕ × ℕ)) → list_any (λ c. c.0 == o) cs ≡ true
    → (t : ℕ) × (list_any (λ c. (c.0 == o) && (c.1 == t)) cs ≡ true)
any-term o [] h = absurd (let z : ⊥ = cc in z)
any-term o (c ∷ cs) h = by_head (c.0 == o) refl h (any-term o cs)
  where
    by_head : (a : Bool) → (c.0 == o) ≡ a → (a || list_any (λ c. c.0 == o) cs) ≡ true
        → (list_any (λ c. c.0 == o) cs ≡ true → (t : ℕ) × (list_any (λ c. (c.0 == o) && (c.1 == t)) cs ≡ true))
        → (t : ℕ) × (list_any (λ c. (c.0 == o) && (c.1 == t)) (c ∷ cs) ≡ true)
    by_head true e f rest = let yes = same_number c.1 in (c.1, rw (e, yes) refl)
    by_head false e f rest = let more = rest f in (more.0, rw e more.1)

-- whether term t of output o is among the conclusions
abbrev pub concludes_among : ℕ → ℕ → List (ℕ × ℕ) → Bool
concludes_among o t cs = list_any (λ c. (c.0 == o) && (c.1 == t)) cs

-- an error that one conclusion more raises, where it is p
raised_more : (p q : Bool) (error old before after : ℕ) → before ≡ (if q then max error old else old)
    → (p ≡ true → after ≡ max before error) → (p ≡ false → after ≡ before)
    → after ≡ (if p || q then max error old else old)
raised_more true true error old before after e raised same = let h = raised refl in
    let f : before ≡ max error old = e in omega arith
raised_more true false error old before after e raised same = let h = raised refl in let f : before ≡ old = e in
    omega arith
raised_more false true error old before after e raised same = let h = same refl in let f : before ≡ max error old = e in
    omega arith
raised_more false false error old before after e raised same = let h = same refl in let f : before ≡ old = e in
    omega arith

module _ (errors : List ℕ) (o error old t m : ℕ) (x : ℕ × ℕ) (count : length errors ≡ 15) (few : t < 15)
    (output : x.0 ≡ o) (from : 1 ≤ x.1) (to : x.1 ≤ 15) (made : m ≡ max (slice_index errors (x.1 - 1)) error) where
  raised_here : ((x.0 == o) && (x.1 == t + 1)) ≡ true
      → slice_index (slice_set errors (x.1 - 1) m) t ≡ max (slice_index errors t) error
  raised_here h =
      let here : x.1 - 1 ≡ t = grind (arith, nat_tests) in
      get_or-set_at errors (x.1 - 1) t m 0 (sym here) (omega arith) ∙ made
      ∙ ap (λ k. max (slice_index errors k) error) here

  same_there : ((x.0 == o) && (x.1 == t + 1)) ≡ false
      → slice_index (slice_set errors (x.1 - 1) m) t ≡ slice_index errors t
  same_there h = get_or-set_other errors (x.1 - 1) t m 0
      (λ (e : t ≡ x.1 - 1). let z : ⊥ = grind (arith, nat_tests) in z)

  pub raised_by : (rest : List (ℕ × ℕ))
      → slice_index errors t ≡ (if concludes_among o (t + 1) rest then max error old else old)
      → slice_index (slice_set errors (x.1 - 1) m) t
      ≡ (if concludes_among o (t + 1) (x ∷ rest) then max error old else old)
  raised_by rest e = raised_more ((x.0 == o) && (x.1 == t + 1)) (concludes_among o (t + 1) rest) error old
      (slice_index errors t) (slice_index (slice_set errors (x.1 - 1) m) t) e raised_here same_there

-- ---- which pairs stand for an output

module _ (b : Block) (o : ℕ) (pair : Leaf) (some_rule : pair.rule ≢ 0) (some_part : pair.k ≢ 0)
    (small : pair.k ≤ 255) where
  pub pair_named : (r : Rule) (t : Bool) → rule_at b pair.rule ≡ Some r → t ≡ concludes_some r o → (IsTrue t
      → IsPairFor b o pair) × (IsPairFor b o pair → IsTrue t)
  pair_named r t er et = (to, from)
    where
      to : IsTrue t → IsPairFor b o pair
      to h = record {
        silent = λ z. absurd (some_part z);
        strong = λ z. omega (arith, some_rule);
        part = small;
        concludes_one = λ z. IsSomeAnd-at (λ r. IsTrue (concludes_some r o)) (rule_at b pair.rule) r er
            (subst (λ u. IsTrue u) et h);
      }

      from : IsPairFor b o pair → IsTrue t
      from p = subst (λ u. IsTrue u) (sym et)
          (IsSomeAnd-some (λ r. IsTrue (concludes_some r o)) (rule_at b pair.rule) r er
          (p.concludes_one (omega (arith, some_part))))

  pub pair_unnamed : length b.rules ≤ pair.rule - 1 → IsPairFor b o pair → ⊥
  pair_unnamed past p =
      let w = IsSomeAnd-within (λ r. IsTrue (concludes_some r o)) b.rules (pair.rule - 1)
      (p.concludes_one (omega (arith, some_part))) in
      omega (arith, w, past)

-- ---- a leaf that has a fault does not hold, and has one first fault

below_not : (f g : Fraction) → IsBelow f g → AtMost g f → ⊥
below_not f g l h = let a = l.cross in let b = h.cross in absurd (omega arith)

strong_fails : (leaf : the.Leaf) (s : Span Fraction) (m : Span ℕ) (f : LeafFault) → IsStrongFault leaf s m f
    → AtMost (over leaf.k 255) s.low → 1 ≤ m.low → ⊥
strong_fails leaf s m f (weak l) low some = below_not s.low (over leaf.k 255) l low
strong_fails leaf s m f (still l none) low some = absurd (omega arith)

silent_fails : (n : ℕ) (s : Span Fraction) (m : Span ℕ) (f : LeafFault) → IsSilentFault n s m f → s.high.num ≡ 0
    → m.high ≡ 0 → ⊥
silent_fails n s m f (firing some) none byte_none = absurd (omega arith)
silent_fails n s m f (loud none' some) none byte_none = absurd (omega arith)

pub faulty_fail : FaultyLeavesFail
faulty_fail b box o leaf f (of_strong r some e fault) (strong r' from k_from k_to e' s) =
    let same : r' ≡ r = cc in
    let at : IsStrong b box o r leaf.k = subst (λ q. IsStrong b box o q leaf.k) same s in
    strong_fails leaf (rule_span b box r) (rule_byte_span b box r) f fault at.low at.byte_low
faulty_fail b box o leaf f (of_strong r some e fault) (silent z k all) = absurd (omega arith)
faulty_fail b box o leaf f (of_silent n r none first fault) (strong r' from k_from k_to e' s) = absurd (omega arith)
faulty_fail b box o leaf f (of_silent n r none first fault) (silent z k all) =
    let t = any-term o r.concl first.concludes_one in
    let within = slice_get_within b.rules (n - 1) r first.rule_is in
    let here : get_or b.rules (n - 1) r ≡ r = get_or_from_slice_get b.rules (n - 1) r r first.rule_is in
    let still_rule : (t : ℕ) → IsTrue (concludes r o t) → IsStill b box r =
    subst (λ q. (t : ℕ) → IsTrue (concludes q o t) → IsStill b box q) here (all (n - 1) r within) in
    let rests = still_rule t.0 t.1 in
    silent_fails n (rule_span b box r) (rule_byte_span b box r) f fault rests.high rests.byte_high

-- ---- one first fault

one_strong : (leaf : the.Leaf) (s : Span Fraction) (m : Span ℕ) (f g : LeafFault) → IsStrongFault leaf s m f
    → IsStrongFault leaf s m g → f ≡ g
one_strong leaf s m _ _ (weak l) (weak k) = refl
one_strong leaf s m _ _ (weak l) (still k none) = absurd (below_not s.low (over leaf.k 255) l k)
one_strong leaf s m _ _ (still l none) (weak k) = absurd (below_not s.low (over leaf.k 255) k l)
one_strong leaf s m _ _ (still l none) (still k also) = refl

one_silent : (n : ℕ) (s : Span Fraction) (m : Span ℕ) (f g : LeafFault) → IsSilentFault n s m f
    → IsSilentFault n s m g → f ≡ g
one_silent n s m _ _ (firing some) (firing also) = refl
one_silent n s m _ _ (firing some) (loud none high) = absurd (omega arith)
one_silent n s m _ _ (loud none high) (firing some) = absurd (omega arith)
one_silent n s m _ _ (loud none high) (loud also as_high) = refl

-- a rule that fires stands before no other that is the first
none_before : (b : Block) (box : List Interval) (o n m : ℕ) (r q : Rule) (f : LeafFault) → IsFirstFiring b box o n r
    → IsSilentFault n (rule_span b box r) (rule_byte_span b box r) f → IsFirstFiring b box o m q → m ≤ n
none_before b box o n m r q f first fault other = ⊎_elim
    (λ (l : n < m). (
    let t = any-term o r.concl first.concludes_one in
    let rests = other.still_before n r first.from l first.rule_is t.0 t.1 in
    absurd (silent_fails n (rule_span b box r) (rule_byte_span b box r) f fault rests.high rests.byte_high)))
    (λ (l : m ≤ n). l)
    (cases_lt n m)

same_rule : (b : Block) (n m : ℕ) (r q : Rule) → n ≡ m → rule_at b n ≡ Some r → rule_at b m ≡ Some q → r ≡ q
same_rule b n m r q e at also = cc

one_firing : (b : Block) (box : List Interval) (n m : ℕ) (r q : Rule) (f g : LeafFault) → n ≡ m → r ≡ q
    → IsSilentFault n (rule_span b box r) (rule_byte_span b box r) f
    → IsSilentFault m (rule_span b box q) (rule_byte_span b box q) g → f ≡ g
one_firing b box n m r q f g en er here there =
    one_silent m (rule_span b box q) (rule_byte_span b box q) f g
    (subst (λ x. IsSilentFault m (rule_span b box x) (rule_byte_span b box x) f) er
    (subst (λ k. IsSilentFault k (rule_span b box r) (rule_byte_span b box r) f) en here)) there

pub faults_are_one : LeafFaultsAreOne
faults_are_one b box o leaf f g (of_strong r some at fault) (of_strong q also there other) =
    let same : r ≡ q = cc in
    one_strong leaf (rule_span b box q) (rule_byte_span b box q) f g
    (subst (λ x. IsStrongFault leaf (rule_span b box x) (rule_byte_span b box x) f) same fault) other
faults_are_one b box o leaf f g (of_strong r some at fault) (of_silent m q none first other) = absurd (omega arith)
faults_are_one b box o leaf f g (of_silent n r none first fault) (of_strong q some at other) = absurd (omega arith)
faults_are_one b box o leaf f g (of_silent n r none first fault) (of_silent m q also second other) =
    let up = none_before b box o n m r q f first fault second in
    let down = none_before b box o m n q r g second other first in
    let same : n ≡ m = omega (arith, up, down) in
    one_firing b box n m r q f g same (same_rule b n m r q same first.rule_is second.rule_is) fault other

-- ---- the first rule over a box that concludes a term of an output and has a strength

-- those of the first n rules that conclude a term of the output have no strength
abbrev pub AreStillBefore : Block → List Interval → ℕ → ℕ → Type 0
AreStillBefore b box o n =
    (m : ℕ) (q : Rule) → m < n → slice_get b.rules m ≡ Some q → (t : ℕ) → IsTrue (concludes q o t) → IsStill b box q

-- a rule whose upper end is 0
pub IsStill-end : (b : Block) (box : List Interval) (r : Rule) (high : End) → IsEndOfRule b box r High high
    → (value_of high.truth).num ≡ 0 → high.byte ≡ 0 → IsStill b box r
IsStill-end b box r high end none byte_none = record {
  high = none_same (value_of high.truth) (rule_span b box r).high end.value none;
  byte_high = sym end.byte ∙ byte_none;
}

-- ---- rule number n + 1

module _ (b : Block) (box : List Interval) (o n : ℕ) (r : Rule) (found : slice_get b.rules n ≡ Some r)
    (before : AreStillBefore b box o n) where
  pub IsFirstFiring-next : concludes_some r o ≡ true → IsFirstFiring b box o (n + 1) r
  IsFirstFiring-next one =
      let back : n ≡ n + 1 - 1 = omega arith in
      record {
        from = omega arith;
        rule_is = subst (λ k. slice_get b.rules k ≡ Some r) back found;
        concludes_one = one;
        still_before = λ m q from lt e t y. before (m - 1) q (omega arith) e t y;
      }

  -- where it fires the silent leaf has the fault of its upper end
  pub HasLeafFault-firing : (high : End) (f : LeafFault) → IsEndOfRule b box r High high → concludes_some r o ≡ true
      → IsSilentFault (n + 1) (only (value_of high.truth)) (only high.byte) f
      → HasLeafFault b box o silent_leaf f
  HasLeafFault-firing high f end one fault =
      of_silent (n + 1) r refl (IsFirstFiring-next one) (silent_same (n + 1) (value_of high.truth) high.byte
      (rule_span b box r) (rule_byte_span b box r) f end.value end.byte fault)

  -- else it is still too
  pub AreStillBefore-next : (concludes_some r o ≡ true → IsStill b box r) → AreStillBefore b box o (n + 1)
  AreStillBefore-next rests m q lt e t y = ⊎_elim
      (λ (l : m < n). before m q l e t y)
      (λ (l : n ≤ m).
      let here : m ≡ n = omega arith in
      let at : slice_get b.rules n ≡ Some q = subst (λ k. slice_get b.rules k ≡ Some q) here e in
      let same : r ≡ q = cc in
      subst (IsStill b box) same
      (rests (subst (λ p. concludes_some p o ≡ true) (sym same) (any-some o t q.concl y))))
      (cases_lt m n)

-- ---- all rules

pub AreStillBefore-all : (b : Block) (box : List Interval) (o n : ℕ) → AreStillBefore b box o n → length b.rules ≤ n
    → All (λ r. (t : ℕ) → IsTrue (concludes r o t) → IsStill b box r) b.rules
AreStillBefore-all b box o n before all k d lt t y =
    before k (get_or b.rules k d) (omega arith) (slice_get-get_or b.rules k d lt) t y

-- ---- whether a leaf holds, and its Bound, by what the code has found

-- the output that a number names
-- ---- silent leaves

-- their faults are of the rules alone
pub HasLeafFault-silent : (b : Block) (box : List Interval) (o : ℕ) (leaf : Leaf) (f : LeafFault) → leaf.k ≡ 0
    → HasLeafFault b box o silent_leaf f → HasLeafFault b box o leaf f
HasLeafFault-silent b box o leaf f none (of_strong r some e fault) = absurd (omega arith)
HasLeafFault-silent b box o leaf f none (of_silent n r _ first fault) = of_silent n r none first fault

-- ---- strong leaves

pub some_part : (k : ℕ) → (k ≡ 0 → ⊥) → 1 ≤ k
some_part zero h = absurd (h refl)
some_part (suc k) h = omega arith

module _ (b : Block) (o : ℕ) (leaf : Leaf) (pair : IsPairFor b o leaf) (some : leaf.k ≡ 0 → ⊥) where
  k_some : 1 ≤ leaf.k
  k_some = some_part leaf.k some

  -- their pair names a rule of the block
  pub rule-within : leaf.rule - 1 < length b.rules
  rule-within = IsSomeAnd-within (λ r. IsTrue (concludes_some r o)) b.rules (leaf.rule - 1) (pair.concludes_one k_some)

  -- which concludes a term of the output
  pub named_rule : (r : Rule) × (rule_at b leaf.rule ≡ Some r) × (concludes_some r o ≡ true)
  named_rule =
      let at = some_at b.rules (leaf.rule - 1) rule-within in (
        at.0,
        at.1,
        IsSomeAnd-some (λ r. IsTrue (concludes_some r o)) (rule_at b leaf.rule) at.0 at.1
            (pair.concludes_one k_some),
      )

  module _ (box : List Interval) (low : End)
      (ends : (r : Rule) → rule_at b leaf.rule ≡ Some r → IsEndOfRule b box r Low low) where
    named_end : IsEndOfRule b box named_rule.0 Low low
    named_end = ends named_rule.0 named_rule.1

    pub IsRatio-low : IsStrengthRatio low.truth
    IsRatio-low = named_end.small

    -- they hold where the rule's lower end has the part that they count on
    pub Holds-strong : AtMost (over leaf.k 255) (value_of low.truth) → 1 ≤ low.byte → Holds b box o leaf
    Holds-strong above some_byte =
        let r = named_rule.0 in
        let t = any-term o r.concl named_rule.2 in
        strong r (pair.strong k_some) k_some pair.part named_rule.1 (record {
          term = t.0;
          concludes_it = t.1;
          low = AtMost-trans (over leaf.k 255) (value_of low.truth) (rule_span b box r).low named_end.value.left above
              named_end.value.below;
          byte_low = subst (λ n. 1 ≤ n) named_end.byte some_byte;
        })

    -- and have the fault of that end
    pub HasLeafFault-strong : (f : LeafFault)
        → IsStrongFault leaf (only (value_of low.truth)) (only low.byte) f → HasLeafFault b box o leaf f
    HasLeafFault-strong f fault =
        let r = named_rule.0 in
        of_strong r k_some named_rule.1 (strong_same leaf (value_of low.truth) low.byte (rule_span b box r)
        (rule_byte_span b box r) f named_end.value named_end.byte fault)

-- ---- Bounds

module _ (b : Block) (box : List Interval) (o : ℕ) (x : Output) (h : ℕ) (leaf : Leaf) (n : ℕ) (valid : IsValid b)
    (intervals : IsBox box) (found : output_at b o ≡ Some x) where
  abbrev sum_of_errors : ℕ
  sum_of_errors = errors_from b (term_errors b box) o 1 x.singletons

  -- by the errors of the box's terms
  IsBound-term_errors : n ≡ bound b (term_errors b box) o x h leaf
      → IfSome (output_at b o) (λ y. IsBound b box o y h leaf n)
  IsBound-term_errors is =
      let bounds : IsBound b box o x h leaf n = record {
        errors = term_errors b box;
        are_errors = term_errors-are b box valid intervals;
        is = is;
      } in
      rw found bounds

  pub IsBound-silent : leaf.k ≡ 0 → n ≡ silent_bound x
      → IfSome (output_at b o) (λ y. IsBound b box o y h leaf n)
  IsBound-silent none is = IsBound-term_errors (is ∙ sym (bound_silent x h leaf.k sum_of_errors none))

  pub IsBound-strong : (sum : ℕ) → (leaf.k ≡ 0 → ⊥)
      → sum ≡ errors_from b (term_errors b box) o 1 x.singletons → n ≡ strong_bound x h sum leaf.k
      → IfSome (output_at b o) (λ y. IsBound b box o y h leaf n)
  IsBound-strong sum some sum_is is = IsBound-term_errors (is ∙ ap (λ s. strong_bound x h s leaf.k) sum_is
      ∙ sym (bound_strong x h leaf.k sum_of_errors (some_part leaf.k some)))

-- ---- how much of a rule's strength its leaf could count on, and the strongest of the first rules

some_below : (m r : ℕ) → (m ≡ 0 → r ≡ 0) → 1 ≤ r → 1 ≤ m
some_below zero r h some = absurd (let z = h refl in omega arith)
some_below (suc m) r h some = omega arith

-- ---- the candidate of rule number n + 1

module _ (b : Block) (box : List Interval) (o n : ℕ) (r : Rule) (found : slice_get b.rules n ≡ Some r) where
  rule_at-next : rule_at b (n + 1) ≡ Some r
  rule_at-next = let back : n ≡ n + 1 - 1 = omega arith in subst (λ k. slice_get b.rules k ≡ Some r) back found

  pub candidate-rule : (q : Rule) → rule_at b (n + 1) ≡ Some q → q ≡ r
  candidate-rule q is = let at = rule_at-next in cc

  -- it counts on the part of the lower end of the rule's strength
  module _ (low : End) (end : IsEndOfRule b box r Low low) (k : ℕ)
      (part : 1 ≤ low.byte → k ≡ 255 * (value_of low.truth).num / (value_of low.truth).den) where
    part-is : 1 ≤ (rule_byte_span b box r).low → k ≡ 255 * (rule_span b box r).low.num / (rule_span b box r).low.den
    part-is some = part (subst (λ m. 1 ≤ m) (sym end.byte) some)
        ∙ part_same (value_of low.truth) (rule_span b box r).low end.value

    pub IsCandidate-part : concludes_some r o ≡ true → (low.byte ≡ 0 → k ≡ 0) → 1 ≤ k → IsCandidate b box o (n + 1) k
    IsCandidate-part one none some =
        let byte_low : 1 ≤ (rule_byte_span b box r).low =
        subst (λ m. 1 ≤ m) end.byte (some_below low.byte k none some) in
        record {
          from = omega arith;
          rule = r;
          rule_is = rule_at-next;
          concludes_one = one;
          part = part-is byte_low;
          some = some;
          byte_low = byte_low;
        }

    -- and on no other
    pub IsCandidate-only : (j : ℕ) → IsCandidate b box o (n + 1) j → j ≡ k
    IsCandidate-only j c =
        let same = candidate-rule c.rule c.rule_is in
        let byte_low = subst (λ q. 1 ≤ (rule_byte_span b box q).low) same c.byte_low in
        c.part ∙ ap (λ q. 255 * (rule_span b box q).low.num / (rule_span b box q).low.den) same ∙ sym (part-is byte_low)

-- ---- the strongest of the first n rules

-- of the numbers that P has of the first n rules the greatest, 0 where there is none, and the first rule that has it
abbrev pub IsStrongest : (ℕ → ℕ → Type 0) → ℕ → ℕ → ℕ → Type 0
IsStrongest P n rule part =
    (1 ≤ part → P rule part) × (rule ≤ n) × ((m j : ℕ) → m ≤ n → P m j → (j < part) ⊎ ((j ≡ part) × (rule ≤ m)))

-- rule number n + 1 is the only one that it may take over
module _ (P : ℕ → ℕ → Type 0) (n rule part k : ℕ) (before : IsStrongest P n rule part)
    (only : (j : ℕ) → P (n + 1) j → j ≡ k) where
  last_only : (m j : ℕ) → n + 1 ≤ m → m ≤ n + 1 → P m j → j ≡ k
  last_only m j from to p = let e : m ≡ n + 1 = omega arith in only j (subst (λ i. P i j) e p)

  pub IsStrongest-greater : (1 ≤ k → P (n + 1) k) → part < k → IsStrongest P (n + 1) (n + 1) k
  IsStrongest-greater some more = (
    some,
    omega arith,
    λ m j to p. ⊎_elim
        (λ (l : m < n + 1). inl
        (⊎_elim (λ (s : j < part). (let z : j < k = omega arith in z))
        (λ (s : (j ≡ part) × (rule ≤ m)). (let e = s.0 in let z : j < k = omega arith in z))
        (before.2 m j (omega arith) p)))
        (λ (l : n + 1 ≤ m). inr (last_only m j l to p, l))
        (cases_lt m (n + 1)),
  )

  pub IsStrongest-not_greater : k ≤ part → IsStrongest P (n + 1) rule part
  IsStrongest-not_greater less =
      let to_n = before.1 in (
        before.0,
        omega arith,
        λ m j to p. ⊎_elim
            (λ (l : m < n + 1). before.2 m j (omega arith) p)
            (λ (l : n + 1 ≤ m).
            let same = last_only m j l to p in
            ⊎_elim (λ (s : j < part). inl s) (λ (s : part ≤ j). inr (omega arith, omega arith)) (cases_lt j part))
            (cases_lt m (n + 1)),
      )

-- of all rules
module _ (b : Block) (box : List Interval) (o n rule part : ℕ)
    (strongest : IsStrongest (IsCandidate b box o) n rule part) (all : length b.rules ≤ n) where
  pub IsFirstGreatest-strongest : IsFirstGreatest (IsCandidate b box o) rule part
  IsFirstGreatest-strongest m j c =
      let within = slice_get_within b.rules (m - 1) c.rule c.rule_is in strongest.2 m j (omega arith) c

  pub IsCandidate-strongest : part ≡ 0 → (m j : ℕ) → IsCandidate b box o m j → ⊥
  IsCandidate-strongest none m j c =
      let some = c.some in
      ⊎_elim (λ (l : j < part). absurd (omega arith))
      (λ (l : (j ≡ part) × (rule ≤ m)). absurd (let e = l.0 in omega arith)) (IsFirstGreatest-strongest m j c)

-- ---- the best leaf of a box, and the leaves that hold there

-- ---- strong leaves and candidates

part_above : (k n d : ℕ) → 0 < d → k * d ≤ n * 255 → k ≤ 255 * n / d
part_above k n d pos h = ⊎_elim
    (λ (l : 255 * n / d < k). (
    let up : (255 * n / d + 1) * d ≤ k * d = mul-le-mul_right d (omega arith) in
    absurd (omega arith)))
    (λ (l : k ≤ 255 * n / d). l)
    (cases_lt (255 * n / d) k)

part_below : (n d : ℕ) → 0 < d → 255 * n / d * d ≤ n * 255
part_below n d pos = omega arith

-- a candidate with at least as great a part
record IsOutdone (b : Block) (box : List Interval) (o n k : ℕ) : Type 0 where
  part : ℕ
  candidate : IsCandidate b box o n part
  above : k ≤ part

outdone : (b : Block) (box : List Interval) (o n k : ℕ) (r : Rule) → 1 ≤ n → 1 ≤ k → rule_at b n ≡ Some r
    → IsStrong b box o r k
    → IsOutdone b box o n k
outdone b box o n k r from some er s =
    let f = (rule_span b box r).low in
    let above = part_above k f.num f.den (rule_low_proper b box r).pos s.low.cross in
    record {
      part = 255 * f.num / f.den;
      candidate = record {
        from = from;
        rule = r;
        rule_is = er;
        concludes_one = any-some o s.term r.concl s.concludes_it;
        part = refl;
        some = omega arith;
        byte_low = s.byte_low;
      };
      above = above;
    }

-- where the silent leaf holds no rule is strong
pub silent_not_strong : (b : Block) (box : List Interval) (o n k : ℕ) (r : Rule) → Holds b box o silent_leaf
    → rule_at b n ≡ Some r
    → IsStrong b box o r k → ⊥
silent_not_strong b box o n k r (strong r' from some to e' s') er s = absurd (omega arith)
silent_not_strong b box o n k r (silent z y every) er s =
    let still : (t : ℕ) → IsTrue (concludes r o t) → IsStill b box r =
    All-slice_get (λ q. (t : ℕ) → IsTrue (concludes q o t) → IsStill b box q) b.rules (n - 1) r every er in
    let none = (still s.term s.concludes_it).byte_high in
    let some = s.byte_low in
    let order = bytes_ordered b box r in
    absurd (omega arith)

-- a leaf that holds is silent or has a candidate
none_holds : (b : Block) (box : List Interval) (o : ℕ) (leaf : Leaf) → IsBest b box o None → Holds b box o leaf → ⊥
none_holds b box o leaf (nothing quiet none) (silent z y every) = quiet (silent refl refl every)
none_holds b box o leaf (nothing quiet none) (strong r from some to er s) =
    let c = outdone b box o leaf.rule leaf.k r from some er s in
    none leaf.rule c.part c.candidate

-- ---- one best leaf

one_of_two : (n k m j : ℕ) → (j < k) ⊎ ((j ≡ k) × (n ≤ m)) → (k < j) ⊎ ((k ≡ j) × (m ≤ n)) → (n ≡ m) × (k ≡ j)
one_of_two n k m j p q = ⊎_elim
    (λ (l : j < k). ⊎_elim (λ (g : k < j). absurd (omega arith))
    (λ (g : (k ≡ j) × (m ≤ n)). absurd (let e = g.0 in omega arith)) q)
    (λ (l : (j ≡ k) × (n ≤ m)). ⊎_elim
    (λ (g : k < j). absurd (let e = l.0 in omega arith))
    (λ (g : (k ≡ j) × (m ≤ n)). (let a = l.1 in let c = g.1 in omega arith, g.0)) q)
    p

pub best_one : BestLeavesAreOne
best_one b box o _ _ (best_silent h) (best_silent g) = refl
best_one b box o _ _ (best_silent h) (best_strong m j quiet c first) = absurd (quiet h)
best_one b box o _ _ (best_silent h) (nothing quiet none) = absurd (quiet h)
best_one b box o _ _ (best_strong n k quiet c first) (best_silent g) = absurd (quiet g)
best_one b box o _ _ (best_strong n k quiet c first) (best_strong m j _ d second) =
    let e = one_of_two n k m j (first m j d) (second n k c) in
    rw (e.0, e.1) refl
best_one b box o _ _ (best_strong n k quiet c first) (nothing _ none) = absurd (none n k c)
best_one b box o _ _ (nothing quiet none) (best_silent g) = absurd (quiet g)
best_one b box o _ _ (nothing quiet none) (best_strong m j _ d second) = absurd (none m j d)
best_one b box o _ _ (nothing quiet none) (nothing _ never) = refl

-- ---- it holds

pub best_holds : BestLeavesHold
best_holds b box o _ to (best_silent h) = (
  h,
  record {
    silent = λ _. refl;
    strong = λ z. absurd (omega arith);
    part = omega arith;
    concludes_one = λ z. absurd (omega arith);
  },
)
best_holds b box o _ to (best_strong n k quiet c first) =
    let f = (rule_span b box c.rule).low in
    let below = part_below f.num f.den (rule_low_proper b box c.rule).pos in
    let t = any-term o c.rule.concl c.concludes_one in
    let e = c.part in
    let some = c.some in
    let low : AtMost (over k 255) f = record { cross = subst (λ j. j * f.den ≤ f.num * 255) (sym e) below } in (
      strong c.rule c.from some to c.rule_is
          (record { term = t.0; concludes_it = t.1; low = low; byte_low = c.byte_low }),
      record {
        silent = λ z. absurd (omega arith);
        strong = λ _. c.from;
        part = to;
        concludes_one = λ _. (let er = c.rule_is in rw er c.concludes_one);
      },
    )

-- ---- its Bound is the least

strong-falls : (x : Output) (h s j k : ℕ) → x.lo.0 <ℤ x.hi.0 → 1 ≤ h → 1 ≤ j → j ≤ k
    → strong_bound x h s k ≤ strong_bound x h s j
strong-falls x h s j k range hh hj le =
    let w = distance x.lo x.hi in
    let d = greatest_offset x x.singletons in
    let wp : 0 < w = omega (arith, ints) in
    let jp : 0 < billion * j = omega arith in
    let kp : 0 < billion * k = omega arith in
    let m : j * (s * 255 * billion) ≤ k * (s * 255 * billion) = mul-le-mul_right (s * 255 * billion) le in
    ratio-mono w h h (s * 255) (billion * k) (s * 255) (billion * j) d d wp hh (omega arith) kp jp (omega arith)
    (omega arith)

at_most : (n k m j : ℕ) → (j < k) ⊎ ((j ≡ k) × (n ≤ m)) → j ≤ k
at_most n k m j p = ⊎_elim (λ (l : j < k). omega arith) (λ (l : (j ≡ k) × (n ≤ m)). (let e = l.0 in omega arith)) p

module _ (b : Block) (box : List Interval) (o : ℕ) (x : Output) (h : ℕ) (leaf : Leaf) (valid : IsValid b)
    (range : x.lo.0 <ℤ x.hi.0) (hh : 1 ≤ h) (count : length box ≡ length b.inputs) where
  by_best : (best : Leaf) (n m : ℕ) → IsBest b box o (Some best) → IsBound b box o x h best n → Holds b box o leaf
      → IsBound b box o x h leaf m → n ≤ m
  by_best _ n m (best_silent hs) p (silent z y every) q =
      let e = bound_silent x h leaf.k (errors_from b q.errors o 1 x.singletons) y in
      moved p.is (q.is ∙ e) (omega arith)
  by_best _ n m (best_silent hs) p (strong r from some to er s) q =
      absurd (silent_not_strong b box o leaf.rule leaf.k r hs er s)
  by_best _ n m (best_strong i k quiet c first) p (silent z y every) q = absurd (quiet (silent refl refl every))
  by_best _ n m (best_strong i k quiet c first) p (strong r from some to er s) q =
      let out = outdone b box o leaf.rule leaf.k r from some er s in
      let le = at_most i k leaf.rule out.part (first leaf.rule out.part out.candidate) in
      let above = out.above in
      let best : Leaf = record { rule = i; k = k } in
      let there : IsBound b box o x h best (bound b q.errors o x h best) =
      record { errors = q.errors; are_errors = q.are_errors; is = refl } in
      let e = bounds_unique b box o x h best n (bound b q.errors o x h best) valid count p there in
      let sum = errors_from b q.errors o 1 x.singletons in
      moved (e ∙ bound_strong x h k sum c.some) (q.is ∙ bound_strong x h leaf.k sum some)
      (strong-falls x h sum leaf.k k range hh some (omega arith))

  least_here : (n m : ℕ) → IsBestBound b box o x h n → Holds b box o leaf → IsBound b box o x h leaf m → n ≤ m
  least_here n m (of_leaf best _ is_best p) holds q = by_best best n m is_best p holds q
  least_here n m (of_none none) holds q = absurd (none_holds b box o leaf none holds)

pub best_least : BestBoundsAreLeast
best_least b small box o x h leaf n m valid ex hh count ins some best holds q =
    let e = term_errors b small in
    let here = leaves_hold_inside b small box o leaf valid count ins some holds in
    let p : IsBound b small o x h leaf (bound b e o x h leaf) =
    record { errors = e; are_errors = term_errors-are b small valid some; is = refl } in
    let falls = bounds_fall b small box o x h leaf (bound b e o x h leaf) m valid ex hh count ins p q in
    let at : IsValidOutput x = All-slice_get IsValidOutput b.outputs (o - 1) x valid.outputs ex in
    let l = least_here b small o x h leaf valid at.range hh (ins.count ∙ count) n (bound b e o x h leaf) best here p in
    omega arith
