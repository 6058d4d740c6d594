-- An order of values that AND and OR keep and NOT turns, taken over to spans, and De Morgan's laws of these.
use Rattle.std.proofs.Common.{ℕ, ◌-◌, ◌≤◌, Bool, true, false, arith, ◌≡◌, max, refl, sym, ap₂, ◌∙◌, subst}
use Rattle.fz_num.specs.Fractions.{Fraction, IsProper, AtMost, one_minus, one, none, over, lesser, greater}
use Rattle.fz_num.proofs.Algebra.{AtMost-refl, IsProper-lesser, IsProper-greater, lesser-mono, greater-mono}
use Rattle.fz_num.proofs.Algebra.{AtMost-one_minus, AtMost-trans, by_lesser, by_greater, AtMost-lesser}
use Rattle.fz_num.proofs.Algebra.{AtMost-lesser_left, AtMost-lesser_right, AtMost-greater, AtMost-greater_left}
use Rattle.fz_num.proofs.Algebra.{AtMost-greater_right}
use Rattle.fuzzy_meaning.specs.Conditions.{Condition, Joins, levels, evaluate}
use Rattle.fuzzy_meaning.specs.Meaning.{truths}
use Rattle.fuzzy_meaning.proofs.Algebra.{evaluate-alike, IsDeMorgan}
use Rattle.error_bound.specs.{Spans.Span, Spans.reversed, Spans.spans, Spans.greatest}
use Rattle.error_bound.specs.Flattening.{IsSame, AreSame}
use Rattle.std.specs.Prelude.{not}
use Rattle.error_bound.proofs.Sides.{none_least}

-- the first span lies within the second
pub record IsNarrower {A : Type 0} (Le : A → A → Type 0) (s r : Span A) : Type 0 where
  pub low : Le r.low s.low
  pub high : Le s.high r.high

pub record IsBetween {A : Type 0} (Le : A → A → Type 0) (s : Span A) (a : A) : Type 0 where
  pub low : Le s.low a
  pub high : Le a s.high

pub record IsMonotone {A : Type 0} (Le : A → A → Type 0) (minus : A → A) (j : Joins A) : Type 0 where
  none : (or : Bool) → Le (j.none or) (j.none or)
  join : (or : Bool) (a b c d : A) → Le a c → Le b d → Le (j.join or a b) (j.join or c d)
  opposite : (a b : A) → Le a b → Le (minus b) (minus a)

module _ {A : Type 0} {Le : A → A → Type 0} {minus : A → A} {j : Joins A} (m : IsMonotone Le minus j) where
  pub narrower : {s r : ℕ → ℕ → Span A} → ((i t : ℕ) → IsNarrower Le (s i t) (r i t)) → (c : Condition)
      → IsNarrower Le (evaluate (reversed minus) (spans j) s c) (evaluate (reversed minus) (spans j) r c)
  narrower = evaluate-alike (IsNarrower Le)
      (record {
        none = λ or. record { low = m.none or; high = m.none or };
        join = λ or s r q p h k. record { low = m.join or _ _ _ _ h.low k.low; high = m.join or _ _ _ _ h.high k.high };
      })
      (λ s r h. record { low = m.opposite _ _ h.high; high = m.opposite _ _ h.low })

  pub between : {s : ℕ → ℕ → Span A} {v : ℕ → ℕ → A} → ((i t : ℕ) → IsBetween Le (s i t) (v i t)) → (c : Condition)
      → IsBetween Le (evaluate (reversed minus) (spans j) s c) (evaluate minus j v c)
  between = evaluate-alike (IsBetween Le)
      (record {
        none = λ or. record { low = m.none or; high = m.none or };
        join = λ or s r a b h k. record { low = m.join or _ _ _ _ h.low k.low; high = m.join or _ _ _ _ h.high k.high };
      })
      (λ s a h. record { low = m.opposite _ _ h.high; high = m.opposite _ _ h.low })

-- ---- of grades

joined_ordered : (or : Bool) (a b c d : ℕ) → a ≤ c → b ≤ d → (levels 255).join or a b ≤ (levels 255).join or c d
joined_ordered true a b c d h k = omega arith
joined_ordered false a b c d h k = omega arith

pub levels_monotone : IsMonotone (λ m n. m ≤ n) (λ n. 255 - n) (levels 255)
levels_monotone = record {
  none = λ or. omega arith;
  join = joined_ordered;
  opposite = λ a b h. omega arith;
}

-- ---- of degrees

-- proper fractions in order
pub record AreOrdered (f g : Fraction) : Type 0 where
  pub left : IsProper f
  pub right : IsProper g
  pub below : AtMost f g

pub ordered-refl : (f : Fraction) → IsProper f → AreOrdered f f
ordered-refl f p = record { left = p; right = p; below = AtMost-refl f }

nothing_ordered : (or : Bool) → AreOrdered (truths.none or) (truths.none or)
nothing_ordered true = ordered-refl none (record { pos = omega arith })
nothing_ordered false = ordered-refl one (record { pos = omega arith })

pub truths_ordered : (or : Bool) (f g h k : Fraction) → AreOrdered f h → AreOrdered g k
    → AreOrdered (truths.join or f g) (truths.join or h k)
truths_ordered true f g h k a b = record {
  left = IsProper-greater f g a.left b.left;
  right = IsProper-greater h k a.right b.right;
  below = greater-mono f g h k a.right b.right a.below b.below;
}
truths_ordered false f g h k a b = record {
  left = IsProper-lesser f g a.left b.left;
  right = IsProper-lesser h k a.right b.right;
  below = lesser-mono f g h k a.left b.left a.below b.below;
}

pub minus_ordered : (f g : Fraction) → AreOrdered f g → AreOrdered (one_minus g) (one_minus f)
minus_ordered f g a = record {
  left = record { pos = a.right.pos };
  right = record { pos = a.left.pos };
  below = AtMost-one_minus f g a.below;
}

pub truths_monotone : IsMonotone AreOrdered one_minus truths
truths_monotone = record { none = nothing_ordered; join = truths_ordered; opposite = minus_ordered }

-- ---- de Morgan's laws of truths, of grades and of spans of them, and how their ORs and ANDs are grouped

-- of good values, no parts count for nothing, and parts may be put into groups
pub record IsGrouping {A : Type 0} (Good : A → Type 0) (Same : A → A → Type 0) (j : Joins A) : Type 0 where
  pub join_none : (or : Bool) (a : A) → Good a → Same (j.join or a (j.none or)) a
  pub none_join : (or : Bool) (a : A) → Good a → Same a (j.join or (j.none or) a)
  pub join_join : (or : Bool) (a b c : A) → Good a → Good b → Good c
      → Same (j.join or a (j.join or b c)) (j.join or (j.join or a b) c)

-- ---- spans

-- both ends are
pub record AreGood {A : Type 0} (Good : A → Type 0) (s : Span A) : Type 0 where
  pub low : Good s.low
  pub high : Good s.high

module _ {A : Type 0} {Good : A → Type 0} {Same : A → A → Type 0} where
  pub spans_de_morgan : {minus : A → A} {j : Joins A} → IsDeMorgan Good Same minus j
      → IsDeMorgan (AreGood Good) (AreSame Same) (reversed minus) (spans j)
  spans_de_morgan m = record {
    alike = λ s g. record { low = m.alike _ g.low; high = m.alike _ g.high };
    trans = λ s r q a b. record { low = m.trans _ _ _ a.low b.low; high = m.trans _ _ _ a.high b.high };
    good_none = λ or. record { low = m.good_none or; high = m.good_none or };
    good_join = λ or s r g h. record {
      low = m.good_join or _ _ g.low h.low;
      high = m.good_join or _ _ g.high h.high;
    };
    good_minus = λ s g. record { low = m.good_minus _ g.high; high = m.good_minus _ g.low };
    join_same = λ or s r q p a b. record {
      low = m.join_same or _ _ _ _ a.low b.low;
      high = m.join_same or _ _ _ _ a.high b.high;
    };
    join_minus = λ or s r g h. record {
      low = m.join_minus or _ _ g.high h.high;
      high = m.join_minus or _ _ g.low h.low;
    };
    none_minus = λ or. record { low = m.none_minus or; high = m.none_minus or };
    twice = λ s g. record { low = m.twice _ g.low; high = m.twice _ g.high };
  }

  pub spans_grouping : {j : Joins A} → IsGrouping Good Same j → IsGrouping (AreGood Good) (AreSame Same) (spans j)
  spans_grouping m = record {
    join_none = λ or s g. record { low = m.join_none or _ g.low; high = m.join_none or _ g.high };
    none_join = λ or s g. record { low = m.none_join or _ g.low; high = m.none_join or _ g.high };
    join_join = λ or s r q g h k. record {
      low = m.join_join or _ _ _ g.low h.low k.low;
      high = m.join_join or _ _ _ g.high h.high k.high;
    };
  }

-- ---- truths

pub record IsDegree (f : Fraction) : Type 0 where
  pub proper : IsProper f
  pub to_one : AtMost f one

pub nothing_degree : (or : Bool) → IsDegree (truths.none or)
nothing_degree true = record { proper = record { pos = omega arith }; to_one = none_least one }
nothing_degree false = record { proper = record { pos = omega arith }; to_one = AtMost-refl one }

joined_degree : (or : Bool) (f g : Fraction) → IsDegree f → IsDegree g → IsDegree (truths.join or f g)
joined_degree true f g a b = record {
  proper = IsProper-greater f g a.proper b.proper;
  to_one = AtMost-greater f g one a.to_one b.to_one;
}
joined_degree false f g a b = record {
  proper = IsProper-lesser f g a.proper b.proper;
  to_one = by_lesser (λ h. AtMost h one) f g (λ _. a.to_one) (λ _. b.to_one);
}

minus_degree : (f : Fraction) → IsDegree f → IsDegree (one_minus f)
minus_degree f a = record { proper = record { pos = a.proper.pos }; to_one = record { cross = omega arith } }

pub same : (f : Fraction) → IsProper f → IsSame f f
same f p = record { left = p; right = p; below = AtMost-refl f; above = AtMost-refl f }

pub same_trans : (f g h : Fraction) → IsSame f g → IsSame g h → IsSame f h
same_trans f g h a b = record {
  left = a.left;
  right = b.right;
  below = AtMost-trans f g h a.right a.below b.below;
  above = AtMost-trans h g f a.right b.above a.above;
}

pub truths_same : (or : Bool) (f g h k : Fraction) → IsSame f h → IsSame g k
    → IsSame (truths.join or f g) (truths.join or h k)
truths_same or f g h k a b =
    let there = truths_ordered or f g h k (fore a) (fore b) in
    let again = truths_ordered or h k f g (back a) (back b) in
    record { left = there.left; right = again.left; below = there.below; above = again.below }
  where
    fore : {p q : Fraction} → IsSame p q → AreOrdered p q
    fore c = record { left = c.left; right = c.right; below = c.below }

    back : {p q : Fraction} → IsSame p q → AreOrdered q p
    back c = record { left = c.right; right = c.left; below = c.above }

-- NOT of an OR, and of an AND
truths_minus : (or : Bool) (f g : Fraction) → IsDegree f → IsDegree g
    → IsSame (truths.join or (one_minus f) (one_minus g)) (one_minus (truths.join (not or) f g))
truths_minus or f g a b = record {
  left = (joined_degree or _ _ (minus_degree f a) (minus_degree g b)).proper;
  right = (minus_degree _ (joined_degree (not or) f g a b)).proper;
  below = below or;
  above = above or;
}
  where
    below : (or : Bool)
        → AtMost (truths.join or (one_minus f) (one_minus g)) (one_minus (truths.join (not or) f g))
    below true = AtMost-greater (one_minus f) (one_minus g) (one_minus (lesser f g))
        (AtMost-one_minus (lesser f g) f (AtMost-lesser_left f g))
        (AtMost-one_minus (lesser f g) g (AtMost-lesser_right f g))
    below false = by_greater (λ h. AtMost (lesser (one_minus f) (one_minus g)) (one_minus h)) f g
        (λ _. AtMost-lesser_left (one_minus f) (one_minus g)) (λ _. AtMost-lesser_right (one_minus f) (one_minus g))

    above : (or : Bool)
        → AtMost (one_minus (truths.join (not or) f g)) (truths.join or (one_minus f) (one_minus g))
    above true = by_lesser (λ h. AtMost (one_minus h) (greater (one_minus f) (one_minus g))) f g
        (λ _. AtMost-greater_left (one_minus f) (one_minus g)) (λ _. AtMost-greater_right (one_minus f) (one_minus g))
    above false = AtMost-lesser (one_minus (greater f g)) (one_minus f) (one_minus g)
        (AtMost-one_minus f (greater f g) (AtMost-greater_left f g))
        (AtMost-one_minus g (greater f g) (AtMost-greater_right f g))

nothing_minus : (or : Bool) → IsSame (truths.none or) (one_minus (truths.none (not or)))
nothing_minus true = same none (nothing_degree true).proper
nothing_minus false = same one (nothing_degree false).proper

twice_minus : (f : Fraction) → IsDegree f → IsSame f (one_minus (one_minus f))
twice_minus f a =
    let back : f.den - (f.den - f.num) ≡ f.num = (let l = a.to_one.cross in omega arith) in
    subst (λ n. IsSame f (over n f.den)) (sym back) (same f a.proper)

pub truths_de_morgan : IsDeMorgan IsDegree IsSame one_minus truths
truths_de_morgan = record {
  alike = λ f a. same f a.proper;
  trans = same_trans;
  good_none = nothing_degree;
  good_join = joined_degree;
  good_minus = minus_degree;
  join_same = truths_same;
  join_minus = truths_minus;
  none_minus = nothing_minus;
  twice = twice_minus;
}

truth_nothing : (or : Bool) (f : Fraction) → IsDegree f → IsSame (truths.join or f (truths.none or)) f
truth_nothing true f a = record {
  left = (joined_degree true f none a (nothing_degree true)).proper;
  right = a.proper;
  below = AtMost-greater f none f (AtMost-refl f) (none_least f);
  above = AtMost-greater_left f none;
}
truth_nothing false f a = record {
  left = (joined_degree false f one a (nothing_degree false)).proper;
  right = a.proper;
  below = AtMost-lesser_left f one;
  above = AtMost-lesser f f one (AtMost-refl f) a.to_one;
}

nothing_truth : (or : Bool) (f : Fraction) → IsDegree f → IsSame f (truths.join or (truths.none or) f)
nothing_truth true f a = record {
  left = a.proper;
  right = (joined_degree true none f (nothing_degree true) a).proper;
  below = AtMost-greater_right none f;
  above = AtMost-greater none f f (none_least f) (AtMost-refl f);
}
nothing_truth false f a = record {
  left = a.proper;
  right = (joined_degree false one f (nothing_degree false) a).proper;
  below = AtMost-lesser f one f a.to_one (AtMost-refl f);
  above = AtMost-lesser_right one f;
}

truths_joined : (or : Bool) (f g h : Fraction) → IsDegree f → IsDegree g → IsDegree h
    → IsSame (truths.join or f (truths.join or g h)) (truths.join or (truths.join or f g) h)
truths_joined true f g h a b c =
    let x = greater f g in
    let y = greater g h in
    let px = (joined_degree true f g a b).proper in
    let py = (joined_degree true g h b c).proper in
    let l = greater f y in
    let r = greater x h in
    let in_l = AtMost-greater_right f y in
    let in_r = AtMost-greater_left x h in
    record {
      left = IsProper-greater f y a.proper py;
      right = IsProper-greater x h px c.proper;
      below = AtMost-greater f y r (AtMost-trans f x r px (AtMost-greater_left f g) in_r)
          (AtMost-greater g h r (AtMost-trans g x r px (AtMost-greater_right f g) in_r) (AtMost-greater_right x h));
      above = AtMost-greater x h l
          (AtMost-greater f g l (AtMost-greater_left f y) (AtMost-trans g y l py (AtMost-greater_left g h) in_l))
          (AtMost-trans h y l py (AtMost-greater_right g h) in_l);
    }
truths_joined false f g h a b c =
    let x = lesser f g in
    let y = lesser g h in
    let px = (joined_degree false f g a b).proper in
    let py = (joined_degree false g h b c).proper in
    let l = lesser f y in
    let r = lesser x h in
    let l_in = AtMost-lesser_right f y in
    let r_in = AtMost-lesser_left x h in
    record {
      left = IsProper-lesser f y a.proper py;
      right = IsProper-lesser x h px c.proper;
      below = AtMost-lesser l x h
          (AtMost-lesser l f g (AtMost-lesser_left f y) (AtMost-trans l y g py l_in (AtMost-lesser_left g h)))
          (AtMost-trans l y h py l_in (AtMost-lesser_right g h));
      above = AtMost-lesser r f y (AtMost-trans r x f px r_in (AtMost-lesser_left f g))
          (AtMost-lesser r g h (AtMost-trans r x g px r_in (AtMost-lesser_right f g)) (AtMost-lesser_right x h));
    }

pub truths_grouping : IsGrouping IsDegree IsSame truths
truths_grouping = record { join_none = truth_nothing; none_join = nothing_truth; join_join = truths_joined }

-- ---- grades

nothing_to_255 : (or : Bool) → (levels 255).none or ≤ 255
nothing_to_255 true = omega arith
nothing_to_255 false = omega arith

joined_to_255 : (or : Bool) (m n : ℕ) → m ≤ 255 → n ≤ 255 → (levels 255).join or m n ≤ 255
joined_to_255 true m n g h = omega arith
joined_to_255 false m n g h = omega arith

levels_minus : (or : Bool) (m n : ℕ) → m ≤ 255 → n ≤ 255
    → (levels 255).join or (255 - m) (255 - n) ≡ 255 - (levels 255).join (not or) m n
levels_minus true m n g h = omega arith
levels_minus false m n g h = omega arith

no_levels_minus : (or : Bool) → (levels 255).none or ≡ 255 - (levels 255).none (not or)
no_levels_minus true = refl
no_levels_minus false = refl

pub levels_de_morgan : IsDeMorgan (λ n. n ≤ 255) (λ m n. m ≡ n) (λ n. 255 - n) (levels 255)
levels_de_morgan = record {
  alike = λ n g. refl;
  trans = λ k m n p q. p ∙ q;
  good_none = nothing_to_255;
  good_join = joined_to_255;
  good_minus = λ n g. omega arith;
  join_same = λ or k l m n p q. ap₂ ((levels 255).join or) p q;
  join_minus = levels_minus;
  none_minus = no_levels_minus;
  twice = λ n g. omega arith;
}

level_nothing : (or : Bool) (n : ℕ) → n ≤ 255 → (levels 255).join or n ((levels 255).none or) ≡ n
level_nothing true n g = omega arith
level_nothing false n g = omega arith

nothing_level : (or : Bool) (n : ℕ) → n ≤ 255 → n ≡ (levels 255).join or ((levels 255).none or) n
nothing_level true n g = omega arith
nothing_level false n g = omega arith

levels_joined : (or : Bool) (k m n : ℕ) → k ≤ 255 → m ≤ 255 → n ≤ 255
    → (levels 255).join or k ((levels 255).join or m n) ≡ (levels 255).join or ((levels 255).join or k m) n
levels_joined true k m n g h i = omega arith
levels_joined false k m n g h i = omega arith

pub levels_grouping : IsGrouping (λ n. n ≤ 255) (λ m n. m ≡ n) (levels 255)
levels_grouping = record { join_none = level_nothing; none_join = nothing_level; join_join = levels_joined }

-- ---- errors

pub errors_de_morgan : IsDeMorgan (λ _. Unit {0}) (λ m n. m ≡ n) (λ n. n) greatest
errors_de_morgan = record {
  alike = λ n g. refl;
  trans = λ k m n p q. p ∙ q;
  good_none = λ or. tt;
  good_join = λ or m n g h. tt;
  good_minus = λ n g. tt;
  join_same = λ or k l m n p q. ap₂ max p q;
  join_minus = λ or m n g h. refl;
  none_minus = λ or. refl;
  twice = λ n g. refl;
}

pub errors_grouping : IsGrouping (λ _. Unit {0}) (λ m n. m ≡ n) greatest
errors_grouping = record {
  join_none = λ or n g. omega arith;
  none_join = λ or n g. omega arith;
  join_join = λ or k m n g h i. omega arith;
}
