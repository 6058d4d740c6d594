-- Each pair holds or has a fault, and each box has a best leaf's Bound and a tight one, or none.
use Rattle.std.proofs.Common.{◌≡◌, ◌⊎◌, inl, inr, ℕ, zero, suc, ◌+◌, ◌-◌, ◌*◌, ◌/◌, ◌<◌, ◌≤◌, max, Bool, true, false, List, []}
use Rattle.std.proofs.Common.{◌∷◌, length, Option, Some, None, refl, subst, arith, mul-le-mul_right}
use Rattle.std.proofs.{lemmas.Bool.cases_lt, lemmas.Option.slice_get_within}
use Rattle.std.specs.Prelude.{All, slice_get, ◌<ℤ◌, if◌then◌else◌}
use Rattle.fz_list.proofs.Algebra.{All-slice_get, All-none, All-cons, some_at}
use Rattle.fz_num.specs.{declared.dec.Dec.Dec, Decimals.distance}
use Rattle.fz_num.proofs.Algebra.{up_div-le}
use Rattle.fuzzy_meaning.specs.Blocks.{IsValid, IsValidOutput, IsValidRule, IsWithin}
use Rattle.fuzzy_meaning.specs.{declared.block.Block.Block, declared.block.Rule.Rule}
use Rattle.fuzzy_meaning.specs.Meaning.{concludes, weight_of}
use Rattle.cell_error.specs.{Errors.IsRange, Means.MeansHaveErrors}
use Rattle.error_bound.specs.declared.boxes.{Interval.Interval, Leaf.Leaf, LeafFault.LeafFault}
use Rattle.error_bound.specs.declared.boxes.LeafFault.TheVariants.{Weak, Still, Silent, Loud}
use Rattle.error_bound.specs.Boxes.{rule_span, rule_byte_span}
use Rattle.error_bound.specs.Leaves.{rule_at, concludes_some, IsPairFor, strong, silent, IsStill, Holds}
use Rattle.error_bound.specs.Faults.{weak, still, IsFirstFiring, IsSilentFault, silent as firing, loud}
use Rattle.error_bound.specs.Faults.{of_strong, of_silent, HasLeafFault, EachLeafIsJudged, parts_down, parts_up}
use Rattle.error_bound.specs.Best.{silent_leaf, IsCandidate, IsBest, silent as best_silent}
use Rattle.error_bound.specs.Best.{strong as best_strong, nothing}
use Rattle.error_bound.specs.BestLeaves.{IsBestBound, of_leaf, of_none, EachBoxHasABestBound, BestPartsAreSmall}
use Rattle.error_bound.specs.Bounds.{bound, silent_bound}
use Rattle.error_bound.specs.Tight.{greatest_of, low_of, high_of, high_part, ranges_at, sure_sum, sure_bytes, IsSure}
use Rattle.error_bound.specs.Tight.{of_bound, of_none as none_tight, silent as tight_silent, sure}
use Rattle.error_bound.specs.{TightLaws.EachBoxHasATightCount, MassRanges.MassesAreInRange, CellErrors.term_errors}
use Rattle.error_bound.specs.Errors.{billion}
use Rattle.error_bound.proofs.LeafLemmas.{AreStillBefore, AreStillBefore-all, AreStillBefore-next, IsFirstFiring-next}
use Rattle.error_bound.proofs.LeafLemmas.{any-term, named_rule, some_part, faulty_fail}
use Rattle.error_bound.proofs.{Literals.term_errors-are, TightLemmas.sure_has, TightLemmas.ends_ordered}
use Rattle.error_bound.proofs.{FlatteningLemmas.span_good, RuleLemmas.times_proper, RuleLemmas.times_one}
use Rattle.error_bound.proofs.{RuleLemmas.weight_in, Shares.within_width}

-- ---- whether rules have a strength on a box

module _ (b : Block) (box : List Interval) where
  abbrev Fires : ℕ → Rule → Type 0
  Fires n r = (f : LeafFault) × IsSilentFault n (rule_span b box r) (rule_byte_span b box r) f

  still_or_fires : (n : ℕ) (r : Rule) → IsStill b box r ⊎ Fires n r
  still_or_fires n r = elim (cases_lt 0 (rule_span b box r).high.num) [
    | inl some ↦ inr (Silent n (record { 0 = parts_up (rule_span b box r).high }), firing some)
    | inr none ↦ elim (cases_lt 0 (rule_byte_span b box r).high) [
      | inl some ↦ inr (Loud n (rule_byte_span b box r).high, loud (omega (arith, none)) some)
      | inr byte_none ↦ inl (record { high = omega (arith, none); byte_high = omega (arith, byte_none) })
    ]
  ]

  module _ (o : ℕ) where
    abbrev SomeFires : Type 0
    SomeFires = (n : ℕ) × (r : Rule) × IsFirstFiring b box o n r × Fires n r

    one_more : (n : ℕ) (r : Rule) → slice_get b.rules n ≡ Some r → AreStillBefore b box o n
        → AreStillBefore b box o (n + 1) ⊎ SomeFires
    one_more n r e before = by_conclusion (concludes_some r o) refl
      where
        by_conclusion : (c : Bool) → concludes_some r o ≡ c → AreStillBefore b box o (n + 1) ⊎ SomeFires
        by_conclusion false never = inl (AreStillBefore-next b box o n r e before (λ yes. absurd (let z : ⊥ = cc in z)))
        by_conclusion true ends = elim (still_or_fires (n + 1) r) [
          | inl rests ↦ inl (AreStillBefore-next b box o n r e before (λ _. rests))
          | inr fires ↦ inr (n + 1, r, IsFirstFiring-next b box o n r e before ends, fires)
        ]

    none_or_first : (n : ℕ) → n ≤ length b.rules → AreStillBefore b box o n ⊎ SomeFires
    none_or_first zero le = inl (λ m q lt. absurd (omega arith))
    none_or_first (suc n) le =
        let here = some_at b.rules n (omega arith) in
        let more : n + 1 ≡ suc n = omega arith in
        elim (none_or_first n (omega arith)) [
          | inl before ↦
              subst (λ k. AreStillBefore b box o k ⊎ SomeFires) more (one_more n here.0 here.1 before)
          | inr fires ↦ inr fires
        ]

    silent_judged : (leaf : Leaf) → leaf.rule ≡ 0 → leaf.k ≡ 0
        → Holds b box o leaf ⊎ ((f : LeafFault) × HasLeafFault b box o leaf f)
    silent_judged leaf none no_part = elim (none_or_first (length b.rules) (omega arith)) [
      | inl before ↦
          inl (silent none no_part (AreStillBefore-all b box o (length b.rules) before (omega arith)))
      | inr (n, r, first, fires) ↦ inr (fires.0, of_silent n r no_part first fires.1)
    ]

    strong_judged : (leaf : Leaf) → IsPairFor b o leaf → (leaf.k ≡ 0 → ⊥)
        → Holds b box o leaf ⊎ ((f : LeafFault) × HasLeafFault b box o leaf f)
    strong_judged leaf pair some =
        let r = (named_rule b o leaf pair some).0 in
        let at : rule_at b leaf.rule ≡ Some r = (named_rule b o leaf pair some).1 in
        let t = any-term o r.concl (named_rule b o leaf pair some).2 in
        let from = some_part leaf.k some in
        let low = (rule_span b box r).low in
        elim (cases_lt (low.num * 255) (leaf.k * low.den)) [
          | inl below ↦ inr (
            Weak leaf.rule leaf.k (record { 0 = parts_down low }),
            of_strong r from at (weak (record { cross = below })),
          )
          | inr above ↦ elim (cases_lt 0 (rule_byte_span b box r).low) [
            | inl bytes ↦ inl (strong r (pair.strong from) from pair.part at (record {
              term = t.0;
              concludes_it = t.1;
              low = record { cross = above };
              byte_low = bytes;
            }))
            | inr none ↦
                inr (Still leaf.rule, of_strong r from at (still (record { cross = above }) (omega (arith, none))))
          ]
        ]

pub leaves_judged : EachLeafIsJudged
leaves_judged b box o leaf pair = by_part leaf.k refl
  where
    by_part : (k : ℕ) → leaf.k ≡ k → Holds b box o leaf ⊎ ((f : LeafFault) × HasLeafFault b box o leaf f)
    by_part zero none = silent_judged b box o leaf (pair.silent none) none
    by_part (suc k) some = strong_judged b box o leaf pair (λ none. absurd (omega (arith, some, none)))

-- ---- the silent leaf, and the strongest

module _ (b : Block) (box : List Interval) (o : ℕ) where
  pub quiet_or_loud : Holds b box o silent_leaf ⊎ (Holds b box o silent_leaf → ⊥)
  quiet_or_loud = elim (silent_judged b box o silent_leaf refl refl) [
    | inl quiet ↦ inl quiet
    | inr fault ↦ inr (faulty_fail b box o silent_leaf fault.0 fault.1)
  ]

  abbrev part_of : Rule → ℕ
  part_of r = 255 * (rule_span b box r).low.num / (rule_span b box r).low.den

  same_rule : (n k : ℕ) (r : Rule) → rule_at b n ≡ Some r → (c : IsCandidate b box o n k) → c.rule ≡ r
  same_rule n k r at c = let e = c.rule_is in cc

  candidate_or_none : (n : ℕ) (r : Rule) → 1 ≤ n → rule_at b n ≡ Some r
      → IsCandidate b box o n (part_of r) ⊎ ((k : ℕ) → IsCandidate b box o n k → ⊥)
  candidate_or_none n r from at = by_conclusion (concludes_some r o) refl
    where
      silent_one : concludes_some r o ≡ false → (k : ℕ) → IsCandidate b box o n k → ⊥
      silent_one never k c =
          let yes : concludes_some r o ≡ true =
          subst (λ q. concludes_some q o ≡ true) (same_rule n k r at c) c.concludes_one in
          cc

      no_part : part_of r ≤ 0 → (k : ℕ) → IsCandidate b box o n k → ⊥
      no_part none k c =
          let p : k ≡ part_of r = subst (λ q. k ≡ part_of q) (same_rule n k r at c) c.part in
          let some = c.some in
          omega (arith, none, p, some)

      no_byte : (rule_byte_span b box r).low ≤ 0 → (k : ℕ) → IsCandidate b box o n k → ⊥
      no_byte none k c =
          let p : 1 ≤ (rule_byte_span b box r).low =
          subst (λ q. 1 ≤ (rule_byte_span b box q).low) (same_rule n k r at c) c.byte_low in
          omega (arith, none, p)

      by_conclusion : (d : Bool) → concludes_some r o ≡ d
          → IsCandidate b box o n (part_of r) ⊎ ((k : ℕ) → IsCandidate b box o n k → ⊥)
      by_conclusion false never = inr (silent_one never)
      by_conclusion true ends = elim (cases_lt 0 (part_of r)) [
        | inr none ↦ inr (no_part none)
        | inl some ↦ elim (cases_lt 0 (rule_byte_span b box r).low) [
          | inr none ↦ inr (no_byte none)
          | inl bytes ↦ inl (record {
            from = from;
            rule = r;
            rule_is = at;
            concludes_one = ends;
            part = refl;
            some = some;
            byte_low = bytes;
          })
        ]
      ]

  -- of the first n rules
  abbrev IsFirstOf : ℕ → ℕ → ℕ → Type 0
  IsFirstOf n m k = (i j : ℕ) → i ≤ n → IsCandidate b box o i j → (j < k) ⊎ ((j ≡ k) × (m ≤ i))

  abbrev NoneOf : ℕ → Type 0
  NoneOf n = (i j : ℕ) → i ≤ n → IsCandidate b box o i j → ⊥

  abbrev Strongest : ℕ → Type 0
  Strongest n = NoneOf n ⊎ ((m : ℕ) × (k : ℕ) × (m ≤ n) × IsCandidate b box o m k × IsFirstOf n m k)

  part_is : (n : ℕ) (r : Rule) (j : ℕ) → rule_at b n ≡ Some r → IsCandidate b box o n j → j ≡ part_of r
  part_is n r j at c = let same : c.rule ≡ r = (let e = c.rule_is in cc) in subst (λ q. j ≡ part_of q) same c.part

  add_rule : (n : ℕ) (r : Rule) → rule_at b (suc n) ≡ Some r → Strongest n → Strongest (suc n)
  add_rule n r at (inl none) = elim (candidate_or_none (suc n) r (omega arith) at) [
    | inr never ↦ inl (λ i j le c. elim (cases_lt i (suc n)) [
      | inl below ↦ none i j (omega (arith, below)) c
      | inr last ↦
          never j (subst (λ q. IsCandidate b box o q j) (let e : i ≡ suc n = omega (arith, last, le) in e) c)
    ])
    | inl here ↦ inr (
      suc n,
      part_of r,
      omega arith,
      here,
      (λ i j le c. elim (cases_lt i (suc n)) [
        | inl below ↦ absurd (none i j (omega (arith, below)) c)
        | inr last ↦
            let e : i ≡ suc n = omega (arith, last, le) in
            inr (part_is (suc n) r j at (subst (λ q. IsCandidate b box o q j) e c), omega (arith, last))
      ]),
    )
  ]
  add_rule n r at (inr (m, k, few, c, first)) = elim (candidate_or_none (suc n) r (omega arith) at) [
    | inr never ↦ inr (
      m,
      k,
      omega (arith, few),
      c,
      (λ i j le d. elim (cases_lt i (suc n)) [
        | inl below ↦ first i j (omega (arith, below)) d
        | inr last ↦
            absurd (never j (subst (λ q. IsCandidate b box o q j) (let e : i ≡ suc n = omega (arith, last, le) in e) d))
      ]),
    )
    | inl here ↦ elim (cases_lt k (part_of r)) [
      | inl above ↦ inr (
        suc n,
        part_of r,
        omega arith,
        here,
        (λ i j le d. elim (cases_lt i (suc n)) [
          | inl below ↦ elim (first i j (omega (arith, below)) d) [
            | inl less ↦ inl (omega (arith, less, above))
            | inr same ↦ inl (let e = same.0 in omega (arith, e, above))
          ]
          | inr last ↦
              let e : i ≡ suc n = omega (arith, last, le) in
              inr (part_is (suc n) r j at (subst (λ q. IsCandidate b box o q j) e d), omega (arith, last))
        ]),
      )
      | inr not_above ↦ inr (
        m,
        k,
        omega (arith, few),
        c,
        (λ i j le d. elim (cases_lt i (suc n)) [
          | inl below ↦ first i j (omega (arith, below)) d
          | inr last ↦
              let e : i ≡ suc n = omega (arith, last, le) in
              let p = part_is (suc n) r j at (subst (λ q. IsCandidate b box o q j) e d) in
              elim (cases_lt j k) [
                | inl less ↦ inl less
                | inr same ↦ inr (omega (arith, same, p, not_above), omega (arith, e, few))
              ]
        ]),
      )
    ]
  ]

  strongest : (n : ℕ) → n ≤ length b.rules → Strongest n
  strongest zero le = inl (λ i j few c. let from = c.from in absurd (omega (arith, from, few)))
  strongest (suc n) le =
      let here = some_at b.rules n (omega arith) in
      let back : n ≡ suc n - 1 = omega arith in
      add_rule n here.0 (subst (λ k. slice_get b.rules k ≡ Some here.0) back here.1) (strongest n (omega arith))

  candidate_within : (n k : ℕ) → IsCandidate b box o n k → n ≤ length b.rules
  candidate_within n k c =
      let from = c.from in let l = slice_get_within b.rules (n - 1) c.rule c.rule_is in omega (arith, from, l)

  best_leaf : (p : Option Leaf) × IsBest b box o p
  best_leaf = elim quiet_or_loud [
    | inl quiet ↦ (Some silent_leaf, best_silent quiet)
    | inr noisy ↦ elim (strongest (length b.rules) (omega arith)) [
      | inl none ↦ (None, nothing noisy (λ n k c. none n k (candidate_within n k c) c))
      | inr (m, k, few, c, first) ↦ (
        Some (record { rule = m; k = k }),
        best_strong m k noisy c (λ n j d. first n j (candidate_within n j d) d),
      )
    ]
  ]

few_parts : (n d : ℕ) → n ≤ d → 0 < d → 255 * n / d ≤ 255
few_parts n d le some = elim (cases_lt 255 (255 * n / d)) [
  | inr few ↦ few
  | inl many ↦ absurd (
      let up : 256 * d ≤ 255 * n / d * d = mul-le-mul_right d (omega (arith, many)) in
      omega arith)
]

pub parts_small : BestPartsAreSmall
parts_small b box o _ valid (best_silent quiet) = omega arith
parts_small b box o _ valid (best_strong n k noisy c first) =
    let r = c.rule in
    let w = weight_of r.weight in
    let vr : IsValidRule b r = All-slice_get (IsValidRule b) b.rules (n - 1) r valid.rules c.rule_is in
    let good = (span_good b box r.cond).low in
    let some = (times_proper _ w good.proper).pos in
    let few = (times_one _ w (weight_in r.weight vr.weight) good.to_one).cross in
    let e = c.part in
    let low = (rule_span b box r).low in
    let le = few_parts low.num low.den (omega (arith, few)) some in
    omega (arith, e, le)

pub best_bounds : EachBoxHasABestBound
best_bounds b box o x h valid is = by_leaf (best_leaf b box o).0 (best_leaf b box o).1
  where
    by_leaf : (p : Option Leaf) → IsBest b box o p → (n : ℕ) × IsBestBound b box o x h n
    by_leaf None best = (1000001, of_none best)
    by_leaf (Some leaf) best = (
      bound b (term_errors b box) o x h leaf,
      of_leaf leaf (bound b (term_errors b box) o x h leaf) best
          (record { errors = term_errors b box; are_errors = term_errors-are b box valid is; is = refl }),
    )

-- ---- the tight Bound

pub tight_counts : MeansHaveErrors → EachBoxHasATightCount
tight_counts have b box o x h valid is ex hh = elim (quiet_or_loud b box o) [
  | inl quiet ↦ (silent_bound x, of_bound (tight_silent quiet refl))
  | inr noisy ↦ elim (cases_lt 0 (sure_sum b box o x)) [
    | inr none ↦ (1000001, none_tight noisy (λ s. let some = s.sum in absurd (omega (arith, none, some))) refl)
    | inl sum ↦ elim (cases_lt 0 (sure_bytes b box o x)) [
      | inr none ↦ (1000001, none_tight noisy (λ s. let some = s.bytes in absurd (omega (arith, none, some))) refl)
      | inl bytes ↦
          let is_sure : IsSure b box o x = record { sum = sum; bytes = bytes } in
          let vx : IsValidOutput x = All-slice_get IsValidOutput b.outputs (o - 1) x valid.outputs ex in
          let n = sure_has have b box (term_errors b box) o x vx.range h hh is_sure in
          (n.0, of_bound (sure (term_errors b box) (term_errors-are b box valid is) is_sure n.1))
    ]
  ]
]

-- ---- what the masses lie between

module _ (b : Block) (box : List Interval) (valid : IsValid b) where
  high_small : (r : Rule) → IsValidRule b r → high_part b box r ≤ 255000000000
  high_small r vr =
      let w = weight_of r.weight in
      let good = (span_good b box r.cond).high in
      let proper = times_proper _ w good.proper in
      let few = (times_one _ w (weight_in r.weight vr.weight) good.to_one).cross in
      up_div-le (255 * billion * (rule_span b box r).high.num) (rule_span b box r).high.den 255000000000 proper.pos
      (omega (arith, few))

  greatest_small : (o t : ℕ) (rs : List Rule) → All (IsValidRule b) rs
      → greatest_of (high_part b box) o t rs ≤ 255000000000
  greatest_small o t [] h = omega arith
  greatest_small o t (r ∷ rs) h =
      by_bool (concludes r o t) (high_small r (h 0 r (omega arith)))
      (greatest_small o t rs (λ k d l. h (suc k) d (omega arith)))
    where
      by_bool : {m n : ℕ} → (c : Bool) → m ≤ 255000000000 → n ≤ 255000000000
          → (if c then max m n else n) ≤ 255000000000
      by_bool true p q = omega arith
      by_bool false p q = q

ranges_in : (f g : ℕ → ℕ) (lo hi : Dec) → lo.0 <ℤ hi.0 → ((j : ℕ) → f j ≤ g j) → ((j : ℕ) → g j ≤ 255000000000)
    → (k : ℕ) (us : List Dec) → All (IsWithin lo hi) us → All (IsRange (distance lo hi)) (ranges_at f g lo k us)
ranges_in f g lo hi range fg hg k [] h = All-none (IsRange (distance lo hi))
ranges_in f g lo hi range fg hg k (u ∷ us) h =
    All-cons (IsRange (distance lo hi)) (record { at = distance lo u; low = f k; high = g k })
    (ranges_at f g lo (k + 1) us)
    (record { at_to = within_width lo hi u range (h 0 u (omega arith)); low_to = fg k; high_to = hg k })
    (ranges_in f g lo hi range fg hg (k + 1) us (λ i d j. h (suc i) d (omega arith)))

pub in_range : MassesAreInRange
in_range b box o x valid count is ex =
    let vx : IsValidOutput x = All-slice_get IsValidOutput b.outputs (o - 1) x valid.outputs ex in
    ranges_in (λ k. low_of b box o (k + 1)) (λ k. high_of b box o (k + 1)) x.lo x.hi vx.range
    (λ j. ends_ordered b box valid count is o (j + 1) b.rules)
    (λ j. greatest_small b box valid o (j + 1) b.rules valid.rules) 0 x.singletons vx.singletons
