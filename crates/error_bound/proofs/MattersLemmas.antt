-- Whether inputs matter, rule by rule, and the narrowed box, interval by interval.
use Rattle.std.proofs.Common.{◌≡◌, ℕ, zero, suc, ◌+◌, ◌≤◌, Bool, true, false, not, List, [], ◌∷◌, ◌++◌, length}
use Rattle.std.proofs.Common.{get_or, take, Option, Some, refl, sym, ap, ◌∙◌, subst, arith}
use Rattle.std.proofs.{lemmas.Option.slice_get_within, lemmas.Option.get_or_from_slice_get, lemmas.List.take_more}
use Rattle.std.proofs.lemmas.List.Folds.{list_any_at, list_any_more}
use Rattle.std.specs.{Prelude.slice_get, Prelude.◌&&◌, Prelude.◌||◌, Prelude.if◌then◌else◌, List.list_any}
use Rattle.fuzzy_meaning.specs.declared.{block.Block.Block, block.Rule.Rule}
use Rattle.error_bound.specs.{declared.boxes.Interval.Interval, Boxes.IsBox, Boxes.IsBoxOf}
use Rattle.error_bound.specs.{Tight.is_still, Matters.asks_for, Matters.matters, Matters.narrowed}
use Rattle.error_bound.specs.{Matters.narrowed_from}

-- ---- rules

module _ (b : Block) (box : List Interval) (i n : ℕ) (r : Rule) (at : slice_get b.rules n ≡ Some r) where
  abbrev asks : Rule → Bool
  asks s = asks_for b box i s.cond && not (is_still b box s)

  pub matters_there : asks r ≡ true → matters b box i ≡ true
  matters_there e = list_any_at asks b.rules n r (slice_get_within b.rules n r at)
      (ap asks (get_or_from_slice_get b.rules n r r at) ∙ e)

  pub matters_not_yet : asks r ≡ false → list_any asks (take n b.rules) ≡ false
      → list_any asks (take (n + 1) b.rules) ≡ false
  matters_not_yet e before =
      list_any_more asks b.rules n r (slice_get_within b.rules n r at)
      ∙ ap (λ c. c || asks (get_or b.rules n r)) before
      ∙ ap asks (get_or_from_slice_get b.rules n r r at) ∙ e

-- ---- intervals

module _ (b : Block) (box : List Interval) where
  abbrev kept : ℕ → Interval → Interval
  kept i v = if matters b box i then v else record { from = v.from; to = v.from }

  narrowed_at : (i : ℕ) (vs : List Interval) (k : ℕ) (v : Interval) → slice_get vs k ≡ Some v
      → slice_get (narrowed_from b box i vs) k ≡ Some (kept (i + k) v)
  narrowed_at i [] k v e = absurd (let z : ⊥ = cc in z)
  narrowed_at i (w ∷ vs) zero v e =
      let same : w ≡ v = cc in
      let here : i ≡ i + 0 = omega arith in
      ap (λ (u : Interval). let o : Option Interval = Some (kept i u) in o) same
      ∙ ap (λ j. let o : Option Interval = Some (kept j v) in o) here
  narrowed_at i (w ∷ vs) (suc k) v e =
      let next : i + 1 + k ≡ i + suc k = omega arith in
      narrowed_at (i + 1) vs k v e ∙ ap (λ j. let o : Option Interval = Some (kept j v) in o) next

  pub length-narrowed : (i : ℕ) (vs : List Interval) → length (narrowed_from b box i vs) ≡ length vs
  length-narrowed i [] = refl
  length-narrowed i (v ∷ vs) = ap suc (length-narrowed (i + 1) vs)

  -- one interval more
  pub narrowed_more : (k : ℕ) (v x : Interval) (old new : List Interval) → slice_get box k ≡ Some v
      → x ≡ (if matters b box (k + 1) then v else record { from = v.from; to = v.from })
      → old ≡ take k (narrowed b box) → new ≡ old ++ x ∷ [] → new ≡ take (k + 1) (narrowed b box)
  narrowed_more k v x old new e value before more =
      let number : 1 + k ≡ k + 1 = omega arith in
      let at : slice_get (narrowed b box) k ≡ Some x =
      narrowed_at 1 box k v e
      ∙ ap (λ j. let o : Option Interval = Some (kept j v) in o) number
      ∙ ap (λ (u : Interval). let o : Option Interval = Some u in o) (sym value) in
      let l = length-narrowed 1 box in
      let few = slice_get_within (narrowed b box) k x at in
      more ∙ ap (λ (xs : List Interval). xs ++ x ∷ []) before
      ∙ sym (take_more (narrowed b box) k x few
      ∙ ap (λ (u : Interval). take k (narrowed b box) ++ u ∷ []) (get_or_from_slice_get (narrowed b box) k x x at))

  narrowed_box : (i : ℕ) (vs : List Interval) → IsBox vs → IsBox (narrowed_from b box i vs)
  narrowed_box i vs is = record { some = each i vs is }
    where
      kept_some : (c : Bool) (v : Interval) → v.from ≤ v.to → v.to ≤ 255
          → ((if c then v else record { from = v.from; to = v.from }).from
          ≤ (if c then v else record { from = v.from; to = v.from }).to)
          × ((if c then v else record { from = v.from; to = v.from }).to ≤ 255)
      kept_some true v l m = (l, m)
      kept_some false v l m = (omega arith, omega arith)

      each : (i : ℕ) (vs : List Interval) → IsBox vs → (k : ℕ) (v : Interval)
          → slice_get (narrowed_from b box i vs) k ≡ Some v → (v.from ≤ v.to) × (v.to ≤ 255)
      each i [] is k v e = absurd (let z : ⊥ = cc in z)
      each i (w ∷ vs) is zero v e =
          let same : kept i w ≡ v = cc in
          let s = is.some 0 w refl in
          subst (λ (u : Interval). (u.from ≤ u.to) × (u.to ≤ 255)) same (kept_some (matters b box i) w s.0 s.1)
      each i (w ∷ vs) is (suc k) v e =
          each (i + 1) vs (record { some = λ j u eu. is.some (suc j) u eu }) k v e

  pub narrowed_is : (narrow : List Interval) → narrow ≡ narrowed b box → IsBoxOf b box → IsBoxOf b narrow
  narrowed_is narrow e is = subst (IsBoxOf b) (sym e) (record {
    count = length-narrowed 1 box ∙ is.count;
    intervals = narrowed_box 1 box is.intervals;
  })
