use Rattle.std.proofs.Common.{◌≡◌, ◌<◌, ◌≤◌, Some, ⊎_elim, sym, ap, ◌∙◌, subst, arith, length}
use Rattle.std.specs.Prelude.{slice_get}
use Rattle.std.proofs.{lemmas.Bool.cases_lt, lemmas.Option.slice_get_within, lemmas.Option.get_or_from_slice_get}
use Rattle.error_bound.specs.declared.boxes.Interval.{Interval}
use Rattle.error_bound.proofs.still.is_inside.Goals as goal

pub loop-k-init : goal.loop-k-init
loop-k-init c = λ j u v few a b. absurd (omega arith)

pub loop-k-preserved : goal.loop-k-preserved
loop-k-preserved c = λ j u v few a b.
    let k = c.loop-k.k in
    let smalls = c.as_slice-intervals.result.now in
    let larges = c.deref.result.now in
    let none : Interval = record { from = 0; to = 0 } in
    ⊎_elim
    (λ (before : j < k). c.loop-k.invariant j u v before a b)
    (λ (not_before : k ≤ j).
    let e : j ≡ k = omega arith in
    let there : slice_get larges k ≡ Some v =
    subst (λ vs. slice_get vs k ≡ Some v) (sym c.deref.ensures.0)
    (subst (λ i. slice_get c.args.large.now.0.items i ≡ Some v) e b) in
    let small = get_or_from_slice_get smalls k u none (subst (λ i. slice_get smalls i ≡ Some u) e a) in
    let large = get_or_from_slice_get larges k v none there in
    let from = c.if-intervals-k.false in
    let to = c.if-around-intervals.false in
    let u_from = ap (λ (w : Interval). w.from) small in
    let u_to = ap (λ (w : Interval). w.to) small in
    let v_from = ap (λ (w : Interval). w.from) large in
    let v_to = ap (λ (w : Interval). w.to) large in
    (omega arith, omega arith))
    (cases_lt j k)

pub returns : goal.returns
returns c = λ yes. record {
  count = sym (ap length c.as_slice-intervals.ensures.value) ∙ c.if-intervals-len.false ∙ c.len.ensures.value;
  within = λ k u v a b.
      let few = slice_get_within c.args.small.now.0.items k u a in
      let lens = ap length c.as_slice-intervals.ensures.value in
      let end = c.loop-k-test.false in
      c.loop-k.invariant k u v (omega arith)
      (subst (λ us. slice_get us k ≡ Some u) (sym c.as_slice-intervals.ensures.value) a) b;
}
