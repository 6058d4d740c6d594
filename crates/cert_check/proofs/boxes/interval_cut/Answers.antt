use Rattle.std.proofs.Common.{◌≤◌, length, sym, arith, ◌≡◌, Some, subst, refl}
use Rattle.std.proofs.lemmas.Option.{slice_get_past, slice_get_read}
use Rattle.std.specs.Prelude.{slice_get, IfNone}
use Rattle.cert_check.specs.Trees.{IsCut}
use Rattle.cert_check.proofs.boxes.interval_cut.Goals.{else-interval-cut-via-then-interval-cut+else-cut-interval}
use Rattle.cert_check.proofs.boxes.interval_cut.Goals.{else-interval-cut-via-else-interval-cut}
use Rattle.cert_check.proofs.TreeLemmas.{cut_at, cut_inside, cut_nowhere}
use Rattle.cert_check.proofs.boxes.interval_cut.Goals as goal

pub returns-in_err-interval-clause-none : goal.returns-in_err-interval-clause-none
returns-in_err-interval-clause-none c =
    let l = c.in_err-interval.ensures.lookup in
    let past = subst (λ xs. length xs ≤ c.args.place) c.as_slice.ensures.value l.3 in
    subst (λ r. IfNone r (IsCut c.args.place c.args.cut c.args.bytes.now.0.items
    → ⊥)) (sym c.from_residual.ensures) (cut_nowhere c.args.place c.args.cut c.args.bytes.now.0.items
    (slice_get_past c.args.bytes.now.0.items c.args.place past))

pub returns-then-cut-interval-clause-inside : goal.returns-then-cut-interval-clause-inside
returns-then-cut-interval-clause-inside c =
    let l = c.in_ok-interval.ensures.lookup in
    let v = c.in_ok-interval.field-0.now in
    let place = c.args.place in
    let e = subst (λ xs. slice_get xs place ≡ Some v) c.as_slice.ensures.value
    (slice_get_read c.as_slice.result.now (length c.as_slice.result.now) place v refl l.3.0 (l.3.1 v)) in
    (cut_at place c.args.cut c.args.bytes.now.0.items v e c.if-interval-cut.true c.if-cut-interval.true, e)

pub returns-else-interval-cut-clause-none : goal.returns-else-interval-cut-clause-none
returns-else-interval-cut-clause-none c = λ cut.
    let l = c.in_ok-interval.ensures.lookup in
    let v = c.in_ok-interval.field-0.now in
    let place = c.args.place in
    let e = subst (λ xs. slice_get xs place ≡ Some v) c.as_slice.ensures.value
    (slice_get_read c.as_slice.result.now (length c.as_slice.result.now) place v refl l.3.0 (l.3.1 v)) in
    let h = cut_inside place c.args.cut c.args.bytes.now.0.items v e cut in
    let h0 = h.0 in
    let h1 = h.1 in
    elim c.else-interval-cut.branch [
      | else-interval-cut-via-then-interval-cut+else-cut-interval w ↦ omega arith
      | else-interval-cut-via-else-interval-cut w ↦ omega arith
    ]
