use Rattle.fcl_check.proofs.Words.{◌<◌, ◌∙◌, all_zipped_more, ap, append-nil, at_if, has_shape, IsTermOf, length}
use Rattle.fcl_check.proofs.Words.{None, not, points_of, rules, Some, sym, Term, term_of}
use Rattle.fcl_check.proofs.{Faultless.shaped, Faultless.none_at, Elements.filter_map-more}
use Rattle.fcl_check.proofs.build.inputs.terms.Goals.{in-Term+in_ok-push, in_default}
use Rattle.fcl_check.proofs.build.inputs.terms.Goals as goal

pub loop-line-preserved : goal.loop-line-preserved
loop-line-preserved c =
    let lines = c.args.section.now.lines in
    let within : c.loop-line.line-index < length lines = rw c.as_slice-line-items.ensures at c.loop-line-test.true in
    elim c.match-line.branch [
      | in-Term+in_ok-push w ↦ rw (
        w.terms-is,
        w.in_ok-push.ensures.items,
        filter_map-more term_of lines c.as_slice-line-items.result.now c.loop-line.line-index c.line-item.result
            (Some w.in-Term.term) c.as_slice-line-items.ensures within c.line-item.is (ap term_of w.in-Term.is),
      )
          (all_zipped_more IsTermOf _ _ _ _ c.loop-line.invariant w.trapezoid.ensures)
      | in_default w ↦ rw (
        w.terms-is,
        filter_map-more term_of lines c.as_slice-line-items.result.now c.loop-line.line-index c.line-item.result None
            c.as_slice-line-items.ensures within
            c.line-item.is (search rules),
        append-nil,
      ) c.loop-line.invariant
    ]

pub trapezoid-requires : goal.trapezoid-requires
trapezoid-requires c =
    let lines = c.args.section.now.lines in
    let t = c.in-Term.term in
    let is = ap term_of (sym (rw c.as_slice-line-items.ensures at c.line-item.is) ∙ c.in-Term.is) in
    shaped (has_shape (points_of t)) t.at (none_at (λ (t : Term). at_if (not (has_shape
    (points_of t))) t.at) term_of lines c.loop-line.line-index c.line-item.result t c.requires
    (rw c.as_slice-line-items.ensures at c.loop-line-test.true) is)
