use Rattle.fcl_check.proofs.Words.{◌≡◌, Err, refl, rules}
use Rattle.fcl_check.proofs.DeclaredNames.{KnowsTerms-range, KnowsTerms-term, named_twice, range_twice, term_lines}
use Rattle.fcl_check.proofs.Places.{read_further}
use Rattle.fcl_check.proofs.names.fuzzy_terms.Goals.{in-Term+in_ok-add_term-in-Term, in-Range+else-has_range}
use Rattle.fcl_check.proofs.names.fuzzy_terms.Goals as goal

pub returns-in_err-add_term-in-Term-clause-fault : goal.returns-in_err-add_term-in-Term-clause-fault
returns-in_err-add_term-in-Term-clause-fault c =
    let passed : c.from_residual.result ≡ Err c.in_err-add_term-in-Term.field-0.0 = search rules in
    let lines = c.args.section.now.lines in
    let more = read_further lines _ c.loop-line.line-index c.line-item.result c.as_slice-line-items.ensures
    c.loop-line-test.true c.line-item.is in
    rw passed (named_twice (term_lines c.args.tree.now.text.items c.args.tree.now.block) lines c.loop-line.line-index
    c.line-item.result more c.loop-line.invariant.once c.in-Term.term c.in-Term.is c.loop-line.terms c.loop-line.invariant.numbers
    c.in_err-add_term-in-Term.field-0.0 c.in_err-add_term-in-Term.ensures.fault)

pub returns-then-has_range-clause-fault : goal.returns-then-has_range-clause-fault
returns-then-has_range-clause-fault c =
    let lines = c.args.section.now.lines in
    let more = read_further lines _ c.loop-line.line-index c.line-item.result c.as_slice-line-items.ensures
    c.loop-line-test.true c.line-item.is in
    let here = range_twice c.args.tree.now.text.items c.args.tree.now.block lines c.loop-line.line-index c.line-item.result
    more c.loop-line.terms c.loop-line.has_range c.loop-line.invariant c.in-Range.range c.in-Range.is c.if-has_range.true in
    λ h. rw here refl

pub loop-line-preserved : goal.loop-line-preserved
loop-line-preserved c =
    let text = c.args.tree.now.text.items in
    let b = c.args.tree.now.block in
    let lines = c.args.section.now.lines in
    let more = read_further lines _ c.loop-line.line-index c.line-item.result c.as_slice-line-items.ensures
    c.loop-line-test.true c.line-item.is in
    elim c.match-line.branch [
      | in-Term+in_ok-add_term-in-Term w ↦ rw (w.terms-is, w.has_range-is) (KnowsTerms-term text b lines _ _ more
          c.loop-line.terms c.loop-line.has_range c.loop-line.invariant w.in-Term.term w.add_term.new.terms w.in-Term.is
          (record {
            fault = w.in_ok-add_term-in-Term.ensures.fault;
            added = w.in_ok-add_term-in-Term.ensures.added;
            len = w.in_ok-add_term-in-Term.ensures.len;
          }))
      | in-Range+else-has_range w ↦ rw (w.terms-is, w.has_range-is) (KnowsTerms-range text b lines _ _ more c.loop-line.terms
          c.loop-line.has_range c.loop-line.invariant w.in-Range.range w.in-Range.is w.if-has_range.false)
    ]
