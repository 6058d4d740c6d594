use Rattle.fcl_check.proofs.Words.{◌∙◌, ◌≡◌, Err, refl, rules, sym, take_more}
use Rattle.fcl_check.proofs.DeclaredNames.{KnowsSingletons-other, KnowsSingletons-singleton, is_no_singleton}
use Rattle.fcl_check.proofs.DeclaredNames.{named_twice, other_twice, singleton_lines}
use Rattle.fcl_check.proofs.names.defuzzy_terms.Goals as goal
use Rattle.fcl_check.proofs.names.defuzzy_terms.Goals.{in-Singleton+in_ok-add_term}
use Rattle.fcl_check.proofs.names.defuzzy_terms.Goals.{in_default+else-has_kind+in_ok-push}

pub returns-in_err-add_term-clause-fault : goal.returns-in_err-add_term-clause-fault
returns-in_err-add_term-clause-fault c =
    let passed : c.from_residual.result ≡ Err c.in_err-add_term.field-0.0 = search rules in
    let value = c.as_slice-line-items.ensures in
    let more = take_more c.args.section.now.lines c.loop-line.line-index _ (rw value at c.loop-line-test.true) in
    rw passed (named_twice (singleton_lines c.args.tree.now.text.items c.args.tree.now.block)
    c.args.section.now.lines c.loop-line.line-index _ more c.loop-line.invariant.once c.in-Singleton.singleton
    (rw value at c.in-Singleton.is) c.loop-line.terms c.loop-line.invariant.numbers c.in_err-add_term.field-0.0
    c.in_err-add_term.ensures.fault)

pub returns-then-has_kind : goal.returns-then-has_kind
returns-then-has_kind c =
    let value = c.as_slice-line-items.ensures in
    let other = is_no_singleton _ (λ t e. c.in_default.not-Singleton t e) in
    let more = take_more c.args.section.now.lines c.loop-line.line-index _ (rw value at c.loop-line-test.true) in
    let found = sym c.has_kind.ensures ∙ c.if-has_kind.true in
    let here = other_twice c.args.tree.now.text.items c.args.tree.now.block c.args.section.now.lines
    c.loop-line.line-index _ more c.loop-line.terms c.loop-line.others.items c.loop-line.invariant
    (rw value at other) (rw (value, c.deref.ensures.value) at found) in
    record { terms = tt; fault = λ h. rw (here, c.line_at.ensures, value) refl }

pub loop-line-preserved : goal.loop-line-preserved
loop-line-preserved c =
    let text = c.args.tree.now.text.items in
    let b = c.args.tree.now.block in
    let lines = c.args.section.now.lines in
    let value = c.as_slice-line-items.ensures in
    let more = take_more lines c.loop-line.line-index _ (rw value at c.loop-line-test.true) in
    elim c.match-line.branch [
      | in-Singleton+in_ok-add_term w ↦ rw (w.terms-is, w.others-is) (KnowsSingletons-singleton text b lines _ _ more
          c.loop-line.terms c.loop-line.others.items c.loop-line.invariant w.in-Singleton.singleton w.add_term.new.terms
          (rw value at w.in-Singleton.is)
          (record {
            fault = w.in_ok-add_term.ensures.fault;
            added = w.in_ok-add_term.ensures.added;
            len = w.in_ok-add_term.ensures.len;
          }))
      | in_default+else-has_kind+in_ok-push w ↦
          (let other = is_no_singleton _ (λ t e. w.in_default.not-Singleton t e) in
          rw (w.terms-is, w.others-is, w.in_ok-push.ensures.items, value) (KnowsSingletons-other text b lines _ _ more
          c.loop-line.terms c.loop-line.others.items c.loop-line.invariant (rw value at other)
          (rw (value, w.deref.ensures.value) at (sym w.has_kind.ensures ∙ w.if-has_kind.false))))
    ]
