use Rattle.fcl_check.proofs.Words.{◌≡◌, Err, refl, rules, sym}
use Rattle.fcl_check.proofs.DeclaredNames.{section_twice, line_twice, section_once, sections_more}
use Rattle.fcl_check.proofs.Places.{read_further}
use Rattle.fcl_check.proofs.names.sections.Goals as goal

pub returns-then-contains_key-clause-fault : goal.returns-then-contains_key-clause-fault
returns-then-contains_key-clause-fault c =
    let b = c.args.tree.now.block in
    let more = read_further b.parts _ c.loop-part.part-index c.part-item.result c.as_slice-part-items.ensures
    c.loop-part-test.true c.part-item.is in
    let here = section_twice c.args.tree.now.text.items b b.parts c.loop-part.part-index c.part-item.result more
    c.loop-part.sections c.loop-part.invariant.sections c.section_name-name.result c.section_name-name.ensures
    c.loop-part.invariant.once (sym (rw c.letters.ensures at c.if-contains_key.ensures)) in
    λ h. rw here refl

pub returns-in_err-terms-clause-fault : goal.returns-in_err-terms-clause-fault
returns-in_err-terms-clause-fault c =
    let passed : c.from_residual.result ≡ Err c.in_err-terms.field-0.0 = search rules in
    let b = c.args.tree.now.block in
    let more = read_further b.parts _ c.loop-part.part-index c.part-item.result c.as_slice-part-items.ensures
    c.loop-part-test.true c.part-item.is in
    rw passed (line_twice c.args.tree.now.text.items b b.parts c.loop-part.part-index c.part-item.result more
    c.loop-part.sections c.loop-part.invariant.sections c.section_name-name.result c.section_name-name.ensures
    c.loop-part.invariant.once (sym (rw c.letters.ensures at c.if-contains_key.ensures)) c.in_err-terms.field-0.0
    c.in_err-terms.ensures.fault)

pub loop-part-preserved : goal.loop-part-preserved
loop-part-preserved c =
    let b = c.args.tree.now.block in
    let more = read_further b.parts _ c.loop-part.part-index c.part-item.result c.as_slice-part-items.ensures
    c.loop-part-test.true c.part-item.is in
    record {
      sections = sections_more c.args.tree.now.text.items b b.parts c.loop-part.part-index c.part-item.result more
          c.loop-part.sections c.loop-part.invariant.sections c.section_name-name.result c.section_name-name.ensures _ _ refl
          c.in_ok-terms.ensures.terms c.in_ok-add.ensures.added;
      once = section_once c.args.tree.now.text.items b b.parts c.loop-part.part-index c.part-item.result more
          c.loop-part.sections c.loop-part.invariant.sections c.section_name-name.result c.section_name-name.ensures
          c.loop-part.invariant.once (sym (rw c.letters.ensures at c.if-contains_key.ensures)) c.in_ok-terms.ensures.fault;
    }
