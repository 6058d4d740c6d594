use Rattle.fcl_check.proofs.Words.{◌∙◌, arith, sym}
use Rattle.fcl_check.proofs.Faultless.{number_few, term_few}
use Rattle.fcl_check.proofs.build.source.numbers.Goals as goal

pub overflow_cast-result : goal.overflow_cast-result
overflow_cast-result c =
    let source = c.args.source.now in
    let text = source.names.now.tree.now.text.items in
    let block = source.names.now.tree.now.block in
    let few = number_few text block source.well_formed c.args.side c.args.variable c.args.term _
    c.unwrap-declared.result c.requires c.letters-variable.ensures
    (sym c.unwrap-declared.ensures ∙ c.variable.ensures) in
    omega (arith, few)

pub overflow_cast-result-2 : goal.overflow_cast-result-2
overflow_cast-result-2 c =
    let source = c.args.source.now in
    let text = source.names.now.tree.now.text.items in
    let block = source.names.now.tree.now.block in
    let few = term_few text block source.well_formed c.args.side _ _ c.unwrap-term.result
    (sym c.term.ensures ∙ c.unwrap-term.ensures) in
    omega (arith, few)
