use Rattle.std.specs.Prelude.{◌≡◌, Some}
use Rattle.fcl_check.proofs.Words.{None, first_fault, IsBlockOf, subst, sym}
use Rattle.fcl_syntax.specs.declared.tree.Tree.{Tree}
use Rattle.fcl_check.proofs.ValidBlocks.{kept_block}
use Rattle.fcl_check.proofs.loading.load.Goals as goal

pub returns-in-Some-clause-fault : goal.returns-in-Some-clause-fault
returns-in-Some-clause-fault c = λ other.
    subst (λ (tree : Tree). first_fault tree.text.items tree.block ≡ Some c.in-Some.fault) c.in_ok-names.ensures.tree
    (sym c.in-Some.ensures)

pub returns-clause-fault : goal.returns-clause-fault
returns-clause-fault c =
    subst (λ (tree : Tree). first_fault tree.text.items tree.block ≡ None) c.in_ok-names.ensures.tree
    (sym c.in_default.ensures)

pub returns-clause-valid : goal.returns-clause-valid
returns-clause-valid c =
    let tree = c.args.tree.now in
    kept_block c.spelled_blocks_are_valid.ensures tree.text.items tree.block c.in_ok-block.field-0 tree.spelled
    (returns-clause-fault c)
    (subst (λ (tree : Tree). IsBlockOf tree.text.items tree.block c.in_ok-block.field-0) c.in_ok-names.ensures.tree
    c.in_ok-block.ensures)
