use Rattle.std.proofs.Common.{length}
use Rattle.box_tree.specs.declared.cert.Cert.{Cert}
use Rattle.cell_bounds.proofs.Algebra.{more_ok}
use Rattle.error_certifier.proofs.TargetLists.{one_target, within_one}
use Rattle.error_certifier.proofs.certifier.certify_for.Goals as goal

pub certify_each-requires-clause-targets : goal.certify_each-requires-clause-targets
certify_each-requires-clause-targets c = (one_target c.args.block.now c.args.target c.requires.target).millionths

pub returns-clause-within : goal.returns-clause-within
returns-clause-within c = more_ok c.certify_each.result
    (λ (cert : Cert) w. within_one (length c.args.block.now.outputs) c.args.target cert.claims w)
    c.certify_each.ensures.within
