use Rattle.command_parts.proofs.NumberLemmas.{each_millionths}
use Rattle.command_parts.proofs.certs.halved.Goals as goal

pub certify_each-requires-clause-targets : goal.certify_each-requires-clause-targets
certify_each-requires-clause-targets c =
    each_millionths c.args.block.now c.args.targets.now c.requires.targets
