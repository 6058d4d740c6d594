use Rattle.fcl_check.proofs.Faultless.{default_there}
use Rattle.fcl_check.proofs.build.outputs.default.Goals as goal

pub unwrap-requires : goal.unwrap-requires
unwrap-requires c = rw c.fallback.ensures (default_there c.args.section.now c.requires)
