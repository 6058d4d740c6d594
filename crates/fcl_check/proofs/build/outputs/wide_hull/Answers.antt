use Rattle.fcl_check.proofs.Words.{ends_in}
use Rattle.fcl_check.proofs.Ranges.{output_hull-in}
use Rattle.fcl_check.proofs.build.outputs.wide_hull.Goals as goal

pub widened-requires : goal.widened-requires
widened-requires c = (output_hull-in c.args.section.now (ends_in c.in_ok-hull.field-0) c.in_ok-hull.ensures).hi.high
