use Rattle.fcl_check.proofs.Words.{ends_in, rules}
use Rattle.fcl_check.proofs.Faultless.{mapped_there, output_range_there}
use Rattle.fcl_check.proofs.build.outputs.OutputFromSection.from_part.Goals as goal

pub unwrap-span-requires : goal.unwrap-span-requires
unwrap-span-requires c =
    mapped_there ends_in c.range.result _ c.range.ensures (output_range_there c.in-Defuzzify.section (search rules))
