use Rattle.fcl_check.proofs.Words.{ends_in, rules}
use Rattle.fcl_check.proofs.Faultless.{input_range_there, mapped_there}
use Rattle.fcl_check.proofs.build.inputs.InputFromSection.from_part.Goals as goal

pub unwrap-span-requires : goal.unwrap-span-requires
unwrap-span-requires c =
    mapped_there ends_in c.range.result _ c.range.ensures (input_range_there c.in-Fuzzify.section (search rules))
