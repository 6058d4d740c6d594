use Rattle.command_parts.proofs.JudgedLemmas.{firmwares_judged}
use Rattle.command_parts.proofs.laws.firmwares_are_judged.Goals as goal

pub returns : goal.returns
returns c = firmwares_judged c.blocks_are_judged.ensures c.given_blocks_have_firmware.ensures
