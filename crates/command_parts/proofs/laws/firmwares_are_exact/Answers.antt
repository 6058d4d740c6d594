use Rattle.command_parts.proofs.ReadingLemmas.{firmwares_exact, of_forms}
use Rattle.command_parts.proofs.laws.firmwares_are_exact.Goals as goal

pub returns : goal.returns
returns c = firmwares_exact c.blocks_are_exact.ensures
    (of_forms c.firmwares_are_one.ensures c.mailboxes_are_one.ensures c.watched_firmwares_are_one.ensures)
