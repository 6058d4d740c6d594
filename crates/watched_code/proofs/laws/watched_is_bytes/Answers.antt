use Rattle.watched_code.proofs.watching.Answering.{watched_is_bytes}
use Rattle.watched_code.proofs.laws.watched_is_bytes.Goals as goal

pub returns : goal.returns
returns c =
    watched_is_bytes c.nearest_is_byte.ensures c.blocks_are_placed.ensures.parts c.code_is_decoded.ensures.bytes
    c.image_has_firmware.ensures
