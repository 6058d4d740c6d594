use Rattle.build_commands.proofs.SettledLemmas.{compile_settled}
use Rattle.build_commands.proofs.laws.compile_is_settled.Goals as goal

pub returns : goal.returns
returns c = compile_settled c.firmwares_are_exact.ensures c.given_blocks_have_firmware.ensures
    c.image_texts_are_one.ensures
    (record {
      texts = c.images_have_texts.ensures;
      holds = c.holds_image.ensures;
      alone = c.firmware_is_bytes.ensures;
      mailbox = c.mailbox_is_bytes.ensures;
      watched = c.watched_is_bytes.ensures;
    })
