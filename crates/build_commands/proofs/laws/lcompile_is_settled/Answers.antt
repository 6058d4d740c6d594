use Rattle.build_commands.proofs.SettledLemmas.{lcompile_settled}
use Rattle.build_commands.proofs.laws.lcompile_is_settled.Goals as goal

pub returns : goal.returns
returns c = lcompile_settled c.twos_are_exact.ensures c.given_blocks_have_twos.ensures c.images_have_texts.ensures
    c.image_texts_are_one.ensures c.holds_image.ensures c.two_stand_beside.ensures
