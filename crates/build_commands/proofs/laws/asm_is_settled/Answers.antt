use Rattle.build_commands.proofs.SettledLemmas.{asm_settled}
use Rattle.build_commands.proofs.laws.asm_is_settled.Goals as goal

pub returns : goal.returns
returns c = asm_settled c.images_have_texts.ensures c.image_texts_are_one.ensures c.sources_give_bytes.ensures
    c.ascending_bytes_are_one.ensures
