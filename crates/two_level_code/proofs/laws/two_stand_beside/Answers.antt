use Rattle.two_level_code.proofs.Standing.{two_stand_beside}
use Rattle.two_level_code.proofs.laws.two_stand_beside.Goals as goal

pub returns : goal.returns
returns c = two_stand_beside (record {
  code = record {
    rises = c.blocks_are_placed.ensures.rises;
    stands = c.blocks_are_placed.ensures.stands;
    decodes = c.decodes_encoded.ensures;
  };
  inside = c.blocks_are_placed.ensures.inside;
  behind = c.blocks_are_placed.ensures.behind;
  bytes = c.blocks_are_placed.ensures.bytes;
  holds_image = c.holds_image.ensures;
  image_is_bytes = c.placed_items_stand.ensures.fits;
  answers = c.firmware_answers_beside.ensures;
  arrives = c.firmware_arrives_alike.ensures;
})
