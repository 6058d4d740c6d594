use Rattle.eval_code.proofs.Placed.{rises_between, is_short, stays_inside, gives_behind, gives_bytes, stands_between}
use Rattle.eval_code.proofs.{Parts.has_parts, placing.Located.gives_at_parts, placing.Standing.Rises}
use Rattle.eval_code.proofs.laws.blocks_are_placed.Goals as goal

pub returns : goal.returns
returns c =
    let law = c.layout_law.ensures in
    let rises : Rises = record {
      first = c.rising_items.ensures.first;
      end = c.rising_items.ensures.end;
      part = c.rising_items.ensures.part;
    } in
    record {
      rises = rises_between law;
      short = is_short law;
      parts = has_parts law;
      inside = stays_inside law rises;
      at_parts = gives_at_parts;
      behind = gives_behind;
      bytes = gives_bytes c.encoded_are_bytes.ensures.bytes law c.nearest_is_byte.ensures;
      stands = stands_between law rises c.holds_image.ensures;
    }
