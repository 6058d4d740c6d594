use Rattle.eval_code.proofs.placing.MemoryBytes.{image_is_bytes}
use Rattle.eval_code.proofs.placing.Standing.{Rises, bytes_in_image, code_in_image, zero_below}
use Rattle.eval_code.proofs.laws.placed_items_stand.Goals as goal

pub returns : goal.returns
returns c =
    let rises : Rises = record {
      first = c.rising_items.ensures.first;
      end = c.rising_items.ensures.end;
      part = c.rising_items.ensures.part;
    } in
    let holds = c.holds_image.ensures in
    record {
      bytes = bytes_in_image rises holds;
      code = code_in_image rises holds;
      below = zero_below rises holds;
      fits = image_is_bytes holds;
    }
