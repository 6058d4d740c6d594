use Rattle.firmware_code.proofs.Words.{refl}
use Rattle.firmware_code.proofs.laws.items_have_images.Goals as goal

pub returns : goal.returns
returns c items rise =
    let ascend = c.rising_items.ensures.ascend items rise in
    record {
      bytes = record { bytes = λ at. refl; once = ascend.1.once; fits = ascend.1.fits };
      ascending = ascend.0;
      start = refl;
    }
