-- Items have one image.
use Rattle.firmware_code.proofs.Words.{◌∙◌, ◌≡◌, ap, sym}
use Rattle.cpu12_asm.specs.{Bytes.start_of, Laws.AscendingBytesAreOne}
use Rattle.firmware_code.specs.Images.{ImagesAreOne}

pub images_are_one : AscendingBytesAreOne → ImagesAreOne
images_are_one one items f g of_f of_g =
    let bytes : f.bytes ≡ g.bytes =
    one f.bytes g.bytes of_f.ascending of_g.ascending (λ at. of_f.bytes.bytes at ∙ sym (of_g.bytes.bytes at)) in
    let start : f.start ≡ g.start = of_f.start ∙ ap start_of bytes ∙ sym of_g.start in
    (λ i. record { bytes = bytes i; start = start i })
