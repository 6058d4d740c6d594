-- A block has one firmware.
use Rattle.alone_code.proofs.Words.{◌∙◌, ap, firmware_items, instruction_bound, IsImageOf, main_map, step_bound, subst}
use Rattle.alone_code.proofs.Words.{sym, Width}
use Rattle.alone_code.specs.Firmwares.{FirmwaresAreOne}
use Rattle.firmware_code.specs.Images.{ImagesAreOne}
use Rattle.firmware_code.proofs.Algebra.{of_parts}

pub one_firmware : ImagesAreOne → FirmwaresAreOne
one_firmware one b f g width of_f of_g =
    let image = one (firmware_items main_map b g.width) f.image g.image
    (subst (λ (w : Width). IsImageOf (firmware_items main_map b w) f.image) width of_f.image) of_g.image in
    of_parts f g image (of_f.memory_map ∙ sym of_g.memory_map) (of_f.inputs ∙ sym of_g.inputs)
    (of_f.outputs ∙ sym of_g.outputs) width
    (of_f.instructions ∙ ap (λ (w : Width). instruction_bound w b) width ∙ sym of_g.instructions)
    (of_f.steps ∙ ap (λ (w : Width). step_bound w b) width ∙ sym of_g.steps)
