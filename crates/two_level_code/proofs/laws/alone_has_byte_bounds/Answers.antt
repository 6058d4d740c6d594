use Rattle.std.proofs.Common.{◌∙◌, ap}
use Rattle.byte_scaling.specs.declared.width.Width.{Width}
use Rattle.eval_code.specs.Bounds.{instruction_bound, step_bound}
use Rattle.two_level_code.proofs.laws.alone_has_byte_bounds.Goals as goal

pub returns : goal.returns
returns c b f is =
    let firmware = is.firmware in
    record {
      instructions = firmware.instructions ∙ ap (λ (w : Width). instruction_bound w b) is.width;
      steps = firmware.steps ∙ ap (λ (w : Width). step_bound w b) is.width;
    }
