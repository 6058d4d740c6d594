use Rattle.std.proofs.Common.{◌≡◌, ap, sym, ◌∙◌}
use Rattle.byte_scaling.specs.declared.width.Width.{Width}
use Rattle.eval_code.specs.Bounds.{instruction_bound, step_bound}
use Rattle.firmware_code.proofs.Algebra.{of_parts}
use Rattle.two_level_code.specs.Images.{two_items}
use Rattle.two_level_code.proofs.laws.twos_are_one.Goals as goal

pub returns : goal.returns
returns c slow fast f g of_f of_g =
    let image =
    c.images_are_one.ensures (two_items slow fast) f.firmware.image g.firmware.image of_f.image of_g.image in
    let a = of_f.alone in
    let b = of_g.alone in
    let m = a.firmware in
    let n = b.firmware in
    let width = a.width ∙ sym b.width in
    let firmware = of_parts f.firmware g.firmware image (of_f.memory_map ∙ sym of_g.memory_map)
    (m.inputs ∙ sym n.inputs) (m.outputs ∙ sym n.outputs) width
    (m.instructions ∙ ap (λ (w : Width). instruction_bound w slow) width ∙ sym n.instructions)
    (m.steps ∙ ap (λ (w : Width). step_bound w slow) width ∙ sym n.steps) in
    let p = of_f.fast_is in
    let q = of_g.fast_is in
    let its_fast : f.fast ≡ g.fast = λ i. record {
      outputs = (p.outputs ∙ sym q.outputs) i;
      instr_bound = (p.instructions ∙ sym q.instructions) i;
      step_bound = (p.steps ∙ sym q.steps) i;
    } in
    λ i. record { firmware = firmware i; fast = its_fast i }
