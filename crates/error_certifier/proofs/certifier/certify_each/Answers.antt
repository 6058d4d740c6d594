use Rattle.std.proofs.Common.{length, sym, ap, ◌∙◌}
use Rattle.byte_scaling.specs.Widths.{parts as parts_of}
use Rattle.error_certifier.specs.Targets.{numbers_of, targets_of}
use Rattle.error_certifier.proofs.TargetLists.{other_count}
use Rattle.error_certifier.proofs.certifier.certify_each.Goals as goal

pub returns-then-len-clause-stops : goal.returns-then-len-clause-stops
returns-then-len-clause-stops c = λ _.
    let b = c.args.block.now in
    let numbers = c.numbers-numbers.ensures ∙ ap (λ n. numbers_of n c.args.targets.now) c.len.ensures in
    other_count c.args.format.kind b (parts_of c.args.format.width) (targets_of b c.args.targets.now) c.len-then-len.result
    c.len-then-len-2.result (c.len-then-len.ensures.value ∙ ap length numbers) c.len-then-len-2.ensures
    (λ e. c.if-len.true (c.len-2.ensures.value ∙ sym c.len-then-len.ensures.value ∙ e ∙ c.len-then-len-2.ensures
    ∙ sym c.len-3.ensures))
