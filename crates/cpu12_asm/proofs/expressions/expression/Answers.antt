use Rattle.std.proofs.Common.{ℕ, List, fold, ap, sym, ◌∙◌, arith}
use Rattle.cpu12_asm.specs.{declared.expressions.Sum.Sum, Names.value_in, Left.pieces_left, Expressions.with_group}
use Rattle.cpu12_asm.proofs.expressions.expression.Goals as goal

pub loop-left-preserved : goal.loop-left-preserved
loop-left-preserved c =
    let step : Sum → List ℕ → Sum = with_group (value_in c.args.names.now) in
    let before : Sum = c.loop-left.total in
    let bound = rw c.in-Some.is at c.loop-left.invariant.bound in
    record {
      same =
          ap (λ (t : Sum). fold step t (pieces_left 0x2B c.cut.result.1)) c.with_group-total.ensures.value
          ∙ ap (fold step before) (sym c.cut.ensures.pieces)
          ∙ (rw c.in-Some.is at c.loop-left.invariant.same);
      bound = omega (arith, bound, c.with_group-total.ensures.bound, c.cut.ensures.size);
    }
