use Rattle.std.proofs.Common.{◌≡◌, ℕ, List, fold, ap, sym, ◌∙◌, arith}
use Rattle.cpu12_asm.specs.declared.expressions.Sum.{Sum}
use Rattle.cpu12_asm.specs.{Names.value_in, Left.pieces_left, Expressions.term_of, Expressions.with_term}
use Rattle.cpu12_asm.proofs.expressions.with_group.Goals as goal

pub loop-left-preserved : goal.loop-left-preserved
loop-left-preserved c =
    let step : Sum → List ℕ → Sum = λ t word. with_term t (term_of (value_in c.args.names.now) word) in
    let before : Sum = c.loop-left.total in
    let after : c.with-total.result ≡ step before c.cut.result.0.now = c.with-total.ensures.value
    ∙ ap (with_term before) c.any_term.ensures in
    let bound = rw c.in-Some.is at c.loop-left.invariant.bound in
    record {
      same =
          ap (λ (t : Sum). fold step t (pieces_left 0x2D c.cut.result.1)) after
          ∙ ap (fold step before) (sym c.cut.ensures.pieces)
          ∙ (rw c.in-Some.is at c.loop-left.invariant.same);
      bound = omega (arith, bound, c.with-total.ensures.bound, c.cut.ensures.size);
    }
