use Rattle.std.proofs.Common.{ℕ, List, ◌∷◌, ap, sym, ◌∙◌}
use Rattle.cpu12_asm.specs.Lines.{lines_of}
use Rattle.cpu12_asm.proofs.Pieces.{lines-first}
use Rattle.cpu12_asm.proofs.lines.cut_line.Goals as goal

pub returns-in-Some-clause-lines : goal.returns-in-Some-clause-lines
returns-in-Some-clause-lines c =
    lines-first c.cut.result.0.now c.args.text.now c.in-Some.rest.now (rw c.in-Some.is at c.cut.ensures.pieces)
    ∙ ap (λ (l : List ℕ). l ∷ lines_of c.in-Some.rest.now) (sym c.without_return.ensures)
