use Rattle.cell_bounds.specs.CellBounds.{of_tight}
use Rattle.cell_bounds.proofs.CellLemmas.{at_output}
use Rattle.cell_bounds.proofs.cells.count_above.Goals as goal

pub returns-then-bound-so_far-clause-within : goal.returns-then-bound-so_far-clause-within
returns-then-bound-so_far-clause-within c =
    at_output c.args.table.now.table.now.block.now c.args.out c.requires.out_from c.requires.out_to
    (λ x e p. (c.in-Some-tight.bound, of_tight p, c.if-bound-so_far.true))
    c.in-Some-tight.ensures.bound
