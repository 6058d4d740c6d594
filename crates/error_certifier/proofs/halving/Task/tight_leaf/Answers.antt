use Rattle.std.proofs.Common.{ℕ, List, subst}
use Rattle.error_bound.specs.Reaches.{parts_of}
use Rattle.error_certifier.specs.Trees.{AreTightBounds}
use Rattle.error_certifier.proofs.HalveLemmas.{tight_found}
use Rattle.error_certifier.proofs.halving.Task.tight_leaf.Goals as goal

pub returns-in-Ok-clause-piece : goal.returns-in-Ok-clause-piece
returns-in-Ok-clause-piece c =
    let w = c.args.self.now in
    let box = c.args.table.now.bytes.0.items in
    tight_found c.args.table.now.table.now.block.now (parts_of c.args.table.now) w.targets.items box c.in-Ok.bounds
    (subst (λ (ts : List ℕ). AreTightBounds c.args.table.now.table.now.block.now (parts_of c.args.table.now) ts box c.in-Ok.bounds) c.as_slice.ensures.value
    c.in-Ok.ensures.bounds)
