use Rattle.cell_bounds.specs.Walks.{cuts_of}
use Rattle.cell_bounds.proofs.walks.Walk.+over.Given as goal

abbrev pub decreases-over : goal.decreases-over
decreases-over l = cuts_of l.bytes.0.items
