use Rattle.std.proofs.Common.{◌+◌}
use Rattle.std.proofs.lemmas.Option.{IfSome_then}
use Rattle.fuzzy_meaning.specs.Blocks.{output_at}
use Rattle.error_bound.specs.Tight.{of_bound}
use Rattle.error_certifier.proofs.leaves.tight_within.Goals as goal

pub returns-in-Some-2-clause-count : goal.returns-in-Some-2-clause-count
returns-in-Some-2-clause-count c =
    IfSome_then (output_at c.args.table.now.table.now.block.now (c.args.place + 1)) c.in-Some.ensures.bound (λ x bound. of_bound bound)
