use Rattle.error_bound.proofs.ends.End.joined.Goals as goal

pub returns-in-Any-clause-byte : goal.returns-in-Any-clause-byte
returns-in-Any-clause-byte c = rw c.in-Any.is c.max-in-Any.ensures

pub returns-in-All-clause-byte : goal.returns-in-All-clause-byte
returns-in-All-clause-byte c = rw c.in-All.is c.min-in-All.ensures
