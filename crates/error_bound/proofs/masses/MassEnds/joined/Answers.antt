use Rattle.error_bound.proofs.masses.MassEnds.joined.Goals as goal

pub returns-in-Any : goal.returns-in-Any
returns-in-Any c = rw c.in-Any.is (record {
  low = c.max.ensures;
  high = c.max-in-Any.ensures;
  byte_low = c.max-in-Any-2.ensures;
  byte_high = c.max-in-Any-3.ensures;
})

pub returns-in-All : goal.returns-in-All
returns-in-All c = rw c.in-All.is (record {
  low = c.min.ensures;
  high = c.min-in-All.ensures;
  byte_low = c.min-in-All-2.ensures;
  byte_high = c.min-in-All-3.ensures;
})
