use Rattle.std.proofs.Common.{refl, ◌∙◌}
use Rattle.fz_shelf.proofs.Taking.{begun, goes_on}
use Rattle.fz_shelf.proofs.whole.put_all.Goals as goal

pub loop-rest-init : goal.loop-rest-init
loop-rest-init g c = record {
  putting = begun _ _;
  faults = refl;
  reliable = λ s. s;
}

pub loop-rest-preserved : goal.loop-rest-preserved
loop-rest-preserved g c = record {
  putting = goes_on c.loop-rest.invariant.putting c.in_ok-count.count _ c.in_ok-count.ensures.told;
  faults = c.in_ok-count.ensures.cause.stays ∙ c.loop-rest.invariant.faults;
  reliable = λ s. c.in_ok-count.ensures.reliable (c.loop-rest.invariant.reliable s);
}
