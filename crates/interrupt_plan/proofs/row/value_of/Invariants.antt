use Rattle.std.proofs.Common.{◌≡◌, min, take}
use Rattle.fz_num.specs.Decimals.{number}
use Rattle.interrupt_plan.proofs.row.value_of.Given as goal

abbrev pub invariant-loop-digit : goal.invariant-loop-digit
invariant-loop-digit l = l.value ≡ min (number (take l.digit-index l.digits)) 1000000000
