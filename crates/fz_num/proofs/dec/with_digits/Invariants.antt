use Rattle.std.proofs.Common.{◌≡◌, min, take, fold}
use Rattle.fz_num.specs.Decimals.{next_number}
use Rattle.fz_num.proofs.dec.with_digits.Given as goal

abbrev pub invariant-loop-c : goal.invariant-loop-c
invariant-loop-c l = l.n ≡ min (fold next_number l.from (take l.c-index l.digits)) 1000000001
