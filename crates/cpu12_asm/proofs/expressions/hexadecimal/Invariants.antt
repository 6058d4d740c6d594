use Rattle.std.proofs.Common.{◌≡◌, min, take}
use Rattle.cpu12_asm.specs.Expressions.{hexadecimal_value}
use Rattle.cpu12_asm.proofs.expressions.hexadecimal.Given as goal

abbrev pub invariant-loop-b : goal.invariant-loop-b
invariant-loop-b l = l.n ≡ min (hexadecimal_value (take l.b-index l.digits)) 65536
