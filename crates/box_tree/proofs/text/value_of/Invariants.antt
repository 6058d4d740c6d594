use Rattle.std.proofs.Common.{◌≡◌, min, take}
use Rattle.box_tree.specs.Numbers.{number_behind}
use Rattle.box_tree.proofs.text.value_of.Given as goal

abbrev pub invariant-loop-digit : goal.invariant-loop-digit
invariant-loop-digit l = l.value ≡ min (number_behind 0 (take l.digit-index l.digits)) 1000001
