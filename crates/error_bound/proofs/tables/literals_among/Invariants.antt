use Rattle.std.proofs.Common.{◌≡◌, take}
use Rattle.std.specs.Prelude.{map}
use Rattle.error_bound.specs.Reaches.{literal_of}
use Rattle.error_bound.proofs.tables.literals_among.Given as goal

abbrev pub invariant-loop-part : goal.invariant-loop-part
invariant-loop-part l = map literal_of l.literals.items ≡ take l.part-index l.parts
