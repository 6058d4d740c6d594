use Rattle.box_tree.specs.Reading.{unread_len}
use Rattle.byte_scaling.specs.Widths.{parts as parts_of}
use Rattle.cert_check.proofs.DriverLemmas.{IsWalkOverText}
use Rattle.cert_check.proofs.text.errors_of.Given as goal

abbrev pub invariant-loop-node : goal.invariant-loop-node
invariant-loop-node l = IsWalkOverText l.block (parts_of l.fn.width) l.fn.lines l.lines l.walk

abbrev pub decreases-loop-node : goal.decreases-loop-node
decreases-loop-node l = unread_len l.lines
