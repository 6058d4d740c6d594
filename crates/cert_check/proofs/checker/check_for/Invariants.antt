use Rattle.std.proofs.Common.{take}
use Rattle.byte_scaling.specs.Widths.{parts as parts_of}
use Rattle.cert_check.specs.Walks.{HasTaken}
use Rattle.cert_check.proofs.DriverLemmas.{IsWalkOver}
use Rattle.cert_check.proofs.checker.check_for.Given as goal

abbrev pub invariant-loop-node : goal.invariant-loop-node
invariant-loop-node l = record {
  over : IsWalkOver l.block l.cert.claims (parts_of l.fn.width) l.walk;
  taken : HasTaken (take l.node-index l.cert.nodes) l.walk;
}
