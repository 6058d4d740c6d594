use Rattle.std.proofs.Common.{List, ℕ, []}
use Rattle.box_tree.specs.declared.{cert.CertFormat.CertFormat}
use Rattle.box_tree.specs.Reading.{HasRead, unread_len}
use Rattle.box_tree.proofs.reader.cert_behind.Given as goal

abbrev pub invariant-loop-node : goal.invariant-loop-node
invariant-loop-node l = (format : CertFormat) (text : List ℕ)
    → HasRead format text [] l.fn.lines → HasRead format text l.nodes.items l.lines

abbrev pub decreases-loop-node : goal.decreases-loop-node
decreases-loop-node l = unread_len l.lines
