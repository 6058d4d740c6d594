use Rattle.std.proofs.Common.{◌≡◌, length}
use Rattle.error_bound.specs.Reaches.{AreMarked}
use Rattle.error_bound.proofs.tables.BoxTable.marks_here.Given as goal

abbrev pub invariant-loop-n : goal.invariant-loop-n
invariant-loop-n l = (length l.marks ≡ 256) × AreMarked l.self.table.now.block.now l.self.bytes.0.items l.marks
