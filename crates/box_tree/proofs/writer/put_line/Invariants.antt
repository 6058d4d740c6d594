use Rattle.std.proofs.Common.{◌≡◌, ◌++◌, take}
use Rattle.box_tree.specs.Texts.{numbers}
use Rattle.box_tree.proofs.writer.put_line.Given as goal

abbrev pub invariant-loop-number : goal.invariant-loop-number
invariant-loop-number l = l.text.items ≡ l.fn.text.items ++ (l.word ++ numbers (take l.number-index l.numbers))
