use Rattle.rule_layout.proofs.Words.{◌≡◌, take}
use Rattle.rule_layout.proofs.flat.Flat.bytes.Given as goal

abbrev pub invariant-loop-element : goal.invariant-loop-element
invariant-loop-element l = l.bytes.items ≡ take l.element-index l.element-items
