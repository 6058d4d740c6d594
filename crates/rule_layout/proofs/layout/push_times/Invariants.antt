use Rattle.rule_layout.proofs.Words.{◌++◌, ◌≡◌, replicate}
use Rattle.rule_layout.proofs.layout.push_times.Given as goal

abbrev pub invariant-loop-time : goal.invariant-loop-time
invariant-loop-time l = l.bytes.items ≡ l.initial.bytes.items ++ replicate l._time l.byte
