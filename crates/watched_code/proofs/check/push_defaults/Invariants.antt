use Rattle.watched_code.proofs.Words.{◌++◌, ◌+◌, ◌≡◌, defaults_code}
use Rattle.std.proofs.{Common.drop}
use Rattle.watched_code.proofs.check.push_defaults.Given as goal

abbrev pub invariant-loop-output : goal.invariant-loop-output
invariant-loop-output l =
    (l.at ≡ l.first + l.output-index)
    × (l.code.items ++ defaults_code l.at (drop l.output-index l.outputs) ≡ l.fn.code.items
    ++ defaults_code l.first l.outputs)
