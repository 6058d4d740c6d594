use Rattle.run_commands.proofs.Words.{◌*◌, ◌≡◌, ◌≤◌, sum, take}
use Rattle.run_commands.proofs.generate.sum_of.Given as goal

abbrev pub invariant-loop-answer : goal.invariant-loop-answer
invariant-loop-answer l = record {
  sum_is : l.sum ≡ sum (take l.answer-index l.answers);
  small : l.sum ≤ 65535 * l.answer-index;
}
