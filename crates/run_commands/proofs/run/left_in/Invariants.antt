use Rattle.run_commands.proofs.Words.{◌*◌, ◌-◌, ◌≡◌, ◌≤◌, drop, free_start, stack_end, sum, take}
use Rattle.run_commands.proofs.run.left_in.Given as goal

abbrev pub invariant-loop-at : goal.invariant-loop-at
invariant-loop-at g l = record {
  low : free_start ≤ l.at;
  high : l.at ≤ stack_end;
  sum_is : l.sum ≡ sum (take (l.at - free_start) (drop free_start (g.M.Mem.bytes l.memory)));
  small : l.sum ≤ 255 * (l.at - free_start);
}
