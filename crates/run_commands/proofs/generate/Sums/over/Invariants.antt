use Rattle.run_commands.proofs.Words.{◌*◌, ◌≡◌, ◌≤◌, answers_of, frames_of, map, resumed_of, row_seen, take}
use Rattle.std.proofs.{Common.◌^◌}
use Rattle.run_commands.proofs.generate.Sums.over.Given as goal

abbrev pub invariant-loop-row : goal.invariant-loop-row
invariant-loop-row l = record {
  frames : l.sums.frames ≡ frames_of (map row_seen (take l.row-index l.rows));
  resumed : l.sums.resumed ≡ resumed_of (map row_seen (take l.row-index l.rows));
  answers : l.sums.answers ≡ answers_of (map row_seen (take l.row-index l.rows));
  few_frames : l.sums.frames ≤ 2 ^ 64 * l.row-index;
  few_resumed : l.sums.resumed ≤ 2 ^ 64 * l.row-index;
  few_answers : l.sums.answers ≤ 2 ^ 64 * l.row-index;
}
