use Rattle.two_level_runs.proofs.Quiet.{outer_is_quiet}
use Rattle.two_level_runs.proofs.laws.outer_is_quiet.Goals as goal

pub returns : goal.returns
returns c = outer_is_quiet (record {
  writes_stay = c.writes_stay.ensures;
  bytes_stay = c.bytes_stay.ensures;
  frame_comes_back = c.frame_comes_back.ensures;
  follow = c.fast_runs_follow.ensures;
})
