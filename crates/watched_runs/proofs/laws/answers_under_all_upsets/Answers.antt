use Rattle.cpu12_isa.specs.Regions.{is_free}
use Rattle.alone_runs.specs.SoundAloneProof.{free_opens}
use Rattle.watched_runs.proofs.WatchedRows.{answers_under_all_upsets}
use Rattle.watched_runs.proofs.laws.answers_under_all_upsets.Goals as goal

pub returns : goal.returns
returns c = answers_under_all_upsets (record {
  steps = c.instructions_are_steps.ensures;
  given_is_put = c.given_is_put.ensures;
  arrives_plainly = c.arrives_plainly.ensures;
  requests_are_good = c.requests_are_good.ensures;
  watched_answers = c.watched_answers.ensures;
  taken_at_once = c.taken_at_once.ensures;
  runs_follow = λ flags f low. c.runs_follow.ensures
      (record { flags = flags; firmware = f; low = low; open_to = is_free; opens = free_opens });
})
