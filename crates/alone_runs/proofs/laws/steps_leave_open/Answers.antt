use Rattle.alone_runs.proofs.OpenBytes.{steps_leave_open}
use Rattle.alone_runs.proofs.laws.steps_leave_open.Goals as goal

pub returns : goal.returns
returns c = steps_leave_open (record {
  step_agrees = c.step_agrees.ensures;
  wavr_goes_on = c.wavr_goes_on.ensures;
  writes_stay = c.writes_stay.ensures;
  pushes_running = c.wav_suspends.ensures.running;
  pushes_none = c.wav_suspends.ensures.none;
})
