use Rattle.mailbox_runs.proofs.Words.{Writing}
use Rattle.mailbox_runs.proofs.laws.posting_laws.Goals as goal

pub returns : goal.returns
returns c =
    let writing : Writing = record {
      writes_agree = c.writes_agree.ensures;
      writes_stay = c.writes_stay.ensures;
      takes_quietly = c.takes_quietly.ensures;
      hides_pushed = c.stack_is_hidden.ensures.pushed;
    } in
    record {
      steps = record {
        step_agrees = c.step_agrees.ensures;
        step_keeps = c.step_keeps.ensures;
        plain_is_step = c.plain_is_step.ensures;
        plain_is_one_step = c.plain_is_one_step.ensures;
      };
      taking = record {
        writing = writing;
        frame_is_on_stack = c.frame_is_on_stack.ensures;
        pushes_none =
            c.wav_suspends.ensures.none;
      };
      stepping = record {
        writing = writing;
        step_agrees = c.step_agrees.ensures;
        wavr_goes_on = c.wavr_goes_on.ensures;
        pushes_running = c.wav_suspends.ensures.running;
        pushes_none = c.wav_suspends.ensures.none;
      };
    }
