use Rattle.run_law.proofs.laws.machine_laws.Goals as goal

pub returns : goal.returns
returns c = record {
  step_keeps = c.step_keeps.ensures;
  frame_is_on_stack = c.frame_is_on_stack.ensures;
  more = c.stack_is_hidden.ensures.more;
  shown = c.stack_is_hidden.ensures.shown;
  pushed = c.stack_is_hidden.ensures.pushed;
  running = c.wav_suspends.ensures.running;
  none = c.wav_suspends.ensures.none;
}
