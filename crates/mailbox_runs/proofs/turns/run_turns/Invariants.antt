use Rattle.std.proofs.Common.{◌≡◌, ◌≤◌, ◌+◌, min, map, drop, length, vec_len, vec_capacity}
use Rattle.cpu12_emul.specs.Step.{SameMachine}
use Rattle.mailbox_runs.specs.{Runs.input_bytes, Runs.answer_seen, Runs.turns_from, Runs.most_turns, Counts.with_rest}
use Rattle.run_forms.specs.{Rooms.Fits, SampleRests.IsSteady}
use Rattle.mailbox_runs.proofs.turns.run_turns.Given as goal

-- what is counted and the turns to come are the whole run
abbrev pub invariant-loop-left : goal.invariant-loop-left
invariant-loop-left g l = record {
  rest : with_rest (map answer_seen l.answers.items) l.st.counts
      (turns_from l.fn.m.flags l.firmware (map input_bytes l.samples) l.last l.left l.st.counts.moment l.waits
      (drop l.st.counts.next l.posts) l.m.state)
      ≡ with_rest (map answer_seen l.fn.answers.items) l.fn.st.counts
      (turns_from l.fn.m.flags l.firmware (map input_bytes l.samples) l.last most_turns 0 0 l.posts l.fn.m.state);
  steady : IsSteady Fits l.posts l.st;
  resumed : l.st.counts.resumed ≤ l.st.counts.moment;
  most : l.st.counts.moment ≤ l.last;
  waits : l.waits ≤ length l.samples;
  answers : (vec_len l.answers + min l.waits 1 ≤ l.st.counts.next) × (length l.posts ≤ vec_capacity l.answers);
  machine : SameMachine l.fn.m l.m;
}

abbrev pub decreases-loop-left : goal.decreases-loop-left
decreases-loop-left g l = l.left
