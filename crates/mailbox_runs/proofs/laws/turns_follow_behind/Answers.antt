use Rattle.mailbox_runs.proofs.Behind.{sound_behind}
use Rattle.mailbox_runs.specs.UsedLaws.{PostingLaws}
use Rattle.mailbox_runs.proofs.laws.turns_follow_behind.Goals as goal

pub returns : goal.returns
returns c = λ flags f samples n begin copied box size outputs.
    (let laws : PostingLaws = c.posting_laws.ensures in
    c.run_follows.ensures (record {
      flags = flags;
      firmware = f;
      samples = samples;
      begin = begin;
      copied = copied;
      sound = sound_behind laws.stepping flags f samples n begin copied box size outputs;
    }))
