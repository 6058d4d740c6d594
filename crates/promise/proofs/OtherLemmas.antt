-- The other runs keep the promise.
use Rattle.std.proofs.Common.{◌∙◌, refl, sym, arith}
use Rattle.byte_scaling.specs.declared.width.Width.TheVariants.{Byte}
use Rattle.two_level_code.specs.Images.{slow_alone}
use Rattle.two_level_runs.specs.Answering.{plan_of}
use Rattle.std.proofs.Common.{List, [], ℕ, length, map, subst}
use Rattle.std.proofs.lemmas.List.{length-map}
use Rattle.interrupt_plan.specs.Posts.{AreGoodPosts}
use Rattle.run_law.specs.{Forms.RowSeen, Moments.TakenAtOnce}
use Rattle.run_forms.specs.Arrival.{PlainIsOneStep}
use Rattle.run_reports.specs.Laws.{SpelledBytesFit}
use Rattle.mailbox_code.specs.Turns.{MailboxTakesPosts}
use Rattle.mailbox_runs.specs.UninterruptedTurns.{MailboxRunsTurns, TurnsHaveSteps}
use Rattle.mailbox_runs.specs.{Runs.steps_of}
use Rattle.watched_code.specs.Watched.{Watched}
use Rattle.watched_runs.specs.{Forms.FactsWatched, Forms.watched_form, Rows.upset_rows, Samples.with_upsets}
use Rattle.alone_runs.specs.Rows.{first_state}
use Rattle.trace_io.specs.Traces.{input_bytes}
use Rattle.promise.specs.{Bench.AreReadOff, Bench.requests_in, Laws.AnswersServe}
use Rattle.promise.specs.OtherRuns.{DebuggedRunsServe, WatchedRunsServe, GeneratedRunsServe, HandledRunsServe}
use Rattle.promise.specs.OtherRuns.{OtherRunsServe, MailboxRunsServe, SlowRunsServe}
use Rattle.promise.proofs.{BenchLemmas.read_off_expected, FastLemmas.all_serve, TurnLemmas.turns_end, TurnLemmas.waits}
use Rattle.run_reports.proofs.Algebra.{rows_ran}

generated : AnswersServe → GeneratedRunsServe
generated keep number output g =
    keep Byte 0 g.block g.firmware (map input_bytes g.samples) g.requests g.report.rows (omega arith)
    g.gives.spelled.valid g.gives.limits g.gives.compiled.0 g.gives.compiled.1 g.reported.follows

debugged : AnswersServe → DebuggedRunsServe
debugged keep debug files output d byte =
    keep Byte debug.flags d.block d.firmware (map input_bytes d.samples) d.plan d.rows byte
    d.accepts.0.spelled.valid d.accepts.0.limits d.accepts.0.compiled.0
    d.accepts.0.compiled.1 d.follows

handled : AnswersServe → HandledRunsServe
handled keep kind flags files report h byte = record {
  serves = keep Byte flags h.block h.firmware (map input_bytes h.samples) h.plan (map (λ row. row.row) report.rows) byte
      h.accepts.0.spelled.valid h.accepts.0.limits h.accepts.0.compiled.0
      h.accepts.0.compiled.1 h.reported.follows;
  last = _;
  ran = record {
    most = h.firmware.step_bound;
    arrived = h.interrupts.arrived;
    rows_are = rows_ran h.reported.follows ∙ sym h.interrupts.rows_are;
    last_is = refl;
  };
}

slow : AnswersServe → SlowRunsServe
slow keep kind flags files report l byte = record {
  serves = keep Byte flags l.slow (slow_alone l.slow l.two) (map input_bytes l.samples) (plan_of l.levels)
      (map (λ row. row.row) report.rows) byte
      l.accepts.0.slow_is.spelled.valid l.accepts.0.slow_is.limits
      l.accepts.0.both.alone.firmware l.accepts.0.both.alone.width
      l.reported.follows;
  last = _;
  ran = record {
    most = l.two.firmware.step_bound;
    arrived = l.answers.arrived;
    rows_are = rows_ran l.reported.follows ∙ sym l.answers.rows_are;
    last_is = refl;
  };
  fast = all_serve l.fast l.accepts.0.fast_is.spelled.valid l.two flags (map input_bytes l.fast_samples) [] _ _ _ _
      l.answers.told;
}

posted : PlainIsOneStep → MailboxTakesPosts → MailboxRunsTurns → TurnsHaveSteps → SpelledBytesFit → MailboxRunsServe
posted one takes run steps fit kind flags files report p byte =
    let bytes = map input_bytes p.samples in
    let follows = p.follows in
    let firmware = p.accepts.0 in
    let good = p.accepts.1.1.1.1.good in
    let ran = run p.block p.firmware flags bytes follows.turns firmware.spelled.valid firmware.limits
    firmware.compiled.0 byte (fit p.block files.trace p.samples p.accepts.1.1.1.0)
    (steps p.firmware.inputs (length bytes) (steps_of flags p.firmware bytes) p.posts follows.turns
    (subst (λ (n : ℕ). AreGoodPosts n p.posts) (sym (length-map p.samples input_bytes)) good) follows.turns_are) in
    record {
      ran = p.ran;
      first = _;
      waits = waits takes p.block p.firmware bytes flags firmware.spelled.valid firmware.limits firmware.compiled.0 byte
          follows.arrived;
      turns = follows.turns;
      turns_are = follows.turns_are;
      ends = turns_end one flags p.firmware bytes follows.turns _ ran.runs;
      without = follows.run_is;
    }

watched : TakenAtOnce → WatchedRunsServe
watched law kind flags files report w =
    let form = watched_form flags w.firmware in
    let samples = with_upsets w.upsets (map input_bytes w.samples) in
    let first = first_state w.firmware flags in
    let all = upset_rows w.firmware (map input_bytes w.samples) w.plan w.upsets flags in
    record {
      rows = all.rows;
      seen = w.ran;
      last = all.state;
      ran = record {
        most = w.firmware.step_bound;
        arrived = w.answers.follows.arrived;
        rows_are = refl;
        last_is = refl;
      };
      without = subst (λ (rows : List (RowSeen Watched)). AreReadOff form (requests_in w.plan) 1 samples rows first)
          (sym w.answers.follows.rows_are)
          (read_off_expected law (FactsWatched flags) (λ u p. p.facts.unmasked) form (requests_in w.plan) 1
          w.answers.steps samples first w.answers.complete);
    }

pub others_serve : TakenAtOnce → PlainIsOneStep → MailboxTakesPosts → MailboxRunsTurns → TurnsHaveSteps
    → SpelledBytesFit → AnswersServe → OtherRunsServe
others_serve law one takes run steps fit keep =
    record {
      debugged = debugged keep;
      generated = generated keep;
      handled = handled keep;
      posted = posted one takes run steps fit;
      slow = slow keep;
      watched = watched law;
    }
