-- What a run gives whose interrupts run a handler's code.
use Rattle.form_commands.proofs.Words.{◌<◌, ◌^◌, ◌∙◌, ◌≡◌, Alone, AnswersAreReported, AnswersItsBlock}
use Rattle.form_commands.proofs.Words.{AnswersUnderPlans, ap, Byte, CertKind, Compiled, format_of, handled_report, handled_seen}
use Rattle.form_commands.proofs.Words.{HandledFiles, input_bytes, List, map, refl, Request, RowSeen, Sample}
use Rattle.form_commands.proofs.Words.{SpelledBytesFit, subst, sym, ℕ}
use Rattle.form_commands.proofs.FormLemmas.{settled_report}
use Rattle.form_commands.specs.Hrun.{HrunIsSettled, hrun_lines}
use Rattle.command_parts.specs.{Certs.CertsAreExact, Firmwares.FirmwaresAreExact, Handlers.HandlersAreExact}
use Rattle.command_parts.specs.{Readings.AreExact, Readings.Gives, Readings.seen_of}
use Rattle.command_parts.specs.declared.handlers.AcceptedHandler.{AcceptedHandler}
use Rattle.eval_code.specs.Bounds.{instruction_bound}
use Rattle.handled_runs.specs.Answering.{AreListedRows, HandledAnswers, HandlersRunAlike}
use Rattle.run_reports.specs.HandledRun.{HandledReport, HandledRun, handled_reading}
use Rattle.run_reports.specs.Inputs.{PlansAreExact, TracesAreExact}

-- accepted files have the run of them
module _ (reported : AnswersAreReported) (fit : SpelledBytesFit) (all : AnswersUnderPlans) (law : HandledAnswers)
    (kind : CertKind) (flags : ℕ) (byte : flags < 2 ^ 8) (files : HandledFiles) (c : Compiled)
    (handler : AcceptedHandler) (errors : List ℕ) (samples : List Sample) (plan : List Request)
    (a : Gives (handled_reading kind files) (c, (handler, (errors, (samples, plan))))) where
  abbrev bytes : List (List ℕ)
  bytes = map input_bytes samples

  abbrev report : HandledReport
  report = handled_report flags c handler errors samples plan

  abbrev plain : List (RowSeen (List ℕ))
  plain = map (λ r. r.row) report.rows

  handled : AreListedRows c.firmware handler.image.bytes handler.handler.instrs flags bytes plan report.rows
  handled = law c.firmware handler.image.bytes handler.handler.instrs flags bytes plan byte a.1.1.1.1.good
      a.1.0.handler c.block a.0.spelled.valid a.0.limits a.0.compiled.0
      (fit c.block files.inputs.trace samples a.1.1.1.0)

  under : AnswersItsBlock c.firmware flags bytes plan plain
  under = subst (λ (rs : List (RowSeen (List ℕ))). AnswersItsBlock c.firmware flags bytes plan rs)
      (sym handled.listed) (all c.firmware flags bytes plan byte a.1.1.1.1.good)

  pub handles : HandledRun kind flags files report
  handles = record {
    block = c.block;
    firmware = c.firmware;
    handler = handler.image;
    instrs = handler.handler.instrs;
    samples = samples;
    plan = plan;
    accepts = a;
    ran = refl;
    interrupts = handled.run;
    reported = reported Byte flags files.fcl c.block c.firmware a.1.1.0.cert errors files.inputs.trace samples plan
        plain a.0 a.1.1.0.accepted a.1.1.1.0 under;
  }

-- ---- what it makes of its files

pub handled_exact : FirmwaresAreExact → HandlersAreExact → CertsAreExact → TracesAreExact → PlansAreExact
    → (kind : CertKind) (files : HandledFiles) → AreExact (handled_reading kind files)
handled_exact firmwares handlers certs traces plans kind files = (
  firmwares (Alone Byte) files.fcl,
  λ c compiled. (
    handlers files.handler,
    λ handler handles. (
      certs (format_of kind Byte) c.block files.inputs.cert compiled.spelled.valid,
      λ errors accepted. (traces c.block files.inputs.trace, λ samples in_range. plans files.inputs.plan),
    ),
  ),
)

abbrev Given : Type 0
Given = Compiled × (AcceptedHandler × (List ℕ × (List Sample × List Request)))

abbrev report_of : ℕ → Given → HandledReport
report_of flags (c, (handler, (errors, (samples, plan)))) = handled_report flags c handler errors samples plan

module _ (alike : HandlersRunAlike) (kind : CertKind) (flags : ℕ) (files : HandledFiles) where
  given : (told : HandledReport) → HandledRun kind flags files told
      → (b : Given) × Gives (handled_reading kind files) b × (told ≡ report_of flags b)
  given told h =
      let alone = h.accepts.0.compiled in
      let bound : told.bound ≡ h.firmware.instr_bound =
      h.reported.bound ∙ ap (λ w. instruction_bound w h.block) (sym alone.1) ∙ sym alone.0.instructions in (
        (
          record { block = h.block; firmware = h.firmware },
          (record { image = h.handler; handler = record { instrs = h.instrs } }, (told.errors, (h.samples, h.plan))),
        ),
        h.accepts,
        (λ i. record { errors = told.errors; bound = bound i; rows = h.ran i }),
      )

  same : (b d : Given) → seen_of (handled_reading kind files) b ≡ seen_of (handled_reading kind files) d
      → report_of flags b ≡ report_of flags d
  same b d seen =
      let rows : (report_of flags b).rows ≡ (report_of flags d).rows =
      alike b.0.firmware b.1.0.image.bytes d.1.0.image.bytes (map input_bytes b.1.1.1.0) b.1.1.1.1 flags
      (λ at i. (seen i).1.0.0 at)
      ∙ (λ i. handled_seen (seen i).0.firmware d.1.0.image.bytes (seen i).1.1.1.0.1 (seen i).1.1.1.1 flags) in
      (λ i. record { errors = (seen i).1.1.0; bound = (seen i).0.firmware.instr_bound; rows = rows i })

pub hrun_settled : ((kind : CertKind) (files : HandledFiles) → AreExact (handled_reading kind files))
    → AnswersAreReported → SpelledBytesFit → AnswersUnderPlans → HandledAnswers → HandlersRunAlike → HrunIsSettled
hrun_settled exact reported fit all law alike run files =
    settled_report (handled_reading run.kind files) run.flags (HandledRun run.kind run.flags files) hrun_lines
    (report_of run.flags) (exact run.kind files) (given alike run.kind run.flags files)
    (same alike run.kind run.flags files) (λ b byte a.
    handles reported fit all law run.kind run.flags byte files b.0 b.1.0 b.1.1.0 b.1.1.1.0 b.1.1.1.1 a)
