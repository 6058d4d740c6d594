-- A certified run, and what refuses one.
use Rattle.run_commands.proofs.Words.{◌≡◌, Alone, AnswersAreReported, AnswersUnderPlans, ap, Block, Firmware}
use Rattle.run_commands.proofs.Words.{firmware_rows, input_bytes, left_of, List, only_lines, refl, report_of, Request}
use Rattle.run_commands.proofs.Words.{RowSeen, Run, run_lines, RunFiles, Sample, sym, ℕ, ◌∙◌}
use Rattle.command_parts.specs.{Certs.CertsAreExact, Firmwares.FirmwaresAreExact, Images.ImagesAreExact}
use Rattle.command_parts.specs.Readings.{AreExact, Gives, seen_of}
use Rattle.command_parts.specs.{SeenOutputs.SeenOutput, declared.firmware.Compiled.Compiled}
use Rattle.eval_code.specs.Bounds.{instruction_bound}
use Rattle.run_reports.proofs.Algebra.{rows_ran, settled_run}
use Rattle.run_reports.specs.CertifiedRun.{AcceptsRun, CertifiedRun, run_reading}
use Rattle.box_tree.specs.declared.cert.CertFormat.{CertFormat}
use Rattle.run_reports.specs.Inputs.{PlansAreExact, TracesAreExact}
use Rattle.std.proofs.Common.{◌<◌, ◌^◌}
use Rattle.run_commands.specs.Run.{AcceptedRunsMakeOutput, RunGives, RunIsSettled, run_told}
use Rattle.std.specs.Prelude.{map}

-- accepted files make the lines of a certified run
module _ (reported : AnswersAreReported) (under : AnswersUnderPlans) (run : Run) (files : RunFiles) (block : Block)
    (firmware : Firmware) (errors : List ℕ) (samples : List Sample) (plan : List Request) (byte : run.flags < 2 ^ 8)
    (a : AcceptsRun run.format files block firmware errors samples plan) where
  abbrev bytes : List (List ℕ)
  bytes = map input_bytes samples

  abbrev rows : List (RowSeen (List ℕ))
  rows = (firmware_rows firmware bytes plan run.flags).rows

  abbrev certified : CertifiedRun run.format run.flags files (report_of errors firmware.instr_bound rows)
  certified = record {
    block = block;
    firmware = firmware;
    samples = samples;
    plan = plan;
    accepts = a;
    reported = reported run.format.width run.flags files.fcl block firmware a.1.1.0.cert errors files.inputs.trace samples
        plan rows a.0 a.1.1.0.accepted a.1.1.1.0 (under firmware run.flags bytes plan byte a.1.1.1.1.good);
    left = left_of (firmware_rows firmware bytes plan run.flags).state.mem;
    left_is = refl;
  }

  abbrev made : RunGives run files
      (only_lines (run_told run.flags (record { block = block; firmware = firmware }) errors samples plan))
  made =
      record { report = report_of errors firmware.instr_bound rows; certified = certified; output_is = refl }

pub accepted_made : AnswersAreReported → AnswersUnderPlans → AcceptedRunsMakeOutput
accepted_made reported under run files block firmware errors samples plan byte a =
    (_, made reported under run files block firmware errors samples plan byte a, refl)

-- ---- what it makes of its files

pub run_exact : FirmwaresAreExact → ImagesAreExact → CertsAreExact → TracesAreExact → PlansAreExact
    → (format : CertFormat) (files : RunFiles) → AreExact (run_reading format files)
run_exact firmwares images certs traces plans format files = (
  firmwares (Alone format.width) files.fcl,
  λ c compiled. (
    images files.image c.firmware.image,
    λ held image. (
      certs format c.block files.inputs.cert compiled.spelled.valid,
      λ errors accepted. (traces c.block files.inputs.trace, λ samples in_range. plans files.inputs.plan),
    ),
  ),
)

abbrev Given : Type 0
Given = Compiled × (Unit {0} × (List ℕ × (List Sample × List Request)))

abbrev told : ℕ → Given → List (List ℕ)
told flags (c, (held, (errors, (samples, plan)))) = run_told flags c errors samples plan

module _ (run : Run) (files : RunFiles) where
  given : (output : SeenOutput) → RunGives run files output → (b : Given)
      × Gives (run_reading run.format files) b × (output ≡ only_lines (told run.flags b))
  given output a =
      let r = a.certified in
      let alone = r.accepts.0.compiled in
      let bound : a.report.bound ≡ r.firmware.instr_bound =
      r.reported.bound ∙ ap (λ w. instruction_bound w r.block) (sym alone.1) ∙ sym alone.0.instructions in
      let rows = rows_ran r.reported.follows in (
        (record { block = r.block; firmware = r.firmware }, (tt, (a.report.errors, (r.samples, r.plan)))),
        r.accepts,
        a.output_is
            ∙ (λ i. only_lines (run_lines (report_of a.report.errors (bound i) (rows i)) (r.left_is i))),
      )

  -- its output is one, where what is seen of the files is
  same : (b d : Given) → seen_of (run_reading run.format files) b
      ≡ seen_of (run_reading run.format files) d → told run.flags b ≡ told run.flags d
  same b d seen = λ i. (let c = (seen i).0 in
      let all = firmware_rows c.firmware (seen i).1.1.1.0.1 (seen i).1.1.1.1 run.flags in
      run_lines (report_of (seen i).1.1.0 c.firmware.instr_bound all.rows) (left_of all.state.mem))

pub run_settled : ((format : CertFormat) (files : RunFiles) → AreExact (run_reading format files))
    → AnswersAreReported → AnswersUnderPlans → RunIsSettled
run_settled exact reported under run files =
    settled_run (run_reading run.format files) run.flags (RunGives run files) (told run.flags)
    (exact run.format files) (given run files) (same run files)
    (λ b byte a. made reported under run files b.0.block b.0.firmware b.1.1.0 b.1.1.1.0 b.1.1.1.1 byte a)
