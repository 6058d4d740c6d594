-- What a run under upsets gives.
use Rattle.form_commands.proofs.Words.{[], ◌<◌, ◌^◌, ◌∙◌, ◌∷◌, ◌≡◌, ◌≤◌, All, All-cons, All-nil, Block, Byte}
use Rattle.form_commands.proofs.Words.{CertKind, Compiled, Firmware, format_of, input_bytes, List, map, refl, Request, Sample}
use Rattle.form_commands.proofs.Words.{SpelledBytesFit, Status, sym, upset_rows, faults_of, watched_report}
use Rattle.form_commands.proofs.Words.{WatchedFiles, ℕ}
use Rattle.form_commands.proofs.FormLemmas.{settled_report}
use Rattle.form_commands.specs.Srun.{SrunIsSettled, srun_lines}
use Rattle.command_parts.proofs.Algebra.{exact_of}
use Rattle.command_parts.specs.{Certs.CertsAreExact, Firmwares.FirmwaresAreExact, Images.ImagesAreExact}
use Rattle.command_parts.specs.Readings.{AreExact, Gives, IsExact, seen_of}
use Rattle.command_parts.specs.declared.firmware.Form.TheVariants as form
use Rattle.cpu12_emul.specs.Image.{image_memory}
use Rattle.fz_status.specs.declared.status.Status.TheVariants as status
use Rattle.interrupt_plan.specs.{declared.upsets.Upset.Upset, declared.upsets.UpsetFault.UpsetFault}
use Rattle.interrupt_plan.specs.OneReading.{SpelledUpsetsAreOne, UpsetFaultsAreOne}
use Rattle.interrupt_plan.specs.UpsetTexts.{HasUpsetFault, SpelledUpsetsHaveNoFault}
use Rattle.run_reports.specs.{Faultless.FaultlessAnswersAreNear, Inputs.PlansAreExact, Inputs.TracesAreExact}
use Rattle.run_reports.specs.WatchedRun.{WatchedReport, WatchedRun, upset_refusals, upsets_in, watched_reading}
use Rattle.watched_code.specs.Watched.{Watched, watched_answer}
use Rattle.watched_runs.specs.Answering.{AnswersUnderAllUpsets, AnswersUnderUpsets, AreWatchedRows}
use Rattle.watched_runs.specs.{Rows.FaultSeen, Samples.with_upsets}

instructions_within : (b : Block) (f : Firmware) (before : ℕ → ℕ) (xs : List Watched) (rs : List FaultSeen)
    → AreWatchedRows b f before xs rs → All (λ r. r.row.instrs ≤ f.instr_bound) rs
instructions_within b f before [] [] rows = All-nil _
instructions_within b f before [] (r ∷ rs) rows = absurd rows
instructions_within b f before (x ∷ xs) [] rows = absurd rows
instructions_within b f before (x ∷ xs) (r ∷ rs) rows =
    All-cons (λ q. q.row.instrs ≤ f.instr_bound) r rs rows.0.instructions
    (instructions_within b f (λ o. watched_answer b (image_memory f.image.bytes) x o (before o)) xs rs rows.1)

-- accepted files have the run of them
module _ (near : FaultlessAnswersAreNear) (fit : SpelledBytesFit) (law : AnswersUnderAllUpsets) (kind : CertKind)
    (flags : ℕ) (byte : flags < 2 ^ 8) (files : WatchedFiles) (c : Compiled) (errors : List ℕ) (samples : List Sample)
    (plan : List Request) (upsets : List Upset)
    (a : Gives (watched_reading kind files) (c, (tt, (errors, (samples, (plan, upsets)))))) where
  abbrev bytes : List (List ℕ)
  bytes = map input_bytes samples

  abbrev report : WatchedReport
  report = watched_report flags c errors samples plan upsets

  under : AnswersUnderUpsets c.block c.firmware flags bytes plan upsets report.rows
  under = law c.firmware flags bytes plan upsets byte a.1.1.1.1.0.good a.1.1.1.1.1.good c.block a.0.spelled.valid
      a.0.limits a.0.compiled (fit c.block files.inputs.trace samples a.1.1.1.0)

  pub watches : WatchedRun kind flags files report
  watches = record {
    block = c.block;
    firmware = c.firmware;
    samples = samples;
    plan = plan;
    upsets = upsets;
    accepts = a;
    ran = refl;
    answers = under;
    bound = a.0.compiled.instructions;
    instructions = instructions_within c.block c.firmware (λ o. 0) (with_upsets upsets bytes) report.rows
        under.answers;
    within = near c.block c.firmware a.1.1.0.cert errors files.inputs.trace samples upsets report.rows
        a.0.spelled.valid a.1.1.1.0 under.answers a.1.1.0.accepted;
  }

-- ---- what it makes of its files

upset_has : (image : List (ℕ × ℕ)) (text : List ℕ) (s : Status) → upset_refusals image text s
    → (f : UpsetFault) × (s ≡ status.Upset f) × HasUpsetFault image text f
upset_has image text (status.Upset f) w = (f, refl, w)
upset_has image text s w = absurd w

pub watched_exact : FirmwaresAreExact → ImagesAreExact → CertsAreExact → TracesAreExact → PlansAreExact
    → SpelledUpsetsAreOne → SpelledUpsetsHaveNoFault → UpsetFaultsAreOne → (kind : CertKind) (files : WatchedFiles)
    → AreExact (watched_reading kind files)
watched_exact firmwares images certs traces plans one stand faults kind files = (
  firmwares form.Watched files.fcl,
  λ c compiled. (
    images files.image c.firmware.image,
    λ held image. (
      certs (format_of kind Byte) c.block files.inputs.cert compiled.spelled.valid,
      λ errors accepted. (
        traces c.block files.inputs.trace,
        λ samples in_range. (plans files.inputs.plan, λ plan good. upsets c.firmware.image.bytes),
      ),
    ),
  ),
)
  where
    upsets : (image : List (ℕ × ℕ)) → IsExact (upsets_in image files.upsets)
    upsets image =
        exact_of (upsets_in image files.upsets) status.Upset (HasUpsetFault image files.upsets) (λ f. tt)
        (upset_has image files.upsets) (one image files.upsets) (λ us f a carries w. stand image files.upsets us f a w)
        (λ f g c d v w. faults image files.upsets f g v w)

abbrev Given : Type 0
Given = Compiled × (Unit {0} × (List ℕ × (List Sample × (List Request × List Upset))))

abbrev report_of : ℕ → Given → WatchedReport
report_of flags (c, (held, (errors, (samples, (plan, upsets))))) = watched_report flags c errors samples plan upsets

module _ (kind : CertKind) (flags : ℕ) (files : WatchedFiles) where
  given : (told : WatchedReport) → WatchedRun kind flags files told
      → (b : Given) × Gives (watched_reading kind files) b × (told ≡ report_of flags b)
  given told w =
      let bound : told.bound ≡ w.firmware.instr_bound = w.bound ∙ sym w.accepts.0.compiled.instructions in (
        (record { block = w.block; firmware = w.firmware }, (tt, (told.errors, (w.samples, (w.plan, w.upsets))))),
        w.accepts,
        (λ i. record { errors = told.errors; bound = bound i; rows = w.ran i }),
      )

  same : (b d : Given) → seen_of (watched_reading kind files) b ≡ seen_of (watched_reading kind files) d
      → report_of flags b ≡ report_of flags d
  same b d seen = λ i. record {
    errors = (seen i).1.1.0;
    bound = (seen i).0.firmware.instr_bound;
    rows = faults_of (seen i).0.firmware (upset_rows (seen i).0.firmware (seen i).1.1.1.0.1 (seen i).1.1.1.1.0
        (seen i).1.1.1.1.1 flags);
  }

pub srun_settled : ((kind : CertKind) (files : WatchedFiles) → AreExact (watched_reading kind files))
    → FaultlessAnswersAreNear → SpelledBytesFit → AnswersUnderAllUpsets → SrunIsSettled
srun_settled exact near fit law run files =
    settled_report (watched_reading run.kind files) run.flags (WatchedRun run.kind run.flags files) srun_lines
    (report_of run.flags) (exact run.kind files) (given run.kind run.flags files) (same run.kind run.flags files)
    (λ b byte a. watches near fit law run.kind run.flags byte files b.0 b.1.1.0 b.1.1.1.0 b.1.1.1.1.0 b.1.1.1.1.1 a)
