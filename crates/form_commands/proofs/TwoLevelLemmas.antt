-- What a run at two levels gives.
use Rattle.form_commands.proofs.Words.{[], ◌<◌, ◌^◌, ◌∙◌, ◌∷◌, ◌≡◌, ◌≤◌, All, All-cons, All-head, All-nil, All-tail}
use Rattle.form_commands.proofs.Words.{Alone, AnswersAreReported, AnswersItsBlock, AnswersKeepTheBound}
use Rattle.form_commands.proofs.Words.{AnswersUnderPlans, ap, AreAnswersOf, Byte, bytes_of, CertKind, fast_most}
use Rattle.form_commands.proofs.Words.{FastSeen, format_of, GivesFirmware, input_bytes, IsOneOf, length, length-map}
use Rattle.form_commands.proofs.Words.{List, lrun_lines, MailboxAnswersAreNear, map, map-map, of_seen, refl, RowSeen}
use Rattle.form_commands.proofs.Words.{Sample, SpelledBytesFit, subst, sym, two_level_report}
use Rattle.form_commands.proofs.Words.{two_level_seen, TwoLevelFiles, ℕ}
use Rattle.form_commands.proofs.FormLemmas.{settled_report}
use Rattle.form_commands.specs.Lrun.{LrunIsSettled, two_level_run}
use Rattle.alone_runs.specs.Rows.{firmware_rows}
use Rattle.command_parts.proofs.Algebra.{exact_fast}
use Rattle.run_reports.proofs.Algebra.{rows_exact}
use Rattle.command_parts.specs.{Certs.CertsAreExact, Certs.cert_in, Images.ImagesAreExact, Twos.TwosAreExact}
use Rattle.command_parts.specs.Readings.{AreExact, Gives, IsExact, seen_of}
use Rattle.command_parts.specs.declared.twos.CompiledTwoLevel.{CompiledTwoLevel}
use Rattle.interrupt_plan.specs.Levels.{AreGoodLevels, LevelsHaveFault, SpellsLevels}
use Rattle.interrupt_plan.specs.declared.levels.Level.{Level}
use Rattle.interrupt_plan.specs.OneReading.{LevelFaultsAreOne, SpelledLevelsAreOne, SpelledLevelsHaveNoFault}
use Rattle.run_reports.specs.Inputs.{TracesAreExact, trace_in}
use Rattle.run_reports.specs.TwoLevelRun.{TwoLevelReport, TwoLevelRun, fast_numbers, levels_in}
use Rattle.run_reports.specs.TwoLevelRun.{two_level_reading}
use Rattle.two_level_code.specs.Images.{AloneHasByteBounds, slow_alone}
use Rattle.two_level_runs.specs.Order.{LevelsMakeAPlan}
use Rattle.two_level_runs.specs.Answering.{AnswersAtTwoLevels, AnswersUnderLevels, RowsAreSeen, answer_of_fast}
use Rattle.two_level_runs.specs.Answering.{fast_runs, plan_of}

-- numbers of fast runs, one by one
are_each : (n : ℕ) (fs : List FastSeen) → All (λ f. (1 ≤ f.number) × (f.number ≤ n)) fs
    → All (IsOneOf n) (map (λ f. f.number) fs)
are_each n [] each = All-nil (IsOneOf n)
are_each n (f ∷ fs) each =
    let here = All-head (λ (g : FastSeen). (1 ≤ g.number) × (g.number ≤ n)) f fs each in
    All-cons (IsOneOf n) f.number (map (λ (g : FastSeen). g.number) fs) (record { from = here.0; to = here.1 })
    (are_each n fs (All-tail (λ (g : FastSeen). (1 ≤ g.number) × (g.number ≤ n)) f fs each))

-- ---- accepted files have the run of them

module _ (reported : AnswersAreReported) (keep : AnswersKeepTheBound) (fit : SpelledBytesFit)
    (posted : MailboxAnswersAreNear) (plans : AnswersUnderPlans) (plan_made : LevelsMakeAPlan) (seen : RowsAreSeen)
    (law : AnswersUnderLevels) (kind : CertKind) (flags : ℕ) (byte : flags < 2 ^ 8)
    (files : TwoLevelFiles) (c : CompiledTwoLevel) (errors fast_errors : List ℕ) (samples fast_samples : List Sample)
    (levels : List Level) (a : Gives (two_level_reading kind files)
    (c, (tt, (errors, (fast_errors, (samples, (fast_samples, levels))))))) where
  abbrev bytes : List (List ℕ)
  bytes = map input_bytes samples

  abbrev fast_bytes : List (List ℕ)
  fast_bytes = map input_bytes fast_samples

  abbrev report : TwoLevelReport
  report = two_level_run flags c errors fast_errors samples fast_samples levels

  answers : AnswersAtTwoLevels c.slow c.fast c.two flags bytes fast_bytes levels
  answers =
      let s = a.0.slow_is in
      let f = a.0.fast_is in
      let good : AreGoodLevels (length fast_bytes) levels =
      subst (λ (n : ℕ). AreGoodLevels n levels) (sym (length-map fast_samples input_bytes)) a.1.1.1.1.1.1.good in
      law c.two flags bytes fast_bytes levels byte good c.slow c.fast s.spelled.valid s.limits f.spelled.valid f.limits
      a.0.both (fit c.slow files.slow_trace samples a.1.1.1.1.0)
      (fit c.fast files.fast_trace fast_samples a.1.1.1.1.1.0)

  -- the slow rows

  slow_gives : GivesFirmware (Alone Byte) files.slow c.slow (slow_alone c.slow c.two)
  slow_gives =
      let s = a.0.slow_is in
      let alone = a.0.both.alone in
      record { spelled = s.spelled; limits = s.limits; compiled = (alone.firmware, alone.width) }

  abbrev plain : List (RowSeen (List ℕ))
  plain = map (λ r. r.row) report.rows

  plain_is : plain ≡ (firmware_rows (slow_alone c.slow c.two) bytes (plan_of levels) flags).rows
  plain_is = seen c.two bytes fast_bytes levels flags ∙ answers.rows_are

  under : AnswersItsBlock (slow_alone c.slow c.two) flags bytes (plan_of levels) plain
  under =
      let good = plan_made (length fast_samples) levels a.1.1.1.1.1.1.good in
      subst (λ (rs : List (RowSeen (List ℕ))).
      AnswersItsBlock (slow_alone c.slow c.two) flags bytes (plan_of levels) rs) (sym plain_is)
      (plans (slow_alone c.slow c.two) flags bytes (plan_of levels) byte good)

  -- the fast runs

  numbers : All (IsOneOf (length fast_samples)) (fast_numbers report.rows)
  numbers =
      subst (λ (n : ℕ). All (IsOneOf n) (fast_numbers report.rows)) (length-map fast_samples input_bytes)
      (are_each (length fast_bytes) (fast_runs report.rows) answers.fast_numbers)

  of_fast : AreAnswersOf Byte c.fast report.fast_bound (λ o. 0)
      (map (bytes_of fast_bytes) (fast_numbers report.rows)) (map answer_of_fast (fast_runs report.rows))
  of_fast =
      subst (λ (bs : List (List ℕ)). AreAnswersOf Byte c.fast report.fast_bound (λ o. 0) bs
      (map answer_of_fast (fast_runs report.rows)))
      (sym (map-map (bytes_of fast_bytes) (λ (f : FastSeen). f.number) (fast_runs report.rows)))
      answers.fast_answers

  pub levels_run : TwoLevelRun kind flags files report
  levels_run = record {
    slow = c.slow;
    fast = c.fast;
    two = c.two;
    samples = samples;
    fast_samples = fast_samples;
    levels = levels;
    accepts = a;
    ran = refl;
    answers = answers;
    reported = reported Byte flags files.slow c.slow (slow_alone c.slow c.two) a.1.1.0.cert errors files.slow_trace
        samples (plan_of levels) plain slow_gives a.1.1.0.accepted a.1.1.1.1.0 under;
    fast_bound = ap fast_most a.0.both.fast_is.instructions;
    fast_instructions = of_seen (λ q. q.instructions ≤ report.fast_bound) answer_of_fast (fast_runs report.rows)
        (keep Byte c.fast report.fast_bound (λ o. 0) (map (bytes_of fast_bytes) (fast_numbers report.rows))
        (map answer_of_fast (fast_runs report.rows)) of_fast);
    fast_within = posted Byte c.fast report.fast_bound a.1.1.1.0.cert fast_errors files.fast_trace fast_samples
        (fast_numbers report.rows) (map answer_of_fast (fast_runs report.rows)) a.0.fast_is.spelled.valid
        a.1.1.1.1.1.0 numbers of_fast a.1.1.1.0.accepted;
  }

-- ---- what it makes of its files

pub levels_exact : TwosAreExact → ImagesAreExact → CertsAreExact → TracesAreExact → SpelledLevelsAreOne
    → SpelledLevelsHaveNoFault → LevelFaultsAreOne → (kind : CertKind) (files : TwoLevelFiles)
    → AreExact (two_level_reading kind files)
levels_exact twos images certs traces one stand faults kind files = (
  twos files.slow files.fast,
  λ c compiled. (
    images files.image c.two.firmware.image,
    λ held image. (
      certs (format_of kind Byte) c.slow files.slow_cert compiled.slow_is.spelled.valid,
      λ errors accepted. (
        exact_fast (cert_in (format_of kind Byte) c.fast files.fast_cert)
            (certs (format_of kind Byte) c.fast files.fast_cert compiled.fast_is.spelled.valid),
        λ fast_errors fast_accepted. (
          traces c.slow files.slow_trace,
          λ samples in_range. (
            exact_fast (trace_in c.fast files.fast_trace) (traces c.fast files.fast_trace),
            λ fast_samples fast_in_range. over (length fast_samples),
          ),
        ),
      ),
    ),
  ),
)
  where
    over : (n : ℕ) → IsExact (levels_in n files.levels)
    over n = rows_exact (SpellsLevels n files.levels) (LevelsHaveFault n files.levels) (one n files.levels)
        (stand n files.levels) (faults n files.levels)

abbrev Given : Type 0
Given = CompiledTwoLevel × (Unit {0} × (List ℕ × (List ℕ × (List Sample × (List Sample × List Level)))))

abbrev report_of : ℕ → Given → TwoLevelReport
report_of flags (c, (held, (errors, (fast_errors, (samples, (fast_samples, levels)))))) =
    two_level_run flags c errors fast_errors samples fast_samples levels

module _ (kind : CertKind) (flags : ℕ) (files : TwoLevelFiles) where
  given : AloneHasByteBounds → (told : TwoLevelReport) → TwoLevelRun kind flags files told
      → (b : Given) × Gives (two_level_reading kind files) b × (told ≡ report_of flags b)
  given bounds told l =
      let both = l.accepts.0.both in
      let bound : told.bound ≡ l.two.firmware.instr_bound =
      l.reported.bound ∙ sym (bounds l.slow (slow_alone l.slow l.two) both.alone).instructions in
      let fast_bound : told.fast_bound ≡ fast_most l.two.fast.instr_bound =
      l.fast_bound ∙ ap fast_most (sym both.fast_is.instructions) in (
        (
          record { slow = l.slow; fast = l.fast; two = l.two },
          (tt, (told.errors, (told.fast_errors, (l.samples, (l.fast_samples, l.levels))))),
        ),
        l.accepts,
        (λ i. two_level_report told.errors told.fast_errors (bound i) (fast_bound i) (l.ran i)),
      )

  same : (b d : Given) → seen_of (two_level_reading kind files) b ≡ seen_of (two_level_reading kind files) d
      → report_of flags b ≡ report_of flags d
  same b d seen = λ i. (let two = (seen i).0.two in
      two_level_report (seen i).1.1.0 (seen i).1.1.1.0 two.firmware.instr_bound (fast_most two.fast.instr_bound)
      (two_level_seen two (seen i).1.1.1.1.0.1 (seen i).1.1.1.1.1.0.1 (seen i).1.1.1.1.1.1 flags))

pub lrun_settled : ((kind : CertKind) (files : TwoLevelFiles) → AreExact (two_level_reading kind files))
    → AnswersAreReported → AnswersKeepTheBound → SpelledBytesFit → MailboxAnswersAreNear → AnswersUnderPlans
    → LevelsMakeAPlan → RowsAreSeen → AloneHasByteBounds → AnswersUnderLevels → LrunIsSettled
lrun_settled exact reported keep fit posted plans plan_made seen bounds law run files =
    settled_report (two_level_reading run.kind files) run.flags (TwoLevelRun run.kind run.flags files) lrun_lines
    (report_of run.flags) (exact run.kind files) (given run.kind run.flags files bounds)
    (same run.kind run.flags files) (λ b byte a. levels_run reported keep fit posted plans plan_made seen
    law run.kind run.flags byte files b.0 b.1.1.0 b.1.1.1.0 b.1.1.1.1.0 b.1.1.1.1.1.0 b.1.1.1.1.1.1 a)
