-- What a run under posts gives.
use Rattle.form_commands.proofs.Words.{[], ◌++◌, ◌+◌, ◌-◌, ◌∙◌, ◌∷◌, ◌≡◌, ◌≤◌, All, All-cons, All-head}
use Rattle.form_commands.proofs.Words.{All-tail, AnswersKeepTheBound, ap, ap₂, AreAnswersOf}
use Rattle.form_commands.proofs.Words.{arith, Byte, bytes_of}
use Rattle.form_commands.proofs.Words.{CertKind, Compiled, Firmware, format_of}
use Rattle.form_commands.proofs.Words.{input_bytes, IsOneOf, length, length-map, List}
use Rattle.form_commands.proofs.Words.{◌<◌, ◌^◌, Mailbox, mailbox_bound, map, mrun_lines, of_seen}
use Rattle.form_commands.proofs.Words.{mailbox_report, MailboxAnswersAreNear, MailboxFiles, refl, run_of}
use Rattle.form_commands.proofs.Words.{run_under_posts, Sample, SpelledBytesFit, subst, sym}
use Rattle.form_commands.proofs.Words.{true, ℕ}
use Rattle.form_commands.proofs.FormLemmas.{settled_report}
use Rattle.form_commands.specs.Mrun.{MrunIsSettled, mailbox_run}
use Rattle.mailbox_runs.specs.Runs.{AnswerSeen, RunSeen, arrival, steps_of}
use Rattle.run_reports.specs.MailboxRun.{MailboxReport, MailboxRun, answered_samples, mailbox_reading}
use Rattle.run_reports.specs.MailboxRun.{posts_in}
use Rattle.run_reports.specs.Inputs.{TracesAreExact}
use Rattle.run_reports.proofs.Algebra.{rows_exact}
use Rattle.command_parts.specs.{Certs.CertsAreExact, Firmwares.FirmwaresAreExact, Images.ImagesAreExact}
use Rattle.command_parts.specs.Readings.{AreExact, Gives, IsExact, seen_of}
use Rattle.std.proofs.{Common.◌≢◌, Common.Bool, Common.false}
use Rattle.std.specs.{Prelude.if◌then◌else◌, Prelude.nat_le, Prelude.◌==◌}
use Rattle.byte_scaling.specs.declared.width.Width.{Width}
use Rattle.std.proofs.lemmas.Bool.Decides.{nat_tests}
use Rattle.cpu12_parts.specs.State.{State}
use Rattle.interrupt_plan.specs.{Posts.AreGoodPosts, Posts.PostsHaveFault, Posts.SpellsPosts, declared.Post.Post}
use Rattle.interrupt_plan.specs.OneReading.{PostFaultsAreOne, SpelledPostsAreOne, SpelledPostsHaveNoFault}
use Rattle.mailbox_runs.specs.Answering.{AnswersUnderAllPosts, AnswersUnderPosts, answer_in, ended, run_of_turns}
use Rattle.mailbox_runs.specs.Turns.{AreTurns, LastIsAnswered, Turn, behind, over, idle, answers, samples_of, up_to}
use Rattle.mailbox_runs.specs.Turns.{waiting}

-- ---- the samples that turns answer are among those that are posted

module _ (m : ℕ) where
  abbrev IsOf : Post → Type 0
  IsOf p = p.sample ≤ m

  up_to_of : (g : ℕ) (ps : List Post) → All IsOf ps → All IsOf (up_to g ps)
  up_to_of g [] each = each
  up_to_of g (p ∷ ps) each = go (nat_le p.moment g) (up_to_of g ps (All-tail IsOf p ps each))
    where
      go : (b : Bool) → All IsOf (up_to g ps) → All IsOf (if b then p ∷ up_to g ps else [])
      go true rest = All-cons IsOf p (up_to g ps) (All-head IsOf p ps each) rest
      go false rest = λ d k lt. absurd (omega arith)

  behind_of : (g : ℕ) (ps : List Post) → All IsOf ps → All IsOf (behind g ps)
  behind_of g [] each = each
  behind_of g (p ∷ ps) each = go (nat_le p.moment g) (behind_of g ps (All-tail IsOf p ps each))
    where
      go : (b : Bool) → All IsOf (behind g ps) → All IsOf (if b then behind g ps else p ∷ ps)
      go true rest = rest
      go false rest = each

  waiting_of : (w : ℕ) (ps : List Post) → w ≤ m → All IsOf ps → waiting w ps ≤ m
  waiting_of w [] one each = one
  waiting_of w (p ∷ ps) one each =
      waiting_of (if p.sample == 0 then w else p.sample) ps (go (p.sample == 0)) (All-tail IsOf p ps each)
    where
      go : (b : Bool) → (if b then w else p.sample) ≤ m
      go true = one
      go false = All-head IsOf p ps each

  -- a turn's sample, where it has one, beside those of the turns behind it
  with_sample : (k : ℕ) (ks : List ℕ) → k ≤ m → All (IsOneOf m) ks → All (IsOneOf m) (if k == 0 then ks else k ∷ ks)
  with_sample k ks to rest = go (k == 0) refl
    where
      go : (b : Bool) → (k == 0) ≡ b → All (IsOneOf m) (if b then ks else k ∷ ks)
      go true is = rest
      go false is = All-cons (IsOneOf m) k ks (record { from = grind (arith, nat_tests); to = to }) rest

  pub answered_of : (n : ℕ) (steps : List ℕ → ℕ) (g w : ℕ) (done : List ℕ) (posts : List Post) (turns : List Turn)
      → AreTurns n steps g w done posts turns → w ≤ m → All IsOf posts → All (IsOneOf m) (samples_of turns)
  answered_of n steps _ _ _ _ _ (over g w done posts turns none left is) one each =
      subst (λ (ts : List Turn). All (IsOneOf m) (samples_of ts)) (sym is) (λ d k lt. absurd (omega arith))
  answered_of n steps _ _ _ _ _ (idle g w done posts turns later none left rest is) one each =
      subst (λ (ts : List Turn). All (IsOneOf m) (samples_of ts)) (sym is)
      (answered_of n steps (g + 2) (waiting w (up_to (g + 1) posts)) done (behind (g + 1) posts) later rest
      (waiting_of w (up_to (g + 1) posts) one (up_to_of (g + 1) posts each)) (behind_of (g + 1) posts each))
  answered_of n steps _ _ _ _ _ (answers g w done posts turns later s end some s_is end_is rest is) one each =
      let left = behind (g + 2) posts in
      let left_of = behind_of (g + 2) posts each in
      let own : s ≤ m =
      subst (λ (k : ℕ). k ≤ m) (sym s_is) (waiting_of w (up_to (g + 2) posts) one (up_to_of (g + 2) posts each)) in
      subst (λ (ts : List Turn). All (IsOneOf m) (samples_of ts)) (sym is)
      (with_sample s (samples_of later) own
      (answered_of n steps end (waiting 0 (up_to (end - 1) left)) (done ++ s ∷ []) (behind (end - 1) left) later rest
      (waiting_of 0 (up_to (end - 1) left) (omega arith) (up_to_of (end - 1) left left_of))
      (behind_of (end - 1) left left_of)))

-- ---- a run by its turns

with_answer : (b : Bool) (x : AnswerSeen) (later : List AnswerSeen) (k : ℕ) (ks : List ℕ) → x.sample ≡ k
    → map (λ a. a.sample) later ≡ ks
    → map (λ a. a.sample) ((if b then [] else x ∷ []) ++ later) ≡ (if b then ks else k ∷ ks)
with_answer true x later k ks own rest = rest
with_answer false x later k ks own rest = ap₂ (λ (n : ℕ) (ns : List ℕ). n ∷ ns) own rest

module _ (flags : ℕ) (f : Firmware) (bytes : List (List ℕ)) where
  comes_to_end : (ts : List Turn) (s : State) → (run_of_turns flags f bytes ts s).arrived ≡ true
  comes_to_end [] s = refl
  comes_to_end (t ∷ ts) s = comes_to_end ts (ended flags f bytes t s)

  -- its answers are those to the turns' samples
  answers_turns : (ts : List Turn) (s : State)
      → map (λ a. a.sample) (run_of_turns flags f bytes ts s).answers ≡ samples_of ts
  answers_turns [] s = refl
  answers_turns (t ∷ ts) s =
      with_answer (t.sample == 0) _ (run_of_turns flags f bytes ts (ended flags f bytes t s)).answers t.sample
      (samples_of ts) refl (answers_turns ts (ended flags f bytes t s))

-- accepted files have the run of them
module _ (keep : AnswersKeepTheBound) (fit : SpelledBytesFit) (near : MailboxAnswersAreNear) (lasts : LastIsAnswered)
    (law : AnswersUnderAllPosts) (kind : CertKind) (flags : ℕ) (byte : flags < 2 ^ 8) (files : MailboxFiles)
    (c : Compiled) (errors : List ℕ) (samples : List Sample) (posts : List Post)
    (a : Gives (mailbox_reading kind files) (c, (tt, (errors, (samples, posts))))) where
  abbrev bytes : List (List ℕ)
  bytes = map input_bytes samples

  abbrev report : MailboxReport
  report = mailbox_run flags c errors samples posts

  defined : AnswersUnderPosts c.block c.firmware flags bytes posts (run_under_posts c.firmware bytes posts flags)
  defined =
      let good : AreGoodPosts (length bytes) posts =
      subst (λ (n : ℕ). AreGoodPosts n posts) (sym (length-map samples input_bytes)) a.1.1.1.1.good in
      law c.firmware flags bytes posts byte good c.block a.0.spelled.valid a.0.limits a.0.compiled.0
      (fit c.block files.trace samples a.1.1.1.0)

  ran : run_of report ≡ run_under_posts c.firmware bytes posts flags
  ran =
      let run = run_under_posts c.firmware bytes posts flags in
      let arrived : run.arrived ≡ true =
      ap (λ (r : RunSeen). r.arrived) defined.run_is
      ∙ comes_to_end flags c.firmware bytes defined.turns (arrival c.firmware bytes flags).state in
      (λ i. record {
        arrived = (sym arrived) i;
        answers = run.answers;
        frames = run.frames;
        resumed = run.resumed;
      })

  under : AnswersUnderPosts c.block c.firmware flags bytes posts (run_of report)
  under = subst (λ (r : RunSeen). AnswersUnderPosts c.block c.firmware flags bytes posts r) (sym ran) defined

  width : c.firmware.width ≡ Byte
  width = a.0.compiled.1

  of_turns : answered_samples report ≡ samples_of under.turns
  of_turns =
      ap (λ (r : RunSeen). map (λ (x : AnswerSeen). x.sample) r.answers) under.run_is
      ∙ answers_turns flags c.firmware bytes under.turns (arrival c.firmware bytes flags).state

  last : waiting 0 posts ≢ 0 → (before : List ℕ) × (answered_samples report ≡ before ++ waiting 0 posts ∷ [])
  last some =
      let at_end = lasts c.firmware.inputs (steps_of flags c.firmware bytes) 0 0 [] posts under.turns
      under.turns_are some in
      (at_end.0, of_turns ∙ at_end.1)

  of_block : AreAnswersOf Byte c.block report.bound (λ o. 0) (map (bytes_of bytes) (answered_samples report))
      (map answer_in report.answers)
  of_block =
      subst (λ (ks : List ℕ). AreAnswersOf Byte c.block report.bound (λ o. 0) (map (bytes_of bytes) ks)
      (map answer_in report.answers)) (sym of_turns)
      (subst (λ (w : Width). AreAnswersOf w c.block report.bound (λ o. 0)
      (map (bytes_of bytes) (samples_of under.turns)) (map answer_in report.answers)) width under.of_block)

  posted : All (IsOneOf (length samples)) (answered_samples report)
  posted =
      let good = a.1.1.1.1.good.posts_are in
      subst (λ (ks : List ℕ). All (IsOneOf (length samples)) ks) (sym of_turns)
      (answered_of (length samples) c.firmware.inputs (steps_of flags c.firmware bytes) 0 0 [] posts under.turns
      under.turns_are (omega arith) (λ d k lt. (good d k lt).sample_to))

  pub posts_run : MailboxRun kind flags files report
  posts_run = record {
    block = c.block;
    firmware = c.firmware;
    samples = samples;
    posts = posts;
    accepts = a;
    ran = ran;
    follows = under;
    last = last;
    bound = a.0.compiled.0.instructions ∙ ap (λ (w : Width). mailbox_bound w c.block) width;
    instructions = of_seen (λ q. q.instructions ≤ report.bound) answer_in report.answers
        (keep Byte c.block report.bound (λ o. 0) (map (bytes_of bytes) (answered_samples report))
        (map answer_in report.answers) of_block);
    within = near Byte c.block report.bound a.1.1.0.cert errors files.trace samples (answered_samples report)
        (map answer_in report.answers) a.0.spelled.valid a.1.1.1.0 posted of_block a.1.1.0.accepted;
  }

-- ---- what it makes of its files

pub mailbox_exact : FirmwaresAreExact → ImagesAreExact → CertsAreExact → TracesAreExact → SpelledPostsAreOne
    → SpelledPostsHaveNoFault → PostFaultsAreOne → (kind : CertKind) (files : MailboxFiles)
    → AreExact (mailbox_reading kind files)
mailbox_exact firmwares images certs traces one stand faults kind files = (
  firmwares Mailbox files.fcl,
  λ c compiled. (
    images files.image c.firmware.image,
    λ held image. (
      certs (format_of kind Byte) c.block files.cert compiled.spelled.valid,
      λ errors accepted. (traces c.block files.trace, λ samples in_range. posts (length samples)),
    ),
  ),
)
  where
    posts : (n : ℕ) → IsExact (posts_in n files.posts)
    posts n = rows_exact (SpellsPosts n files.posts) (PostsHaveFault n files.posts) (one n files.posts)
        (stand n files.posts) (faults n files.posts)

abbrev Given : Type 0
Given = Compiled × (Unit {0} × (List ℕ × (List Sample × List Post)))

abbrev report_of : ℕ → Given → MailboxReport
report_of flags (c, (held, (errors, (samples, posts)))) = mailbox_run flags c errors samples posts

module _ (kind : CertKind) (flags : ℕ) (files : MailboxFiles) where
  given : (told : MailboxReport) → MailboxRun kind flags files told
      → (b : Given) × Gives (mailbox_reading kind files) b × (told ≡ report_of flags b)
  given told p =
      let alone = p.accepts.0.compiled in
      let bound : told.bound ≡ p.firmware.instr_bound =
      p.bound ∙ ap (λ w. mailbox_bound w p.block) (sym alone.1) ∙ sym alone.0.instructions in (
        (record { block = p.block; firmware = p.firmware }, (tt, (told.errors, (p.samples, p.posts)))),
        p.accepts,
        (λ i. mailbox_report told.errors (bound i) (p.ran i).answers (p.ran i).frames (p.ran i).resumed),
      )

  same : (b d : Given) → seen_of (mailbox_reading kind files) b ≡ seen_of (mailbox_reading kind files) d
      → report_of flags b ≡ report_of flags d
  same b d seen = λ i. (let c = (seen i).0 in
      let run = run_under_posts c.firmware (seen i).1.1.1.0.1 (seen i).1.1.1.1 flags in
      mailbox_report (seen i).1.1.0 c.firmware.instr_bound run.answers run.frames run.resumed)

pub mrun_settled : ((kind : CertKind) (files : MailboxFiles) → AreExact (mailbox_reading kind files))
    → AnswersKeepTheBound → SpelledBytesFit → MailboxAnswersAreNear → LastIsAnswered → AnswersUnderAllPosts
    → MrunIsSettled
mrun_settled exact keep fit near lasts law run files =
    settled_report (mailbox_reading run.kind files) run.flags (MailboxRun run.kind run.flags files) mrun_lines
    (report_of run.flags) (exact run.kind files) (given run.kind run.flags files) (same run.kind run.flags files)
    (λ b byte a. posts_run keep fit near lasts law run.kind run.flags byte files b.0 b.1.1.0 b.1.1.1.0 b.1.1.1.1 a)
