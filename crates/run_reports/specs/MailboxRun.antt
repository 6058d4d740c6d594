-- The run of a mailbox firmware under posts: what the program's answer to `mrun` and `tmrun` says.
-- Beside the promise.
use Rattle.std.specs.Prelude.{◌≡◌, ◌≢◌, ℕ, ◌≤◌, true, List, [], ◌∷◌, ◌++◌, All, map}
use Rattle.fuzzy_meaning.specs.declared.block.Block.{Block}
use Rattle.cpu12_emul.specs.Take.{FrameSeen}
use Rattle.firmware_code.specs.declared.firmware.Firmware.{Firmware}
use Rattle.mailbox_code.specs.Mailboxes.{mailbox_bound}
use Rattle.box_tree.specs.declared.cert.CertKind.{CertKind}
use Rattle.box_tree.specs.Texts.{format_of}
use Rattle.byte_scaling.specs.declared.width.Width.TheVariants.{Byte}
use Rattle.trace_io.specs.declared.sample.Sample.{Sample}
use Rattle.interrupt_plan.specs.{Posts.PostsHaveFault, Posts.SpellsPosts, declared.Post.Post}
use Rattle.trace_io.specs.Traces.{input_bytes}
use Rattle.mailbox_runs.specs.{Answering.AnswersUnderPosts, Answering.answer_in, Turns.waiting}
use Rattle.mailbox_runs.specs.Runs.{AnswerSeen, RunSeen, run_under_posts}
use Rattle.run_reports.specs.{Posted.ArePostedWithinErrors, declared.files.MailboxFiles.MailboxFiles}
use Rattle.command_parts.specs.{Certs.cert_in, Firmwares.firmware_in, Images.image_in}
use Rattle.command_parts.specs.Readings.{Gives, Reading, Stage, last, ◌then◌}
use Rattle.run_reports.specs.Inputs.{rows_in, trace_in}
use Rattle.command_parts.specs.declared.firmware.{Compiled.Compiled, Form.TheVariants.Mailbox}

-- what is told of a run: an error for each output, in millionths of its range, the bound on instructions, the answers,
-- the frames with their boundaries, and at how many boundaries inside an instruction an interrupt was taken
pub record MailboxReport : Type 0 where
  pub errors : List ℕ
  pub bound : ℕ
  pub answers : List AnswerSeen
  pub frames : List (ℕ × FrameSeen)
  pub resumed : ℕ

-- its run, which came to its end
abbrev pub run_of : MailboxReport → RunSeen
run_of r = record { arrived = true; answers = r.answers; frames = r.frames; resumed = r.resumed }

-- the samples that are answered, by their numbers
abbrev pub answered_samples : MailboxReport → List ℕ
answered_samples r = map (λ a. a.sample) r.answers

-- the posts of so many samples
abbrev pub posts_in : ℕ → List ℕ → Stage (List Post)
posts_in samples text = rows_in (SpellsPosts samples text) (PostsHaveFault samples text)

-- FCL's firmware in the mailbox form, IMAGE of this firmware, CERT, TRACE, and POSTS of its samples
abbrev pub mailbox_reading : CertKind → MailboxFiles
    → Reading (Compiled × (Unit {0} × (List ℕ × (List Sample × List Post))))
mailbox_reading kind files =
    firmware_in Mailbox files.fcl then λ c.
    image_in files.image c.firmware.image then λ held.
    cert_in (format_of kind Byte) c.block files.cert then λ errors.
    trace_in c.block files.trace then λ (samples, bytes).
    last (posts_in samples files.posts)

-- all are accepted, and give this
abbrev pub AcceptsMailbox : CertKind → MailboxFiles → Block → Firmware → List ℕ → List Sample → List Post → Type 0
AcceptsMailbox kind files block firmware errors samples posts =
    Gives (mailbox_reading kind files)
    (record { block = block; firmware = firmware }, (tt, (errors, (samples, posts))))

-- Compile accepts the FCL text, IMAGE holds exactly the image of its firmware in the mailbox form, the checker accepts
-- the certificate, the trace spells samples within their inputs' ranges, and POSTS posts of these samples that write
-- only free bytes besides. The report is of the firmware's run under the posts: the run is that of its turns, each of
-- which answers a whole sample as without interrupts, by the block over bytes, in at most the printed number of
-- instructions; the sample that is posted last is answered last; and each answer is within the printed error of FCL's
-- exact fraction of the samples that were answered up to it.
pub record MailboxRun (kind : CertKind) (flags : ℕ) (files : MailboxFiles) (report : MailboxReport) : Type 0 where
  pub block : Block
  pub firmware : Firmware
  pub samples : List Sample
  pub posts : List Post
  pub accepts : AcceptsMailbox kind files block firmware report.errors samples posts
  pub ran : run_of report ≡ run_under_posts firmware (map input_bytes samples) posts flags
  pub follows : AnswersUnderPosts block firmware flags (map input_bytes samples) posts (run_of report)
  pub last : waiting 0 posts ≢ 0
      → (before : List ℕ) × (answered_samples report ≡ before ++ waiting 0 posts ∷ [])
  pub bound : report.bound ≡ mailbox_bound Byte block
  pub instructions : All (λ a. a.instrs ≤ report.bound) report.answers
  pub within : ArePostedWithinErrors 1 block report.errors samples (answered_samples report)
      (map answer_in report.answers)
