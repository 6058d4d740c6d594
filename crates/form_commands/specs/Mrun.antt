-- The commands `mrun FCL IMAGE CERT TRACE POSTS FLAGS`, and `tmrun ..` under tight certificates.
-- Beside the promise.
use Rattle.std.specs.Prelude.{ℕ, List, [], ◌∷◌, ◌++◌, codes, decimal, map, Result}
use Rattle.command_parts.specs.{Contents.content_at, Lines.counted, Lines.line, SeenOutputs.SeenOutput}
use Rattle.command_parts.specs.declared.firmware.Compiled.{Compiled}
use Rattle.cpu12_emul.specs.Take.{FrameSeen}
use Rattle.fz_shelf.specs.Parts.{ended}
use Rattle.fz_status.specs.declared.status.Status.{Status}
use Rattle.interrupt_plan.specs.declared.Post.{Post}
use Rattle.mailbox_runs.specs.Runs.{AnswerSeen, run_under_posts}
use Rattle.run_reports.specs.MailboxRun.{MailboxReport, MailboxRun, mailbox_reading}
use Rattle.run_reports.specs.RowLines.{answered, begun_lines, frame_told}
use Rattle.run_reports.specs.declared.files.MailboxFiles.{MailboxFiles}
use Rattle.trace_io.specs.{Traces.input_bytes, declared.sample.Sample.Sample}
use Rattle.form_commands.specs.Forms.{AreSettled, made_by}
use Rattle.form_commands.specs.declared.form_run.FormRun.{FormRun}

-- FCL, IMAGE, CERT, TRACE and POSTS
abbrev pub mrun_inputs : List ℕ
mrun_inputs = 2 ∷ 3 ∷ 4 ∷ 5 ∷ 6 ∷ []

abbrev pub mailbox_files : List (List ℕ) → MailboxFiles
mailbox_files contents = record {
  fcl = content_at contents 0;
  image = content_at contents 1;
  cert = content_at contents 2;
  trace = content_at contents 3;
  posts = content_at contents 4;
}

-- ---- its lines

-- the line of the k-th answer: its sample, the boundary where its turn ends, and what `run` tells of a sample up to its
-- instructions
abbrev pub answer_line : ℕ → AnswerSeen → List ℕ
answer_line k a = ended (codes "answer " ++ (decimal k ++ (codes " sample " ++ (decimal a.sample
    ++ (codes " at " ++ (decimal a.at ++ answered a.bytes a.values a.instrs))))))

-- the line of a frame, as `run` has it without a sample
abbrev pub taken_line : ℕ × FrameSeen → List ℕ
taken_line f = ended (codes "frame " ++ frame_told f)

abbrev pub mailbox_report : List ℕ → ℕ → List AnswerSeen → List (ℕ × FrameSeen) → ℕ → MailboxReport
mailbox_report errors bound answers frames resumed = record {
  errors = errors;
  bound = bound;
  answers = answers;
  frames = frames;
  resumed = resumed;
}

-- the errors and the bound on instructions, each answer, each frame, and the number of resumed boundaries
abbrev pub mrun_lines : MailboxReport → List (List ℕ)
mrun_lines r = begun_lines r.errors r.bound ++ (counted (λ k a. answer_line k a ∷ []) 1 r.answers
    ++ (map taken_line r.frames ++ line (codes "resumed ") r.resumed ∷ []))

-- ---- what it makes of its files

-- the report of the run of what the files give
abbrev pub mailbox_run : ℕ → Compiled → List ℕ → List Sample → List Post → MailboxReport
mailbox_run flags c errors samples posts =
    let run = run_under_posts c.firmware (map input_bytes samples) posts flags in
    mailbox_report errors c.firmware.instr_bound run.answers run.frames run.resumed

abbrev pub MrunMakes : FormRun → MailboxFiles → Result SeenOutput Status → Type 0
MrunMakes = made_by mailbox_reading MailboxRun mrun_lines

abbrev pub MrunIsSettled : Type 0
MrunIsSettled = AreSettled mailbox_reading MailboxRun mrun_lines
    (λ flags b. mailbox_run flags b.0 b.1.1.0 b.1.1.1.0 b.1.1.1.1)
