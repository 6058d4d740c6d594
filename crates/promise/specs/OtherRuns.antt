-- What the machine does that `gen`, `debug`, `hrun`, `lrun`, `mrun` and `srun` tell of.
-- Beside the promise.
use Rattle.std.specs.Prelude.{◌≡◌, ◌<◌, ◌^◌, ℕ, List, [], length, map}
use Rattle.box_tree.specs.declared.cert.CertKind.{CertKind}
use Rattle.byte_scaling.specs.declared.width.Width.TheVariants.{Byte}
use Rattle.command_parts.specs.SeenOutputs.{SeenOutput}
use Rattle.trace_io.specs.Traces.{input_bytes}
use Rattle.alone_runs.specs.Rows.{first_state}
use Rattle.handled_runs.specs.Forms.{first_handled, with_code}
use Rattle.mailbox_runs.specs.{Answering.run_of_turns, Runs.run_under_posts, Runs.steps_of, Turns.AreTurns, Turns.Turn}
use Rattle.two_level_code.specs.Images.{slow_alone}
use Rattle.two_level_runs.specs.{Answering.plan_of, Rows.first_two, Rows.two_level_form, Rows.levels_of, Rows.two_rows}
use Rattle.run_commands.specs.declared.debug.DebugFiles.{DebugFiles}
use Rattle.run_commands.specs.{Debug.DebugGives, Generate.GenerateGives}
use Rattle.run_commands.specs.declared.debug.DebugRun.{DebugRun}
use Rattle.run_reports.specs.HandledRun.{HandledReport, HandledRun}
use Rattle.run_reports.specs.TwoLevelRun.{TwoLevelReport, TwoLevelRun}
use Rattle.run_reports.specs.MailboxRun.{MailboxReport, MailboxRun, run_of}
use Rattle.run_reports.specs.WatchedRun.{WatchedReport, WatchedRun}
use Rattle.run_reports.specs.declared.{files.HandledFiles.HandledFiles, files.TwoLevelFiles.TwoLevelFiles}
use Rattle.run_reports.specs.declared.{files.MailboxFiles.MailboxFiles, files.WatchedFiles.WatchedFiles}
use Rattle.cpu12_parts.specs.State.{State}
use Rattle.run_law.specs.Forms.{RowSeen}
use Rattle.watched_code.specs.Watched.{Watched}
use Rattle.watched_runs.specs.{Forms.watched_form, Rows.fault_seen, Samples.with_upsets}
use Rattle.promise.specs.{Bench.AreReadOff, Bench.IsFirstAtLoop, Bench.IsRunOf, Bench.requests_in, Promise.Serves}
use Rattle.promise.specs.{FastRuns.AllLevelsServe, Turns.TurnsEnd}

abbrev pub GeneratedServes : (number : ℕ) (output : SeenOutput) → GenerateGives number output → Type 0
GeneratedServes number output g =
    Serves Byte (length g.block.outputs) 0 g.firmware.image (map input_bytes g.samples) g.requests g.report.rows

abbrev pub GeneratedRunsServe : Type 0
GeneratedRunsServe = (number : ℕ) (output : SeenOutput) (g : GenerateGives number output)
    → GeneratedServes number output g

-- the rows are those of listed writes, and those of the machine in which the handler's code runs
pub record HandledServes (kind : CertKind) (flags : ℕ) (files : HandledFiles) (report : HandledReport)
    (h : HandledRun kind flags files report) : Type 0 where
  pub serves : Serves Byte (length h.block.outputs) flags h.firmware.image (map input_bytes h.samples) h.plan
      (map (λ row. row.row) report.rows)
  pub last : State
  pub ran : IsRunOf (with_code flags h.firmware) (requests_in h.plan) (map input_bytes h.samples)
      (first_handled h.firmware h.handler.bytes flags) (map (λ row. row.row) report.rows) last

abbrev pub HandledRunsServe : Type 0
HandledRunsServe = (kind : CertKind) (flags : ℕ) (files : HandledFiles) (report : HandledReport)
    (h : HandledRun kind flags files report)
    → flags < 2 ^ 8 → HandledServes kind flags files report h

-- the slow rows are those of the slow firmware alone, and those of the machine in which fast runs stand in interrupts;
-- and each fast run is read off its own without inner requests
pub record SlowServes (kind : CertKind) (flags : ℕ) (files : TwoLevelFiles) (report : TwoLevelReport)
    (l : TwoLevelRun kind flags files report) : Type 0 where
  pub serves : Serves Byte (length l.slow.outputs) flags (slow_alone l.slow l.two).image
      (map input_bytes l.samples) (plan_of l.levels) (map (λ row. row.row) report.rows)
  pub last : State
  pub ran : IsRunOf (two_level_form flags l.two (map input_bytes l.fast_samples)) (λ k. levels_of k l.levels)
      (map input_bytes l.samples) (first_two l.two flags) (map (λ row. row.row) report.rows) last
  pub fast :
      (let all = two_rows l.two (map input_bytes l.samples) (map input_bytes l.fast_samples) l.levels flags in
      AllLevelsServe l.fast l.two flags (map input_bytes l.fast_samples) all.told (map (λ row. row.steps) all.rows)
      (map input_bytes l.samples) (first_state (slow_alone l.slow l.two) flags))

abbrev pub SlowRunsServe : Type 0
SlowRunsServe = (kind : CertKind) (flags : ℕ) (files : TwoLevelFiles) (report : TwoLevelReport)
    (l : TwoLevelRun kind flags files report)
    → flags < 2 ^ 8 → SlowServes kind flags files report l

-- the rows, before FAULT is taken from the answers, are those of the machine in which the tables are upset, and are
-- read off its run without interrupts
pub record WatchedServes (kind : CertKind) (flags : ℕ) (files : WatchedFiles) (report : WatchedReport)
    (w : WatchedRun kind flags files report) : Type 0 where
  pub rows : List (RowSeen Watched)
  pub seen : report.rows ≡ map (fault_seen w.firmware.outputs) rows
  pub last : State
  pub ran : IsRunOf (watched_form flags w.firmware) (requests_in w.plan)
      (with_upsets w.upsets (map input_bytes w.samples)) (first_state w.firmware flags) rows last
  pub without : AreReadOff (watched_form flags w.firmware) (requests_in w.plan) 1
      (with_upsets w.upsets (map input_bytes w.samples)) rows (first_state w.firmware flags)

abbrev pub WatchedRunsServe : Type 0
WatchedRunsServe = (kind : CertKind) (flags : ℕ) (files : WatchedFiles) (report : WatchedReport)
    (w : WatchedRun kind flags files report)
    → WatchedServes kind flags files report w

-- The run is the machine's under posts, from its first state at LOOP, and it is read off its turns without posts: each
-- begins where the one before ended, with its sample in the mailbox where it answers one.
pub record MailboxServes (kind : CertKind) (flags : ℕ) (files : MailboxFiles) (report : MailboxReport)
    (p : MailboxRun kind flags files report) : Type 0 where
  pub ran : run_of report ≡ run_under_posts p.firmware (map input_bytes p.samples) p.posts flags
  pub first : State
  pub waits : IsFirstAtLoop flags p.firmware.image first
  pub turns : List Turn
  pub turns_are : AreTurns p.firmware.inputs (steps_of flags p.firmware (map input_bytes p.samples)) 0 0 [] p.posts
      turns
  pub ends : TurnsEnd flags p.firmware (map input_bytes p.samples) turns first
  pub without : run_of report ≡ run_of_turns flags p.firmware (map input_bytes p.samples) turns first

abbrev pub MailboxRunsServe : Type 0
MailboxRunsServe = (kind : CertKind) (flags : ℕ) (files : MailboxFiles) (report : MailboxReport)
    (p : MailboxRun kind flags files report)
    → flags < 2 ^ 8 → MailboxServes kind flags files report p

abbrev pub DebuggedServes : (debug : DebugRun) (files : DebugFiles) (output : SeenOutput)
    → DebugGives debug files output → Type 0
DebuggedServes debug files output d =
    Serves Byte (length d.block.outputs) debug.flags d.firmware.image (map input_bytes d.samples) d.plan d.rows

abbrev pub DebuggedRunsServe : Type 0
DebuggedRunsServe = (debug : DebugRun) (files : DebugFiles) (output : SeenOutput) (d : DebugGives debug files output)
    → debug.flags < 2 ^ 8 → DebuggedServes debug files output d

pub record OtherRunsServe : Type 0 where
  pub debugged : DebuggedRunsServe
  pub generated : GeneratedRunsServe
  pub handled : HandledRunsServe
  pub posted : MailboxRunsServe
  pub slow : SlowRunsServe
  pub watched : WatchedRunsServe
