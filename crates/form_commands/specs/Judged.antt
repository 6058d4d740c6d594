-- What contents make of each command: an output or a refusal.
-- Beside the promise.
use Rattle.std.specs.Prelude.{◌<◌, ◌≤◌, ◌^◌, length}
use Rattle.command_parts.specs.Judged.{HasResult}
use Rattle.form_commands.specs.{Hrun.HrunMakes, Lrun.LrunMakes, Mrun.MrunMakes, Srun.SrunMakes}
use Rattle.form_commands.specs.declared.form_run.FormRun.{FormRun}
use Rattle.run_reports.specs.declared.{files.HandledFiles.HandledFiles, files.TwoLevelFiles.TwoLevelFiles}
use Rattle.run_reports.specs.declared.{files.MailboxFiles.MailboxFiles, files.WatchedFiles.WatchedFiles}

-- where FCL has at most 1048576 bytes
abbrev pub HrunIsJudged : Type 0
HrunIsJudged =
    (run : FormRun) (files : HandledFiles) → run.flags < 2 ^ 8 → length files.fcl ≤ 1048576
    → HasResult (HrunMakes run files)

abbrev pub MrunIsJudged : Type 0
MrunIsJudged =
    (run : FormRun) (files : MailboxFiles) → run.flags < 2 ^ 8 → length files.fcl ≤ 1048576
    → HasResult (MrunMakes run files)

abbrev pub SrunIsJudged : Type 0
SrunIsJudged =
    (run : FormRun) (files : WatchedFiles) → run.flags < 2 ^ 8 → length files.fcl ≤ 1048576
    → HasResult (SrunMakes run files)

abbrev pub LrunIsJudged : Type 0
LrunIsJudged =
    (run : FormRun) (files : TwoLevelFiles) → run.flags < 2 ^ 8 → length files.slow ≤ 1048576
    → length files.fast ≤ 1048576 → HasResult (LrunMakes run files)
