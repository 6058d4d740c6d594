-- The files of runs give something or are refused.
-- Beside the promise.
use Rattle.std.specs.Prelude.{◌≤◌, ℕ, List, length}
use Rattle.box_tree.specs.declared.{cert.CertFormat.CertFormat, cert.CertKind.CertKind}
use Rattle.command_parts.specs.Judged.{AreJudged, IsJudged}
use Rattle.fuzzy_meaning.specs.declared.block.Block.{Block}
use Rattle.run_reports.specs.{CertifiedRun.run_reading, HandledRun.handled_reading, TwoLevelRun.two_level_reading}
use Rattle.run_reports.specs.{Inputs.plan_in, Inputs.trace_in, MailboxRun.mailbox_reading, WatchedRun.watched_reading}
use Rattle.run_reports.specs.declared.{files.HandledFiles.HandledFiles, files.TwoLevelFiles.TwoLevelFiles}
use Rattle.run_reports.specs.declared.{files.MailboxFiles.MailboxFiles, files.RunFiles.RunFiles}
use Rattle.run_reports.specs.declared.{files.WatchedFiles.WatchedFiles}

abbrev pub TracesAreJudged : Type 0
TracesAreJudged = (block : Block) (text : List ℕ) → IsJudged (trace_in block text)

abbrev pub PlansAreJudged : Type 0
PlansAreJudged = (text : List ℕ) → IsJudged (plan_in text)

-- each file of a run, where FCL has at most 1048576 bytes
abbrev pub RunFilesAreJudged : Type 0
RunFilesAreJudged =
    (format : CertFormat) (files : RunFiles) → length files.fcl ≤ 1048576 → AreJudged (run_reading format files)

abbrev pub HandledFilesAreJudged : Type 0
HandledFilesAreJudged =
    (kind : CertKind) (files : HandledFiles) → length files.fcl ≤ 1048576 → AreJudged (handled_reading kind files)

abbrev pub MailboxFilesAreJudged : Type 0
MailboxFilesAreJudged =
    (kind : CertKind) (files : MailboxFiles) → length files.fcl ≤ 1048576 → AreJudged (mailbox_reading kind files)

abbrev pub WatchedFilesAreJudged : Type 0
WatchedFilesAreJudged =
    (kind : CertKind) (files : WatchedFiles) → length files.fcl ≤ 1048576 → AreJudged (watched_reading kind files)

abbrev pub TwoLevelFilesAreJudged : Type 0
TwoLevelFilesAreJudged =
    (kind : CertKind) (files : TwoLevelFiles) → length files.slow ≤ 1048576 → length files.fast ≤ 1048576
    → AreJudged (two_level_reading kind files)
