-- What contents make of each command: an output or a refusal.
-- Beside the promise.
use Rattle.std.specs.Prelude.{◌<◌, ◌≤◌, ◌^◌, length}
use Rattle.command_parts.specs.Judged.{HasResult}
use Rattle.run_commands.specs.{Debug.DebugMakes, declared.debug.DebugFiles.DebugFiles, declared.debug.DebugRun.DebugRun}
use Rattle.run_commands.specs.{Generate.GenerateMakes, declared.generate.Generate.Generate}
use Rattle.run_commands.specs.{Run.RunMakes, declared.run.Run.Run}
use Rattle.run_reports.specs.declared.files.RunFiles.{RunFiles}

-- where FCL has at most 1048576 bytes
abbrev pub RunIsJudged : Type 0
RunIsJudged =
    (run : Run) (files : RunFiles) → run.flags < 2 ^ 8 → length files.fcl ≤ 1048576 → HasResult (RunMakes run files)

abbrev pub DebugIsJudged : Type 0
DebugIsJudged =
    (debug : DebugRun) (files : DebugFiles) → debug.flags < 2 ^ 8 → length files.fcl ≤ 1048576
    → HasResult (DebugMakes debug files)

-- for each number
abbrev pub GenerateIsJudged : Type 0
GenerateIsJudged = (generate : Generate) → HasResult (GenerateMakes generate)
