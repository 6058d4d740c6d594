-- What the call's lines tell of the machine with the words of the other commands that run firmware.
-- Beside the promise.
use Rattle.std.specs.Prelude.{◌≡◌, ℕ, List, Some}
use Rattle.std.specs.List.{concat}
use Rattle.command_parts.specs.SeenOutputs.{SeenOutput}
use Rattle.form_commands.specs.{Forms.Reports, Hrun.handled_files, Hrun.hrun_lines, Lrun.two_level_files}
use Rattle.form_commands.specs.{Lrun.lrun_lines}
use Rattle.form_commands.specs.{Mrun.mrun_lines, Mrun.mailbox_files, Srun.srun_lines, Srun.watched_files}
use Rattle.fz_shelf.specs.{Told.World, Told.gained}
use Rattle.fz_status.specs.{Words.Text, declared.status.Status.Status}
use Rattle.fz_status.specs.declared.status.Status.TheVariants as status
use Rattle.fz_top.specs.{Commands.command_in, Commands.inputs_of, Reads.AreHeld, Reads.names_at}
use Rattle.fz_top.specs.declared.command.Command.{Command}
use Rattle.fz_top.specs.declared.command.Command.TheVariants.{Debug, Generate, Hrun, Lrun, Mrun, Srun}
use Rattle.promise.specs.OtherRuns.{DebuggedServes, GeneratedServes, HandledServes, MailboxServes, SlowServes}
use Rattle.promise.specs.OtherRuns.{WatchedServes}
use Rattle.run_commands.specs.{Debug.DebugGives, Debug.debug_files, Generate.GenerateGives}
use Rattle.run_reports.specs.{HandledRun.HandledRun, TwoLevelRun.TwoLevelRun, MailboxRun.MailboxRun}
use Rattle.run_reports.specs.{WatchedRun.WatchedRun}

-- What a command makes of its files' contents tells of a run that the machine serves: `gen`, `debug`, `hrun` and
-- `thrun`, `lrun` and `tlrun`, `mrun` and `tmrun`, `srun` and `tsrun`.
unfoldable pub RunServes : Command → List (List ℕ) → SeenOutput → Type 0
RunServes (Generate generate) contents output =
    (g : GenerateGives generate.number output) × GeneratedServes generate.number output g
RunServes (Debug debug) contents output =
    (d : DebugGives debug (debug_files contents) output) × DebuggedServes debug (debug_files contents) output d
RunServes (Hrun run) contents output =
    (h : Reports (HandledRun run.kind run.flags (handled_files contents)) hrun_lines output)
    × HandledServes run.kind run.flags (handled_files contents) h.report h.run
RunServes (Lrun run) contents output =
    (l : Reports (TwoLevelRun run.kind run.flags (two_level_files contents)) lrun_lines output)
    × SlowServes run.kind run.flags (two_level_files contents) l.report l.run
RunServes (Mrun run) contents output =
    (m : Reports (MailboxRun run.kind run.flags (mailbox_files contents)) mrun_lines output)
    × MailboxServes run.kind run.flags (mailbox_files contents) m.report m.run
RunServes (Srun run) contents output =
    (s : Reports (WatchedRun run.kind run.flags (watched_files contents)) srun_lines output)
    × WatchedServes run.kind run.flags (watched_files contents) s.report s.run
RunServes _ contents output = Unit {0}

-- out has gained the lines of such a run, over the contents that the command's files have where the shelf tells them
pub record Serves (words : List Text) (old new : World) (command : Command) : Type 0 where
  pub contents : List (List ℕ)
  pub held : AreHeld old.files (names_at words (inputs_of command)) contents
  pub output : SeenOutput
  pub put : new.told ≡ gained old.told (concat output.lines)
  pub serves : RunServes command contents output

-- so it is where the words are of a command, and it is Ok
abbrev pub OkServes : List Text → World → World → Status → Type 0
OkServes words old new s =
    s ≡ status.Ok → (command : Command) → command_in words ≡ Some command → Serves words old new command
