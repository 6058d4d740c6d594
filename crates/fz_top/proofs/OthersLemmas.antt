-- The other runs that are Ok are served by the machine.
use Rattle.std.proofs.Common.{◌≡◌, ◌<◌, ◌^◌, ℕ, List, subst}
use Rattle.std.specs.Prelude.{Ok}
use Rattle.command_parts.specs.SeenOutputs.{SeenOutput}
use Rattle.form_commands.specs.{Hrun.handled_files, Lrun.two_level_files, Mrun.mailbox_files, Srun.watched_files}
use Rattle.fz_shelf.specs.Told.{World}
use Rattle.fz_status.specs.{Words.Text, declared.status.Status.Status}
use Rattle.fz_status.specs.declared.status.Status.TheVariants as status
use Rattle.fz_top.specs.{Accepted.run_flags, Commands.Makes, Commands.inputs_of, Runs.Runs}
use Rattle.fz_top.specs.{Others.OkServes, Others.RunServes, Reads.AreHeld, Reads.names_at}
use Rattle.fz_top.specs.declared.command.Command.{Command}
use Rattle.fz_top.specs.declared.command.Command.TheVariants.{Debug, Generate, Hrun, Lrun, Mrun, Srun}
use Rattle.command_parts.specs.Words.{FlagsAreBytes}
use Rattle.fz_top.proofs.{FlagsLemmas.byte_flags, RunLemmas.same_command}
use Rattle.promise.specs.OtherRuns.{OtherRunsServe}
use Rattle.run_commands.specs.Debug.{debug_files}

serves : OtherRunsServe → (command : Command) (contents : List (List ℕ)) (output : SeenOutput)
    → run_flags command < 2 ^ 8 → Makes command contents (Ok output) → RunServes command contents output
unfolding Makes RunServes
serves others (Generate generate) contents output byte gives =
    (gives, others.generated generate.number output gives)
serves others (Debug debug) contents output byte gives =
    (gives, others.debugged debug (debug_files contents) output gives byte)
serves others (Hrun hrun) contents output byte gives =
    (gives, others.handled hrun.kind hrun.flags (handled_files contents) gives.report gives.run byte)
serves others (Lrun lrun) contents output byte gives =
    (gives, others.slow lrun.kind lrun.flags (two_level_files contents) gives.report gives.run byte)
serves others (Mrun mrun) contents output byte gives =
    (gives, others.posted mrun.kind mrun.flags (mailbox_files contents) gives.report gives.run byte)
serves others (Srun srun) contents output byte gives =
    (gives, others.watched srun.kind srun.flags (watched_files contents) gives.report gives.run)
serves others _ contents output byte gives = tt

pub ok_serves : OtherRunsServe → FlagsAreBytes → (words : List Text) (old new : World) (s : Status)
    → Runs words old new s → OkServes words old new s
ok_serves others bytes words old new s runs is command named =
    let ok : Runs words old new status.Ok = subst (λ (t : Status). Runs words old new t) is runs in
    let worked = ok.1 in
    let same : worked.command ≡ command = same_command worked.is named in
    record {
      contents = worked.contents;
      held = subst (λ (c : Command). AreHeld old.files (names_at words (inputs_of c)) worked.contents) same worked.held;
      output = ok.0;
      put = ok.2.told;
      serves = serves others command worked.contents ok.0 (byte_flags bytes words command named)
          (subst (λ (c : Command). Makes c worked.contents (Ok ok.0)) same worked.outcome);
    }
