-- When a run is done.
use Rattle.std.proofs.Common.{◌≡◌, ◌<◌, ◌^◌, ◌∙◌, ℕ, List, [], ◌∷◌, length, sym, ap, subst, arith}
use Rattle.std.specs.Prelude.{Bool, false, ◌==◌, Option, Some}
use Rattle.box_tree.specs.declared.cert.CertFormat.{CertFormat}
use Rattle.fz_words.specs.Table.{any_hyphen}
use Rattle.fz_status.specs.Words.{Text}
use Rattle.run_reports.specs.declared.files.RunFiles.{RunFiles}
use Rattle.run_commands.specs.Run.{run_inputs, run_with}
use Rattle.run_reports.specs.CertifiedRun.{run_reading}
use Rattle.std.specs.List.{concat}
use Rattle.fz_shelf.specs.{Files.Names, Told.Taken}
use Rattle.command_parts.specs.{Readings.GivesSome, SeenOutputs.SeenOutput}
use Rattle.fz_top.specs.{Accepted.Accepts, Commands.Makes, Commands.command_in, Commands.command_named, Commands.inputs_of}
use Rattle.fz_top.specs.{Reads.names_at, Runs.AreKnown, Runs.CanBeDone, Runs.FileFits, Runs.RoomFor}
use Rattle.fz_top.specs.declared.command.Command.{Command}
use Rattle.fz_top.specs.declared.command.Command.TheVariants as command
use Rattle.fz_top.specs.declared.command.Name.TheVariants as name
use Rattle.fz_top.proofs.KeepsLemmas.{command_if, form_is, looked_up}
use Rattle.fz_top.specs.Done.{AreRunWords, AreTold, HasRoomForLines, run_name}
use Rattle.promise.specs.{Laws.CertifiedRunsKeepPromise, Promise.Promise}

-- ---- the words

command_at : (format : CertFormat) (p : Text) (ws : List Text)
    → any_hyphen (p ∷ run_name format ∷ ws) ≡ false → length ws ≡ 6 → command_in (p ∷ run_name format ∷ ws)
    ≡ command_named (name.Run format) (p ∷ run_name format ∷ ws)
command_at format p ws plain count = looked_up format.kind format.width p ws
    ∙ ap (λ (h : Bool). command_if (p ∷ run_name format ∷ ws) format h (6 == length ws)) plain
    ∙ ap (λ (n : ℕ). command_if (p ∷ run_name format ∷ ws) format false (6 == n)) count

pub run_command : (words : List Text) (format : CertFormat) (flags : ℕ)
    → AreRunWords words format flags → command_in words ≡ Some (command.Run (run_with format flags))
run_command [] format flags are = absurd (omega (arith, are.count))
run_command (p ∷ []) format flags are = absurd (omega (arith, are.count))
run_command (p ∷ w ∷ ws) format flags are =
    let six : length ws ≡ 6 = omega (arith, are.count) in
    let plain : any_hyphen (p ∷ run_name format ∷ ws) ≡ false =
    subst (λ (v : Text). any_hyphen (p ∷ v ∷ ws) ≡ false) are.run.name are.plain in
    let at : command_in (p ∷ w ∷ ws) ≡ command_named (name.Run format) (p ∷ w ∷ ws) =
    subst (λ (v : Text). command_in (p ∷ v ∷ ws) ≡ command_named (name.Run format) (p ∷ v ∷ ws))
    (sym are.run.name) (command_at format p ws plain six) in
    at ∙ form_is (p ∷ w ∷ ws) format flags are.run

-- ---- the files

abbrev pub contents_of : RunFiles → List (List ℕ)
contents_of f = f.fcl ∷ f.image ∷ f.inputs.cert ∷ f.inputs.trace ∷ f.inputs.plan ∷ []

pub are_known : (words : List Text) (names : Names) (files : RunFiles) → AreTold words names files
    → AreKnown names (names_at words run_inputs) (contents_of files)
are_known words names files told = (
  (told.fcl.room, told.fcl.told),
  told.fcl.short,
  (
    (told.image.room, told.image.told),
    told.image.short,
    (
      (told.cert.room, told.cert.told),
      told.cert.short,
      (
        (told.trace.room, told.trace.told),
        told.trace.short,
        ((told.plan.room, told.plan.told), told.plan.short, tt),
      ),
    ),
  ),
)

-- ---- done

-- room for each text that keeps the promise is room for what the run makes
pub room_for : CertifiedRunsKeepPromise → (words : List Text) (format : CertFormat) (flags : ℕ)
    (files : RunFiles) (names : Names) (told : Option Taken) → flags < 2 ^ 8 → HasRoomForLines format.width flags files told
    → RoomFor words names told (Makes (command.Run (run_with format flags)) (contents_of files))
unfolding Makes
room_for keep words format flags files names told byte room output gives = (
  subst (λ (o : SeenOutput). FileFits words o.file names) (sym gives.output_is) tt,
  room gives.report (concat output.lines)
      (subst (λ (o : SeenOutput). Promise format.width flags files gives.report (concat o.lines)) (sym gives.output_is)
      (keep format flags files gives.report gives.certified byte)),
)

abbrev pub asked : CertFormat → ℕ → Command
asked format flags = command.Run (run_with format flags)

pub can : (words : List Text) (format : CertFormat) (flags : ℕ) (files : RunFiles) (names : Names)
    → AreRunWords words format flags → AreTold words names files → GivesSome (run_reading format files)
    → CanBeDone words names (asked format flags) (contents_of files)
unfolding inputs_of Accepts
can words format flags files names are told accepted = record {
  is = run_command words format flags are;
  known = are_known words names files told;
  accepted = accepted;
}
