-- A run that is Ok keeps its promise.
use Rattle.std.proofs.Common.{◌≡◌, ◌<◌, ◌^◌, inl, inr, ℕ, List, [], ◌∷◌, length, sym, ap, subst, refl, ◌∙◌}
use Rattle.std.specs.Prelude.{Bool, true, false, if◌then◌else◌, Option, Some, None, option_and_then, option_map}
use Rattle.std.specs.Prelude.{Ok, ◌==◌}
use Rattle.std.specs.List.{concat}
use Rattle.fz_shelf.specs.Files.{Names}
use Rattle.fz_words.specs.Table.{Row, any_hyphen, row}
use Rattle.fz_status.specs.{Words.Text, Words.word_at, declared.status.Status.Status}
use Rattle.fz_status.specs.declared.status.Status.TheVariants as status
use Rattle.box_tree.specs.{Texts.format_of, declared.cert.CertFormat.CertFormat, declared.cert.CertKind.CertKind}
use Rattle.box_tree.specs.declared.cert.CertKind.TheVariants.{Named, Tight}
use Rattle.byte_scaling.specs.declared.{width.Width.Width, width.Width.TheVariants.Byte, width.Width.TheVariants.Word}
use Rattle.command_parts.specs.SeenOutputs.{SeenOutput}
use Rattle.run_commands.specs.Run.{RunGives, files_in, run_inputs, run_with}
use Rattle.fz_top.specs.Commands.{Makes, command_in, command_named, inputs_of, table}
use Rattle.fz_top.specs.declared.{command.Command.Command, command.Command.TheVariants.Run, command.Name.Name}
use Rattle.fz_top.specs.{Reads.AreHeld, Reads.names_at, Runs.Runs}
use Rattle.fz_shelf.specs.Told.{World, gained}
use Rattle.fz_top.specs.declared.command.Name.TheVariants as name
use Rattle.command_parts.specs.Words.{FlagsAreBytes}
use Rattle.fz_top.specs.Done.{IsRunOf, run_name}
use Rattle.fz_top.specs.Keeping.{AreOf, IsRunName, KeepsPromise, OkKeepsPromise}
use Rattle.promise.specs.{Laws.CertifiedRunsKeepPromise, Promise.Promise}

-- ---- the words

-- the row of a run's name
abbrev pub row_of_run : CertFormat → Row Name
row_of_run format = row (run_name format) 6 (name.Run format)

-- the command of words that stand behind two tests
abbrev pub command_if : List Text → CertFormat → Bool → Bool → Option Command
command_if words format hyphen count =
    option_and_then (λ n. command_named n words) (option_map (λ (r : Row Name). r.command)
    (if hyphen then None else (if count then Some (row_of_run format) else None)))

passes : (words : List Text) (format : CertFormat) (command : Command) (hyphen count : Bool)
    → command_if words format hyphen count ≡ Some command → command_named (name.Run format) words ≡ Some command
passes words format command true count is = absurd (let e : None ≡ Some command = is in cc)
passes words format command false true is = is
passes words format command false false is = absurd (let e : None ≡ Some command = is in cc)

-- what a table's look-up gives for words that begin with a run's name
pub looked_up : (kind : CertKind) (width : Width) (p : Text) (ws : List Text)
    → command_in (p ∷ run_name (format_of kind width) ∷ ws)
    ≡ command_if (p ∷ run_name (format_of kind width) ∷ ws) (format_of kind width)
    (any_hyphen (p ∷ run_name (format_of kind width) ∷ ws)) (6 == length ws)
unfolding table
looked_up Named Byte p ws = refl
looked_up Named Word p ws = refl
looked_up Tight Byte p ws = refl
looked_up Tight Word p ws = refl

named_at : (format : CertFormat) (command : Command) (p : Text) (ws : List Text)
    → command_in (p ∷ run_name format ∷ ws) ≡ Some command
    → command_named (name.Run format) (p ∷ run_name format ∷ ws) ≡ Some command
named_at format command p ws at = passes (p ∷ run_name format ∷ ws) format command
    (any_hyphen (p ∷ run_name format ∷ ws)) (6 == length ws) (sym (looked_up format.kind format.width p ws) ∙ at)

pub form_is : (words : List Text) (format : CertFormat) (flags : ℕ) → IsRunOf words format flags
    → command_named (name.Run format) words ≡ Some (Run (run_with format flags))
unfolding command_named
form_is words format flags is =
    ap (λ o. option_map Run (option_map (run_with format) o)) is.flags_are

named_run : (format : CertFormat) (command : Command) (p w : Text) (ws : List Text)
    → w ≡ run_name format → command_in (p ∷ w ∷ ws) ≡ Some command
    → command_named (name.Run format) (p ∷ w ∷ ws) ≡ Some command
named_run format command p w ws same at =
    subst (λ (v : Text). command_named (name.Run format) (p ∷ v ∷ ws) ≡ Some command) (sym same)
    (named_at format command p ws
    (subst (λ (v : Text). command_in (p ∷ v ∷ ws) ≡ Some command) same at))

pub is_run : (words : List Text) (format : CertFormat) (flags : ℕ) (command : Command)
    → IsRunOf words format flags → command_in words ≡ Some command → command ≡ Run (run_with format flags)
is_run [] format flags command is at = absurd (let e : None ≡ Some command = at in cc)
is_run (p ∷ []) format flags command is at = absurd (let e : None ≡ Some command = at in cc)
is_run (p ∷ w ∷ ws) format flags command is at =
    let form = named_run format command p w ws is.name at in
    let same = form_is (p ∷ w ∷ ws) format flags is in
    cc (form, same)

named_kind : (width : Width) (w : Text) → IsRunName width w → (kind : CertKind) × (w ≡ run_name (format_of kind width))
named_kind Byte w (inl named) = (Named, named)
named_kind Byte w (inr tight) = (Tight, tight)
named_kind Word w (inl named) = (Named, named)
named_kind Word w (inr tight) = (Tight, tight)

-- ---- the contents

are_of : (words : List Text) (names : Names) (contents : List (List ℕ))
    → AreHeld names (names_at words run_inputs) contents → AreOf words names (files_in contents)
are_of words names [] held = absurd held
are_of words names (a ∷ []) held = absurd held.2
are_of words names (a ∷ b ∷ []) held = absurd held.2.2
are_of words names (a ∷ b ∷ c ∷ []) held = absurd held.2.2.2
are_of words names (a ∷ b ∷ c ∷ d ∷ []) held = absurd held.2.2.2.2
are_of words names (a ∷ b ∷ c ∷ d ∷ e ∷ rest) held = record {
  fcl = held.0;
  image = held.2.0;
  cert = held.2.2.0;
  trace = held.2.2.2.0;
  plan = held.2.2.2.2.0;
}

-- ---- the promise

module _ (keep : CertifiedRunsKeepPromise) (bytes : FlagsAreBytes) (words : List Text) (old new : World) where
  kept : (format : CertFormat) (flags : ℕ) → flags < 2 ^ 8 → (output : SeenOutput)
      (contents : List (List ℕ))
      → AreHeld old.files (names_at words run_inputs) contents → new.told ≡ gained old.told (concat output.lines)
      → RunGives (run_with format flags) (files_in contents) output → KeepsPromise words format.width flags old new
  kept format flags byte output contents held put gives = record {
    files = files_in contents;
    are = are_of words old.files contents held;
    text = concat output.lines;
    put = put;
    report = gives.report;
    promise = subst (λ (o : SeenOutput). Promise format.width flags (files_in contents) gives.report (concat o.lines))
        (sym gives.output_is)
        (keep format flags (files_in contents) gives.report gives.certified byte);
  }

  by_command : (format : CertFormat) (flags : ℕ) → flags < 2 ^ 8 → (output : SeenOutput)
      (command : Command) (contents : List (List ℕ)) → command ≡ Run (run_with format flags)
      → AreHeld old.files (names_at words (inputs_of command)) contents
      → new.told ≡ gained old.told (concat output.lines) → Makes command contents (Ok output)
      → KeepsPromise words format.width flags old new
  unfolding inputs_of Makes
  by_command format flags byte output command contents same held put makes =
      kept format flags byte output contents
      (subst (λ (c : Command). AreHeld old.files (names_at words (inputs_of c)) contents) same held) put
      (subst (λ (c : Command). Makes c contents (Ok output)) same makes)

  pub ok_keeps : (s : Status) → Runs words old new s → OkKeepsPromise words old new s
  ok_keeps s runs is width flags run =
      let kind = named_kind width (word_at words 1) run.name in
      let byte = bytes (word_at words 7) flags run.flags_are in
      let ok : Runs words old new status.Ok = subst (λ (t : Status). Runs words old new t) is runs in
      let worked = ok.1 in
      by_command (format_of kind.0 width) flags byte ok.0 worked.command worked.contents
      (is_run words (format_of kind.0 width) flags worked.command (record { name = kind.1; flags_are = run.flags_are }) worked.is)
      worked.held ok.2.told worked.outcome
