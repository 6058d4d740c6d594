-- What the commands of this crate have in common: the words beside the names of files, and what is made of those.
-- Beside the promise.
use Rattle.std.specs.Prelude.{◌≡◌, ℕ, List, Option, option_map, Result}
use Rattle.box_tree.specs.declared.cert.CertKind.{CertKind}
use Rattle.command_parts.specs.Readings.{Reading, made_of}
use Rattle.command_parts.specs.SeenOutputs.{SeenOutput, only_lines}
use Rattle.fz_status.specs.Words.{Text, flags_of, word_at}
use Rattle.fz_status.specs.declared.status.Status.{Status}
use Rattle.run_reports.specs.Settled.{IsSettledRun}
use Rattle.form_commands.specs.declared.form_run.FormRun.{FormRun}

abbrev pub form_run : CertKind → ℕ → FormRun
form_run kind flags = record { kind = kind; flags = flags }

-- the run of the words, where the one at this place is of the form of FLAGS
abbrev pub form_run_in : CertKind → ℕ → List Text → Option FormRun
form_run_in kind place words = option_map (form_run kind) (flags_of (word_at words place))

-- the run is one of the files, and the lines are those of its report
pub record Reports {R : Type 0} (IsRun : R → Type 0) (lines : R → List (List ℕ)) (output : SeenOutput) : Type 0 where
  pub report : R
  pub run : IsRun report
  pub output_is : output ≡ only_lines (lines report)

-- what a command makes of its files
abbrev pub made_by : {F B R : Type 0} → (CertKind → F → Reading B) → (CertKind → ℕ → F → R → Type 0)
    → (R → List (List ℕ)) → FormRun → F → Result SeenOutput Status → Type 0
made_by reading IsRun lines run files =
    made_of (reading run.kind files) (Reports (IsRun run.kind run.flags files) lines)

-- Files make at most one output, and then no fault; and where they are accepted, the lines of this report of what they
-- give.
abbrev pub AreSettled : {F B R : Type 0} → (CertKind → F → Reading B) → (CertKind → ℕ → F → R → Type 0)
    → (R → List (List ℕ)) → (ℕ → B → R) → Type 0
AreSettled {F} reading IsRun lines report =
    (run : FormRun) (files : F) → IsSettledRun (reading run.kind files) run.flags
    (Reports (IsRun run.kind run.flags files) lines) (λ b. lines (report run.flags b))
