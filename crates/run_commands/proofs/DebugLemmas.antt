-- What a debugged run gives.
use Rattle.run_commands.proofs.Words.{[], ◌∙◌, ◌∷◌, ◌≡◌, Alone, AnswersUnderPlans, bare-append, behind_blank, Byte}
use Rattle.run_commands.proofs.Words.{debug_lines, DebugFiles, DebugRun, Err, firmware_rows, flat_map, input_bytes}
use Rattle.run_commands.proofs.Words.{List, only_lines, refl, Request, Sample, shown, Status, sym, true, ℕ}
use Rattle.run_commands.specs.Debug.{DebugGives, DebugIsSettled, debug_reading, debug_told, run_positions}
use Rattle.run_commands.specs.Debug.{script_in, script_refusals}
use Rattle.command_parts.proofs.Algebra.{exact_of}
use Rattle.command_parts.specs.{Firmwares.FirmwaresAreExact, Images.ImagesAreExact, SeenOutputs.SeenOutput}
use Rattle.command_parts.specs.{Readings.AreExact, Readings.Gives, Readings.IsExact, Readings.seen_of}
use Rattle.command_parts.specs.declared.firmware.Compiled.{Compiled}
use Rattle.alone_runs.specs.Rows.{first_state}
use Rattle.debug_script.specs.{Scripts.script_of, declared.order.Order.Order}
use Rattle.run_forms.specs.Positions.{positions}
use Rattle.run_reports.proofs.Algebra.{rows_ran, settled_run}
use Rattle.run_reports.specs.{Inputs.PlansAreExact, Inputs.TracesAreExact, Laws.SpelledBytesFit}
use Rattle.std.proofs.Common.{◌<◌, ◌^◌}
use Rattle.fz_shelf.proofs.{Algebra.bare-byte}
use Rattle.std.specs.Prelude.{map, Ok}
use Rattle.fz_shelf.specs.{Lines.has_no_end, Parts.byte_digits}
use Rattle.fz_status.specs.declared.status.Status.TheVariants as status

-- ---- what it makes of its files

script_has : (text : List ℕ) (s : Status) → script_refusals text s
    → (n : ℕ) × (s ≡ status.Script n) × (script_of text ≡ Err n)
script_has text (status.Script n) w = (n, refl, w)
script_has text s w = absurd w

pub debug_exact : FirmwaresAreExact → ImagesAreExact → TracesAreExact → PlansAreExact → (files : DebugFiles)
    → AreExact (debug_reading files)
debug_exact firmwares images traces plans files = (
  firmwares (Alone Byte) files.fcl,
  λ c compiled. (
    images files.image c.firmware.image,
    λ held image. (traces c.block files.trace, λ samples in_range. (plans files.plan, λ plan good. script)),
  ),
)
  where
    script : IsExact (script_in files.script)
    script =
        exact_of (script_in files.script) status.Script (λ n. script_of files.script ≡ Err n) (λ n. tt)
        (script_has files.script) (λ x y g h. let e : Ok x ≡ Ok y = sym g ∙ h in cc)
        (λ x n g carries w. let e : Ok x ≡ Err n = sym g ∙ w in cc)
        (λ m n c d v w. let e : Err m ≡ Err n = sym v ∙ w in cc)

abbrev Given : Type 0
Given = Compiled × (Unit {0} × (List Sample × (List Request × List Order)))

abbrev told : ℕ → Given → List (List ℕ)
told flags (c, (held, (samples, (plan, script)))) = debug_told flags c samples plan script

module _ (debug : DebugRun) (files : DebugFiles) where
  given : (output : SeenOutput) → DebugGives debug files output
      → (b : Given) × Gives (debug_reading files) b × (output ≡ only_lines (told debug.flags b))
  given output a =
      let items = shown a.script (run_positions a.firmware debug.flags a.samples a.plan) in
      let rows = rows_ran a.follows in (
        (record { block = a.block; firmware = a.firmware }, (tt, (a.samples, (a.plan, a.script)))),
        a.accepts,
        a.output_is ∙ (λ i. only_lines (debug_lines items (rows i))),
      )

  -- its output is one, where what is seen of the files is
  same : (b d : Given) → seen_of (debug_reading files) b ≡ seen_of (debug_reading files) d
      → told debug.flags b ≡ told debug.flags d
  same b d seen = λ i. (let firmware = (seen i).0.firmware in
      let all = firmware_rows firmware (seen i).1.1.0.1 (seen i).1.1.1.0 debug.flags in
      debug_lines (shown (seen i).1.1.1.1 (positions (first_state firmware debug.flags) all)) all.rows)

  -- accepted files make these lines
  made : SpelledBytesFit → AnswersUnderPlans → (b : Given) → debug.flags < 2 ^ 8 → Gives (debug_reading files) b
      → DebugGives debug files (only_lines (told debug.flags b))
  made fit under (c, (held, (samples, (plan, script)))) byte a = record {
    block = c.block;
    firmware = c.firmware;
    samples = samples;
    plan = plan;
    script = script;
    accepts = a;
    rows = (firmware_rows c.firmware (map input_bytes samples) plan debug.flags).rows;
    follows = under c.firmware debug.flags (map input_bytes samples) plan byte a.1.1.1.0.good c.block
        a.0.spelled.valid a.0.limits a.0.compiled.0 (fit c.block files.trace samples a.1.1.0);
    output_is = refl;
  }

pub debug_settled : ((files : DebugFiles) → AreExact (debug_reading files)) → SpelledBytesFit → AnswersUnderPlans
    → DebugIsSettled
debug_settled exact fit under debug files =
    settled_run (debug_reading files) debug.flags (DebugGives debug files) (told debug.flags) (exact files)
    (given debug files) (same debug files) (made debug files fit under)

-- ---- no line ends in what is shown of bytes

pub bare-bytes : (bytes : List ℕ) → has_no_end (flat_map behind_blank bytes) ≡ true
bare-bytes [] = refl
bare-bytes (b ∷ bytes) = bare-append (byte_digits b) (flat_map behind_blank bytes) (bare-byte b) (bare-bytes bytes)
