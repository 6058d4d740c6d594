-- The command `debug FCL IMAGE TRACE PLAN FLAGS SCRIPT`.
-- Beside the promise.
use Rattle.std.specs.Prelude.{◌≡◌, ℕ, List, [], ◌∷◌, ◌++◌, codes, decimal, map, Option, option_map}
use Rattle.std.specs.Prelude.{Result, Ok, Err}
use Rattle.std.specs.List.{flat_map}
use Rattle.fuzzy_meaning.specs.declared.block.Block.{Block}
use Rattle.firmware_code.specs.declared.firmware.Firmware.{Firmware}
use Rattle.byte_scaling.specs.declared.width.Width.TheVariants.{Byte}
use Rattle.fz_shelf.specs.Parts.{address_digits, byte_digits, ended}
use Rattle.interrupt_plan.specs.declared.Request.{Request}
use Rattle.run_law.specs.Forms.{RowSeen}
use Rattle.trace_io.specs.declared.sample.Sample.{Sample}
use Rattle.alone_runs.specs.{Answering.AnswersUnder, Rows.first_state, Rows.firmware_rows}
use Rattle.trace_io.specs.Traces.{input_bytes}
use Rattle.run_forms.specs.Positions.{Position, positions}
use Rattle.debug_script.specs.{Scripts.script_of, Showing.shown}
use Rattle.debug_script.specs.declared.{order.Order.Order, shown.Shown.Shown}
use Rattle.debug_script.specs.declared.shown.Shown.TheVariants.{Stop, Registers, Bytes}
use Rattle.command_parts.specs.{Contents.content_at, Firmwares.firmware_in, Images.image_in, Lines.counted}
use Rattle.command_parts.specs.{Lines.registers_told, SeenOutputs.SeenOutput}
use Rattle.command_parts.specs.Readings.{Gives, Reading, Stage, last, made_of, ◌then◌}
use Rattle.command_parts.specs.SeenOutputs.{only_lines}
use Rattle.command_parts.specs.declared.firmware.{Compiled.Compiled, Form.TheVariants.Alone}
use Rattle.fz_status.specs.{Words.flags_of, Words.Text, Words.word_at, Refusals.Refusals}
use Rattle.fz_status.specs.declared.status.Status.{Status}
use Rattle.run_reports.specs.{Inputs.plan_in, Inputs.trace_in, RowLines.row_lines, Settled.IsSettledRun}
use Rattle.run_commands.specs.declared.debug.{DebugFiles.DebugFiles, DebugRun.DebugRun}
use Rattle.fz_status.specs.declared.status.Status.TheVariants as status

abbrev pub debug_with : ℕ → DebugRun
debug_with flags = record { flags = flags }

-- the command of the words, where the last but one is of the form of FLAGS
abbrev pub debug_in : List Text → Option DebugRun
debug_in words = option_map debug_with (flags_of (word_at words 6))

-- FCL, IMAGE, TRACE, PLAN and SCRIPT
abbrev pub debug_inputs : List ℕ
debug_inputs = 2 ∷ 3 ∷ 4 ∷ 5 ∷ 7 ∷ []

abbrev pub debug_files : List (List ℕ) → DebugFiles
debug_files contents = record {
  fcl = content_at contents 0;
  image = content_at contents 1;
  trace = content_at contents 2;
  plan = content_at contents 3;
  script = content_at contents 4;
}

-- ---- its lines

-- a byte, with a blank before it
abbrev pub behind_blank : ℕ → List ℕ
behind_blank byte = codes " " ++ byte_digits byte

-- the line of what an order shows
abbrev pub shown_line : Shown → List ℕ
shown_line (Stop sample moment pc) = ended (codes "stop " ++ (decimal sample ++ (codes " " ++ (decimal moment
    ++ (codes " " ++ address_digits pc)))))
shown_line (Registers regs) = ended (registers_told regs)
shown_line (Bytes at bytes) = ended (codes "mem " ++ (address_digits at ++ flat_map behind_blank bytes))

-- what a script shows, and then the rows of the whole run, as `run` has them
abbrev pub debug_lines : List Shown → List (RowSeen (List ℕ)) → List (List ℕ)
debug_lines shown rows = map shown_line shown ++ counted row_lines 1 rows

-- ---- what it makes of its files

-- why a text is no script
abbrev pub script_refusals : List ℕ → Refusals
script_refusals text (status.Script n) = script_of text ≡ Err n
script_refusals text s = ⊥

-- the orders of a script
abbrev pub script_in : List ℕ → Stage (List Order)
script_in text = record {
  gives = λ script. script_of text ≡ Ok script;
  Seen = List Order;
  seen = λ script. script;
  refuses = script_refusals text;
}

-- FCL's firmware that stands alone, IMAGE of this firmware, TRACE, PLAN and SCRIPT
abbrev pub debug_reading : DebugFiles
    → Reading (Compiled × (Unit {0} × (List Sample × (List Request × List Order))))
debug_reading files =
    firmware_in (Alone Byte) files.fcl then λ c.
    image_in files.image c.firmware.image then λ held.
    trace_in c.block files.trace then λ seen.
    plan_in files.plan then λ plan.
    last (script_in files.script)

-- the files are accepted, and give this
abbrev pub Debugs : DebugFiles → Block → Firmware → List Sample → List Request → List Order → Type 0
Debugs files block firmware samples plan script =
    Gives (debug_reading files) (record { block = block; firmware = firmware }, (tt, (samples, (plan, script))))

-- the positions of the firmware's run over the samples under the plan
abbrev pub run_positions : Firmware → ℕ → List Sample → List Request → List Position
run_positions firmware flags samples plan =
    positions (first_state firmware flags) (firmware_rows firmware (map input_bytes samples) plan flags)

-- The lines are what the script shows over the positions of that run, and then its rows: they are those of the run
-- without the script, whose answers and counts are those without interrupts.
pub record DebugGives (debug : DebugRun) (files : DebugFiles) (output : SeenOutput) : Type 0 where
  pub block : Block
  pub firmware : Firmware
  pub samples : List Sample
  pub plan : List Request
  pub script : List Order
  pub accepts : Debugs files block firmware samples plan script
  pub rows : List (RowSeen (List ℕ))
  pub follows : AnswersUnder block firmware debug.flags (map input_bytes samples) plan rows
  pub output_is : output
      ≡ only_lines (debug_lines (shown script (run_positions firmware debug.flags samples plan)) rows)

abbrev pub DebugMakes : DebugRun → DebugFiles → Result SeenOutput Status → Type 0
DebugMakes debug files = made_of (debug_reading files) (DebugGives debug files)

-- the lines of the run of what the files give
abbrev pub debug_told : ℕ → Compiled → List Sample → List Request → List Order → List (List ℕ)
debug_told flags c samples plan script =
    debug_lines (shown script (run_positions c.firmware flags samples plan))
    (firmware_rows c.firmware (map input_bytes samples) plan flags).rows

abbrev pub DebugIsSettled : Type 0
DebugIsSettled = (debug : DebugRun) (files : DebugFiles)
    → IsSettledRun (debug_reading files) debug.flags (DebugGives debug files)
    (λ b. debug_told debug.flags b.0 b.1.1.0 b.1.1.1.0 b.1.1.1.1)
