-- The command `exec IMAGE STEPS FLAGS`.
-- Beside the promise.
use Rattle.std.specs.Prelude.{◌≡◌, ℕ, List, [], ◌∷◌, ◌++◌, codes, decimal}
use Rattle.std.specs.Prelude.{Option, option_and_then, option_map, Result, Ok, Err}
use Rattle.cpu12_asm.specs.declared.image.Image.{Image}
use Rattle.cpu12_isa.specs.declared.instr.Regs.{Regs}
use Rattle.cpu12_parts.specs.State.{State}
use Rattle.cpu12_emul.specs.{Image.image_memory, Run.EndsRun, Step.reset_with, declared.ends.RunEnd.RunEnd}
use Rattle.cpu12_emul.specs.declared.ends.RunEnd.TheVariants as end
use Rattle.srecord.specs.Texts.{GivesImage}
use Rattle.fz_shelf.specs.Parts.{ended}
use Rattle.command_parts.specs.{SeenOutputs.SeenOutput, SeenOutputs.only_lines, Images.records_refusals}
use Rattle.command_parts.specs.{Lines.registers_told, Readings.IsSettled, Words.number_of}
use Rattle.fz_status.specs.{Words.flags_of, declared.status.Status.Status}
use Rattle.build_commands.specs.declared.exec.Exec.{Exec}
use Rattle.fz_status.specs.{Refusals.Refusals, Refusals.Refuses, Words.Text, Words.word_at}
use Rattle.fz_status.specs.declared.status.Status.TheVariants as status

abbrev pub exec_with : ℕ → ℕ → Exec
exec_with steps flags = record { steps = steps; flags = flags }

-- the command of the words, where the last two are of the forms of STEPS and FLAGS
abbrev pub exec_in : List Text → Option Exec
exec_in words =
    option_and_then (λ steps. option_map (exec_with steps) (flags_of (word_at words 4))) (number_of (word_at words 3))

-- IMAGE
abbrev pub exec_inputs : List ℕ
exec_inputs = 2 ∷ []

-- ---- its line: the registers, and how many steps led to them

abbrev pub exec_line : Regs → ℕ → List ℕ
exec_line r steps = ended (registers_told r ++ (codes " steps " ++ decimal steps))

-- ---- what it makes of its file

-- the text gives an image; from reset with its bytes in memory a run of at most STEPS steps ends like this
pub record Ends (exec : Exec) (text : List ℕ) (e : RunEnd) (last : State) : Type 0 where
  pub image : Image
  pub spelled : GivesImage text image
  pub ends : EndsRun exec.flags exec.steps (reset_with (image_memory image.bytes)) e last

-- the line is that of the first state at `20 FE`, which is the least number of steps away
pub record ExecGives (exec : Exec) (text : List ℕ) (output : SeenOutput) : Type 0 where
  pub steps : ℕ
  pub last : State
  pub arrives : Ends exec text (end.Arrived steps) last
  pub output_is : output ≡ only_lines (exec_line last.regs steps ∷ [])

-- the text gives no image, or the run ends elsewhere
abbrev pub exec_refusals : Exec → List ℕ → Refusals
exec_refusals exec text (status.Trap pc byte) = (last : State) × Ends exec text (end.Trap pc byte) last
exec_refusals exec text (status.Budget steps) = (last : State) × Ends exec text (end.Budget steps) last
exec_refusals exec text s = records_refusals text s

abbrev pub ExecMakes : Exec → List ℕ → Result SeenOutput Status → Type 0
ExecMakes exec text (Ok output) = ExecGives exec text output
ExecMakes exec text (Err s) = Refuses (exec_refusals exec text) s

-- the text gives an image, whose run arrives
abbrev pub ExecAccepts : Exec → List ℕ → Type 0
ExecAccepts exec text = (steps : ℕ) × (last : State) × Ends exec text (end.Arrived steps) last

-- records make at most one output, and then no fault; and one where their run arrives
abbrev pub ExecIsSettled : Type 0
ExecIsSettled = (exec : Exec) (text : List ℕ) → IsSettled (ExecMakes exec text) (ExecAccepts exec text)
