-- What the program promises of a certified run, in the words of its one sentence.
-- Reached by the promise.
use Rattle.std.specs.Prelude.{◌≡◌, ◌≤◌, ℕ, List, All, length, map}
use Rattle.std.specs.List.{concat}
use Rattle.fuzzy_meaning.specs.declared.block.Block.{Block}
use Rattle.fcl_check.specs.Texts.{SpellsBlock}
use Rattle.cpu12_asm.specs.declared.image.Image.{Image}
use Rattle.cpu12_parts.specs.State.{State}
use Rattle.srecord.specs.Texts.{GivesImage}
use Rattle.trace_io.specs.{Traces.Spells as SpellsTrace, declared.sample.Sample.Sample}
use Rattle.interrupt_plan.specs.{Plans.Spells as SpellsPlan, declared.Request.Request}
use Rattle.byte_scaling.specs.{Widths.parts, declared.width.Width.Width}
use Rattle.run_reports.specs.{Nearness.AreWithinErrors, RowLines.run_lines, Reports.Report, Reports.left_of}
use Rattle.run_reports.specs.{declared.files.RunFiles.RunFiles}
use Rattle.trace_io.specs.Traces.{input_bytes}
use Rattle.run_law.specs.Forms.{RowSeen}
use Rattle.promise.specs.Bench.{AreReadOff, IsFirstAtLoop, IsRunOf, bench, requests_in}

-- The machine over an image serves samples under a plan. From reset it comes to LOOP; from there the samples are given
-- one after the other and the interrupts come, and it comes to the end of each. These are its rows, one for each
-- sample, and what each tells is read off the run without interrupts: the answers, the instructions, the steps, the
-- boundaries inside REV, REVW and WAV at which it goes on once interrupted, and the frames.
pub record Serves (width : Width) (outputs flags : ℕ) (image : Image) (samples : List (List ℕ)) (plan : List Request)
    (rows : List (RowSeen (List ℕ))) : Type 0 where
  pub first : State
  pub waits : IsFirstAtLoop flags image first
  pub last : State
  pub ran : IsRunOf (bench width outputs flags) (requests_in plan) samples first rows last
  pub without : AreReadOff (bench width outputs flags) (requests_in plan) 1 samples rows first

-- The printed numbers are what is read off the text: an error for each output, of the whole range at most, and a bound
-- of 2000 at most. (`decimal` writes the last 64 digits alone of a number that has more.)
pub record IsPrintable (block : Block) (report : Report) : Type 0 where
  pub count : length report.errors ≡ length block.outputs
  pub errors : All (λ e. e ≤ 1000000) report.errors
  pub bound : report.bound ≤ 2000

-- FCL spells a block, IMAGE's records give an image, TRACE spells samples within their inputs' ranges, and PLAN
-- interrupts that write only free bytes. The machine over this image serves the samples under the plan; each answer is
-- within the printed error of FCL's exact fraction; no sample takes more instructions than the printed number; and the
-- text is the lines of just that.
pub record Promise (width : Width) (flags : ℕ) (files : RunFiles) (report : Report) (text : List ℕ) : Type 0 where
  pub block : Block
  pub spelled : SpellsBlock files.fcl block
  pub image : Image
  pub records : GivesImage files.image image
  pub samples : List Sample
  pub in_range : SpellsTrace block.inputs files.inputs.trace samples
  pub plan : List Request
  pub free_writes : SpellsPlan files.inputs.plan plan
  pub serves : Serves width (length block.outputs) flags image (map input_bytes samples) plan report.rows
  pub within : AreWithinErrors (parts width) block report.errors samples report.rows
  pub instructions : All (λ row. row.instrs ≤ report.bound) report.rows
  pub printable : IsPrintable block report
  pub printed : text ≡ concat (run_lines report (left_of serves.last.mem))
