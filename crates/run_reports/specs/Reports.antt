-- What a report of a run says.
-- Reached by the promise.
use Rattle.std.specs.Prelude.{◌≡◌, ℕ, ◌≤◌, List, All, map}
use Rattle.fuzzy_meaning.specs.declared.block.Block.{Block}
use Rattle.eval_code.specs.Bounds.{instruction_bound}
use Rattle.byte_scaling.specs.{Widths.parts, declared.width.Width.Width}
use Rattle.firmware_code.specs.declared.firmware.Firmware.{Firmware}
use Rattle.trace_io.specs.{declared.sample.Sample.Sample, Traces.input_bytes}
use Rattle.interrupt_plan.specs.declared.Request.{Request}
use Rattle.run_law.specs.Forms.{RowSeen}
use Rattle.alone_runs.specs.Answering.{AnswersUnder}
use Rattle.run_reports.specs.Nearness.{AreWithinErrors}
use Rattle.std.specs.Prelude.{◌-◌, drop, sum, take}
use Rattle.cpu12_isa.specs.Regions.{free_start, stack_end}

-- what is told of a run: an error for each output, in millionths of its range, the bound on instructions, and a row for
-- each sample
pub record Report : Type 0 where
  pub errors : List ℕ
  pub bound : ℕ
  pub rows : List (RowSeen (List ℕ))

abbrev pub report_of : List ℕ → ℕ → List (RowSeen (List ℕ)) → Report
report_of errors bound rows = record { errors = errors; bound = bound; rows = rows }

-- What a block's firmware does to samples under a plan, where a certificate is accepted with the report's errors: the
-- emulated image answers each sample as it does without interrupts, within the printed error of FCL's exact fraction,
-- in at most the printed number of instructions; and its steps, the boundaries inside REV, REVW and WAV at which it
-- goes on once interrupted, and its frames are read off its run without interrupts.
pub record IsReportOf (width : Width) (flags : ℕ) (block : Block) (firmware : Firmware) (samples : List Sample)
    (plan : List Request) (report : Report) : Type 0 where
  pub within : AreWithinErrors (parts width) block report.errors samples report.rows
  pub bound : report.bound ≡ instruction_bound width block
  pub instructions : All (λ row. row.instrs ≤ report.bound) report.rows
  pub follows : AnswersUnder block firmware flags (map input_bytes samples) plan report.rows

-- the sum of the bytes from the first free one to the end of the stack
abbrev pub left_of : List ℕ → ℕ
left_of memory = sum (take (stack_end - free_start) (drop free_start memory))
