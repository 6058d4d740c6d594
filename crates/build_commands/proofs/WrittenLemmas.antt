-- Images and firmware that are written, or want of memory.
use Rattle.std.proofs.Common.{◌≡◌, ◌∙◌, ℕ, List, ap, ap₂, length, sym, subst}
use Rattle.std.specs.Prelude.{IfErr, IfOk, Result, Ok, Err}
use Rattle.cpu12_asm.specs.declared.image.Image.{Image}
use Rattle.fuzzy_meaning.specs.declared.block.Block.{Block}
use Rattle.eval_code.specs.Bounds.{instruction_bound, step_bound, steps_by}
use Rattle.byte_scaling.specs.declared.width.Width.{Width}
use Rattle.firmware_code.specs.declared.firmware.Firmware.{Firmware}
use Rattle.mailbox_code.specs.Mailboxes.{mailbox_bound}
use Rattle.command_parts.specs.{Firmwares.IsOfForm, declared.firmware.Form.Form}
use Rattle.command_parts.specs.declared.firmware.Form.TheVariants.{Alone, Mailbox, Watched}
use Rattle.build_commands.specs.Compile.{bound_of}
use Rattle.fz_status.specs.declared.status.Status.{Status}
use Rattle.fz_status.specs.declared.status.Status.TheVariants as status
use Rattle.command_parts.specs.SeenOutputs.{SeenOutput, IsFaultOf, IsResultOf, seen_output}
use Rattle.command_parts.specs.declared.output.Output.{Output}
use Rattle.build_commands.specs.Written.{WritesFirmware, WritesImage, compile_lines}

pub written_makes : (makes : Result SeenOutput Status → Type 0) (image : Image) (place : ℕ) (lines : List (List ℕ))
    (result : Result Output Status)
    → IfOk result (λ work. WritesImage image place lines (seen_output work)) → IfErr result (λ s. s ≡ status.Memory)
    → ((output : SeenOutput) → WritesImage image place lines output → makes (Ok output)) → IsResultOf makes result
written_makes makes image place lines (Ok work) writes memory gives = gives (seen_output work) writes
written_makes makes image place lines (Err s) writes memory gives = subst (IsFaultOf makes) (sym memory) tt

-- the firmware of a text, with its bounds
module _ (makes : Result SeenOutput Status → Type 0) (Gives : Block → Firmware → Type 0) (bound : Block → ℕ)
    (block : Block)
    (firmware : Firmware) where
  pub firmware_makes : Gives block firmware → firmware.instr_bound ≡ bound block
      → firmware.step_bound ≡ steps_by block (bound block)
      → (result : Result Output Status)
      → IfOk result (λ work. WritesImage firmware.image 3
      (compile_lines firmware.instr_bound firmware.step_bound (length firmware.image.bytes)) (seen_output work))
      → IfErr result (λ s. s ≡ status.Memory) → ((output : SeenOutput) → WritesFirmware Gives bound output
      → makes (Ok output))
      → IsResultOf makes result
  firmware_makes gives instructions steps result writes memory make =
      written_makes makes firmware.image 3
      (compile_lines firmware.instr_bound firmware.step_bound (length firmware.image.bytes)) result writes memory
      (λ output w. make output (record {
        block = block;
        firmware = firmware;
        gives = gives;
        writes = subst (λ lines. WritesImage firmware.image 3 lines output)
            (ap₂ (λ (i s : ℕ). compile_lines i s (length firmware.image.bytes)) instructions steps) w;
      }))

-- ---- the bounds of each form

pub instructions_are : (form : Form) (b : Block) (f : Firmware) → IsOfForm form b f → f.instr_bound ≡ bound_of form b
instructions_are (Alone width) b f is = is.0.instructions ∙ ap (λ (w : Width). instruction_bound w b) is.1
instructions_are Mailbox b f is = is.0.instructions ∙ ap (λ (w : Width). mailbox_bound w b) is.1
instructions_are Watched b f is = is.instructions

pub steps_are : (form : Form) (b : Block) (f : Firmware) → IsOfForm form b f
    → f.step_bound ≡ steps_by b (bound_of form b)
steps_are (Alone width) b f is = is.0.steps ∙ ap (λ (w : Width). step_bound w b) is.1
steps_are Mailbox b f is = is.0.steps ∙ ap (λ (w : Width). steps_by b (mailbox_bound w b)) is.1
steps_are Watched b f is = is.steps
