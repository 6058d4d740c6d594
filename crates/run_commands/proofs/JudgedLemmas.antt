-- Contents of each command make an output, or they are refused.
use Rattle.std.proofs.Common.{◌≡◌, inl, inr, ℕ, List, refl}
use Rattle.std.specs.Prelude.{Result, Ok, Err, ◌≤◌, length}
use Rattle.byte_scaling.specs.declared.width.Width.TheVariants.{Byte}
use Rattle.command_parts.specs.Judged.{AreJudged, FirmwaresAreJudged, ImagesAreJudged, IsJudged}
use Rattle.command_parts.specs.declared.firmware.Form.TheVariants.{Alone}
use Rattle.debug_script.specs.{Scripts.script_of, declared.order.Order.Order}
use Rattle.fz_status.specs.declared.status.Status.TheVariants as status
use Rattle.run_reports.specs.Judged.{PlansAreJudged, TracesAreJudged}
use Rattle.run_commands.specs.{Debug.debug_reading, Debug.script_in, declared.debug.DebugFiles.DebugFiles}

script_judged : (text : List ℕ) → IsJudged (script_in text)
script_judged text = by_script (script_of text) refl
  where
    by_script : (r : Result (List Order) ℕ) → script_of text ≡ r → IsJudged (script_in text)
    by_script (Ok script) is = inl (script, is)
    by_script (Err n) is = inr (status.Script n, (tt, is))

pub debug_judged : FirmwaresAreJudged → ImagesAreJudged → TracesAreJudged → PlansAreJudged → (files : DebugFiles)
    → length files.fcl ≤ 1048576 → AreJudged (debug_reading files)
debug_judged firmwares images traces plans files few = (
  firmwares (Alone Byte) files.fcl few,
  λ c gives. (
    images files.image c.firmware.image,
    λ held is. (
      traces c.block files.trace,
      λ samples spelled. (plans files.plan, λ plan there. script_judged files.script),
    ),
  ),
)
