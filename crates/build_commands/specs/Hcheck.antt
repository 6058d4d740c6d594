-- The command `hcheck HANDLER`.
-- Beside the promise.
use Rattle.std.specs.Prelude.{◌≡◌, ℕ, List, [], ◌∷◌, codes, Result}
use Rattle.cpu12_asm.specs.declared.image.Image.{Image}
use Rattle.command_parts.specs.{SeenOutputs.SeenOutput, SeenOutputs.only_lines, Lines.line}
use Rattle.command_parts.specs.Handlers.{GivesHandler, handler_in}
use Rattle.command_parts.specs.Readings.{GivesSome, IsSettled, last, made_of}
use Rattle.fz_status.specs.declared.status.Status.{Status}

-- HANDLER
abbrev pub hcheck_inputs : List ℕ
hcheck_inputs = 2 ∷ []

-- the text gives a handler, and the line says how many instructions its longest path has
pub record HcheckGives (text : List ℕ) (output : SeenOutput) : Type 0 where
  pub image : Image
  pub instrs : ℕ
  pub gives : GivesHandler text image instrs
  pub output_is : output ≡ only_lines (line (codes "handler instructions ") instrs ∷ [])

abbrev pub HcheckMakes : List ℕ → Result SeenOutput Status → Type 0
HcheckMakes text = made_of (last (handler_in text)) (HcheckGives text)

-- records make at most one output, and then no fault; and one where they give a handler
abbrev pub HcheckIsSettled : Type 0
HcheckIsSettled = (text : List ℕ) → IsSettled (HcheckMakes text) (GivesSome (last (handler_in text)))
