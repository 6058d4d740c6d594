-- Handlers that texts of records give.
-- Beside the promise.
use Rattle.std.specs.Prelude.{ℕ, List, Option}
use Rattle.cpu12_asm.specs.{Bytes.byte_at, declared.image.Image.Image}
use Rattle.handler_check.specs.Images.{IsHandler, IsFault}
use Rattle.srecord.specs.Texts.{GivesImage}
use Rattle.command_parts.specs.{Images.records_refusals, Readings.IsExact, Readings.Stage}
use Rattle.command_parts.specs.declared.handlers.AcceptedHandler.{AcceptedHandler}
use Rattle.fz_status.specs.Refusals.{Refusals}
use Rattle.fz_status.specs.declared.status.Status.TheVariants as status

-- the text gives this image, which is an accepted handler; its longest path has so many instructions
pub record GivesHandler (text : List ℕ) (image : Image) (instrs : ℕ) : Type 0 where
  pub spelled : GivesImage text image
  pub handler : IsHandler image.bytes instrs

-- the text gives no image, or the image is no handler, and has this first fault
abbrev pub handler_refusals : List ℕ → Refusals
handler_refusals text (status.Handler f) = (image : Image) × GivesImage text image × IsFault image.bytes f
handler_refusals text s = records_refusals text s

-- a handler with the instructions of its longest path, which is seen by these and by its bytes
abbrev pub handler_in : List ℕ → Stage AcceptedHandler
handler_in text = record {
  gives = λ a. GivesHandler text a.image a.handler.instrs;
  Seen = (ℕ → Option ℕ) × ℕ;
  seen = λ a. (byte_at a.image.bytes, a.handler.instrs);
  refuses = handler_refusals text;
}

abbrev pub HandlersAreExact : Type 0
HandlersAreExact = (text : List ℕ) → IsExact (handler_in text)
