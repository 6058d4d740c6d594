-- The command `asm SRC OUT`.
-- Beside the promise.
use Rattle.std.specs.Prelude.{◌≡◌, ℕ, List, [], ◌∷◌, length, codes, Result, Ok, Err}
use Rattle.cpu12_asm.specs.{Bytes.IsAscending, Bytes.start_of, Sources.Assembles, Sources.assembled}
use Rattle.cpu12_asm.specs.declared.image.Image.{Image}
use Rattle.command_parts.specs.{Lines.line, Readings.IsSettled, SeenOutputs.SeenOutput}
use Rattle.build_commands.specs.Written.{WritesImage}
use Rattle.fz_status.specs.{Refusals.Refusals, Refusals.Refuses, declared.status.Status.Status}
use Rattle.fz_status.specs.declared.status.Status.TheVariants as status

-- SRC
abbrev pub asm_inputs : List ℕ
asm_inputs = 2 ∷ []

-- the source gives an image, and OUT is to hold its records; the line says how many bytes it has
pub record AsmGives (source : List ℕ) (output : SeenOutput) : Type 0 where
  pub image : Image
  pub assembles : Assembles source image.bytes
  pub ascending : IsAscending image.bytes
  pub start : image.start ≡ start_of image.bytes
  pub writes : WritesImage image 3 (line (codes "bytes ") (length image.bytes) ∷ []) output

-- why a source gives none
abbrev pub source_refusals : List ℕ → Refusals
source_refusals source (status.Asm f) = assembled source ≡ Err f
source_refusals source s = ⊥

abbrev pub AsmMakes : List ℕ → Result SeenOutput Status → Type 0
AsmMakes source (Ok output) = AsmGives source output
AsmMakes source (Err s) = Refuses (source_refusals source) s

-- the source gives this image
pub record AcceptsSource (source : List ℕ) (image : Image) : Type 0 where
  pub assembles : Assembles source image.bytes
  pub ascending : IsAscending image.bytes
  pub start : image.start ≡ start_of image.bytes

abbrev pub AsmAccepts : List ℕ → Type 0
AsmAccepts source = (image : Image) × AcceptsSource source image

-- a source makes at most one output, and then no fault; and one where it is accepted
abbrev pub AsmIsSettled : Type 0
AsmIsSettled = (source : List ℕ) → IsSettled (AsmMakes source) (AsmAccepts source)
