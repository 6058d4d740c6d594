-- From a text to its image.
-- Beside the promise.
use Rattle.std.specs.Prelude.{◌≡◌, ◌≢◌, ℕ, List}
use Rattle.cpu12_asm.specs.{Bytes.IsFirstDifference, Bytes.byte_at, declared.image.Image.Image}
use Rattle.srecord.specs.Texts.{GivesImage, HasFault}
use Rattle.command_parts.specs.Readings.{IsExact, Stage}
use Rattle.fz_status.specs.{Refusals.Refusals, declared.status.ImageFault.ImageFault}
use Rattle.fz_status.specs.declared.status.ImageFault.TheVariants as image
use Rattle.fz_status.specs.declared.status.Status.TheVariants as status

-- why a text gives no image
abbrev pub RefusesRecords : List ℕ → ImageFault → Type 0
RefusesRecords text (image.Records f) = HasFault text f
RefusesRecords text (image.Byte at got wanted) = ⊥
RefusesRecords text (image.Start got wanted) = ⊥

abbrev pub records_refusals : List ℕ → Refusals
records_refusals text (status.Image f) = RefusesRecords text f
records_refusals text s = ⊥

-- why a text does not give an image: it gives none, or another byte somewhere, the first of them being told, or another
-- start alone
abbrev pub RefusesImage : List ℕ → Image → ImageFault → Type 0
RefusesImage text wanted (image.Records f) = HasFault text f
RefusesImage text wanted (image.Byte at got byte) = (given : Image) × GivesImage text given
    × IsFirstDifference given.bytes wanted.bytes at × (got ≡ byte_at given.bytes at) × (byte ≡ byte_at wanted.bytes at)
RefusesImage text wanted (image.Start got start) = (given : Image) × GivesImage text given
    × ((at : ℕ) → byte_at given.bytes at ≡ byte_at wanted.bytes at)
    × (got ≢ start) × (got ≡ given.start) × (start ≡ wanted.start)

abbrev pub image_refusals : List ℕ → Image → Refusals
image_refusals text wanted (status.Image f) = RefusesImage text wanted f
image_refusals text wanted s = ⊥

-- a text that is to give this image, and gives nothing more
abbrev pub image_in : List ℕ → Image → Stage (Unit {0})
image_in text wanted = record {
  gives = λ u. GivesImage text wanted;
  Seen = Unit {0};
  seen = λ u. tt;
  refuses = image_refusals text wanted;
}

abbrev pub ImagesAreExact : Type 0
ImagesAreExact = (text : List ℕ) (wanted : Image) → IsExact (image_in text wanted)

-- records that give an image are not refused
abbrev pub GivenRecordsHaveNoFault : Type 0
GivenRecordsHaveNoFault = (records : List ℕ) (given : Image) (f : ImageFault) → GivesImage records given
    → RefusesRecords records f → ⊥
