-- The images that commands write have records.
use Rattle.std.proofs.Common.{◌≡◌, ◌∙◌, ℕ, ◌^◌, ◌<◌, List, [], ◌∷◌, Option, Some, None, arith, nat_cmp, refl, sym}
use Rattle.std.proofs.Common.{ap, subst}
use Rattle.std.specs.{BTreeMap.is_at, Prelude.IfSome, Prelude.slice_index}
use Rattle.std.proofs.lemmas.Bool.{cond_both}
use Rattle.std.proofs.lemmas.Bool.Decides.{nat_tests}
use Rattle.std.proofs.lemmas.List.Elements.{All-head, All-tail}
use Rattle.fuzzy_meaning.specs.{Blocks.IsValid, declared.block.Block.Block}
use Rattle.rule_layout.specs.Layouts.{IsWithinLimits}
use Rattle.cpu12_isa.specs.Fits.{AreBytes}
use Rattle.cpu12_asm.specs.Bytes.{FitsMemory, Holds, IsAscending, byte_at, start_of, word_or_zero}
use Rattle.cpu12_asm.specs.{Items.given_by, Laws.GiveBytes}
use Rattle.cpu12_asm.specs.declared.{image.Image.Image, items.Item.Item}
use Rattle.cpu12_emul.specs.Image.{HoldsImage, byte_or_zero, image_memory}
use Rattle.firmware_code.specs.Images.{IsImageOf}
use Rattle.alone_code.specs.Firmwares.{FirmwareIsBytes}
use Rattle.mailbox_code.specs.Mailboxes.{MailboxIsBytes}
use Rattle.firmware_code.specs.declared.firmware.Firmware.{Firmware}
use Rattle.watched_code.specs.Watched.{WatchedIsBytes}
use Rattle.srecord.specs.{Images.ImageText, Laws.AreMemoryBytes, Laws.ImagesHaveTexts}
use Rattle.command_parts.specs.Firmwares.{IsOfForm}
use Rattle.command_parts.specs.declared.firmware.{Form.Form, Form.TheVariants.Alone, Form.TheVariants.Mailbox}
use Rattle.command_parts.specs.declared.firmware.{Form.TheVariants.Watched}

-- the image has a text of records
abbrev pub HasRecords : Image → Type 0
HasRecords image = (records : List ℕ) × ImageText image.bytes image.start records

-- ---- bytes of memory

at_address : (given : List (ℕ × ℕ)) (at : ℕ) → FitsMemory given → IfSome (byte_at given at) (λ byte. at < 2 ^ 16)
at_address [] at fits = tt
at_address (b ∷ given) at fits =
    let here = fits.0 in
    cond_both (is_at (nat_cmp at) b.0) (Some b.1) (byte_at given at) (λ o. IfSome o (λ byte. at < 2 ^ 16))
    (λ is. grind (arith, nat_tests)) (λ is. at_address given at fits.1)

memory_fits : HoldsImage → (bytes given : List (ℕ × ℕ)) → Holds bytes given → AreBytes (image_memory bytes)
    → AreMemoryBytes bytes
memory_fits holds bytes given h are at byte has =
    let lt : at < 2 ^ 16 =
    subst (λ (o : Option ℕ). IfSome o (λ v. at < 2 ^ 16)) (sym (h.bytes at) ∙ has) (at_address given at h.fits) in
    let there : slice_index (image_memory bytes) at ≡ byte = (holds bytes).1 at lt ∙ ap byte_or_zero has in
    (lt, omega (arith, are at, there))

byte_given : (given : List (ℕ × ℕ)) (at : ℕ) → GiveBytes given → IfSome (byte_at given at) (λ byte. byte < 2 ^ 8)
byte_given [] at bytes = tt
byte_given (b ∷ given) at bytes =
    cond_both (is_at (nat_cmp at) b.0) (Some b.1) (byte_at given at) (λ o. IfSome o (λ byte. byte < 2 ^ 8))
    (λ is. All-head (λ (p : ℕ × ℕ). p.1 < 2 ^ 8) b given bytes)
    (λ is. byte_given given at (All-tail (λ (p : ℕ × ℕ). p.1 < 2 ^ 8) b given bytes))

pub source_bytes : (bytes given : List (ℕ × ℕ)) → Holds bytes given → GiveBytes given → AreMemoryBytes bytes
source_bytes bytes given h are at byte has =
    let there : byte_at given at ≡ Some byte = sym (h.bytes at) ∙ has in (
      subst (λ (o : Option ℕ). IfSome o (λ v. at < 2 ^ 16)) there (at_address given at h.fits),
      subst (λ (o : Option ℕ). IfSome o (λ v. v < 2 ^ 8)) there (byte_given given at are),
    )

start_fits : (bytes : List (ℕ × ℕ)) → AreMemoryBytes bytes → start_of bytes < 2 ^ 16
start_fits bytes are =
    word (byte_at bytes 65534) (byte_at bytes 65535) (λ v is. (are 65534 v is).1) (λ v is. (are 65535 v is).1)
  where
    word : (high low : Option ℕ) → ((v : ℕ) → high ≡ Some v → v < 2 ^ 8) → ((v : ℕ) → low ≡ Some v → v < 2 ^ 8)
        → word_or_zero high low < 2 ^ 16
    word (Some h) (Some l) high low = omega (arith, high h refl, low l refl)
    word (Some h) None high low = omega arith
    word None l high low = omega arith

-- ---- images

pub has_records : ImagesHaveTexts → (image : Image) → IsAscending image.bytes → image.start ≡ start_of image.bytes
    → AreMemoryBytes image.bytes → HasRecords image
has_records texts image ascend start are =
    texts image.bytes image.start ascend are (omega (arith, start, start_fits image.bytes are))

pub image_records : ImagesHaveTexts → HoldsImage → (items : List Item) (image : Image) → IsImageOf items image
    → AreBytes (image_memory image.bytes) → HasRecords image
image_records texts holds items image is are =
    has_records texts image is.ascending is.start (memory_fits holds image.bytes (given_by items) is.bytes are)

-- what images rest on
pub record RecordLaws : Type 0 where
  pub texts : ImagesHaveTexts
  pub holds : HoldsImage
  pub alone : FirmwareIsBytes
  pub mailbox : MailboxIsBytes
  pub watched : WatchedIsBytes

pub firmware_records : RecordLaws → (form : Form) (block : Block) (firmware : Firmware) → IsValid block
    → IsWithinLimits block → IsOfForm form block firmware → HasRecords firmware.image
firmware_records laws (Alone width) block firmware valid limits is =
    image_records laws.texts laws.holds _ firmware.image is.0.image (laws.alone block firmware valid limits is.0)
firmware_records laws Mailbox block firmware valid limits is =
    image_records laws.texts laws.holds _ firmware.image is.0.image (laws.mailbox block firmware valid limits is.0)
firmware_records laws Watched block firmware valid limits is =
    image_records laws.texts laws.holds _ firmware.image is.image (laws.watched block firmware valid limits is)
