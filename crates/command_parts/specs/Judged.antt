-- Files that give something or are refused.
-- Beside the promise.
use Rattle.std.specs.Prelude.{◌⊎◌, ◌≤◌, ℕ, List, length, Result}
use Rattle.box_tree.specs.declared.cert.CertFormat.{CertFormat}
use Rattle.cpu12_asm.specs.declared.image.Image.{Image}
use Rattle.error_certifier.specs.declared.targets.Targets.{Targets}
use Rattle.fuzzy_meaning.specs.{Blocks.IsValid, declared.block.Block.Block}
use Rattle.fz_status.specs.{Refusals.Refuses, declared.status.Status.Status}
use Rattle.command_parts.specs.{Certs.cert_in, Certs.halving_in, Firmwares.block_in, Firmwares.firmware_in}
use Rattle.command_parts.specs.{Handlers.handler_in, Images.image_in, Readings.Reading, Readings.Stage, Twos.twos_in}
use Rattle.command_parts.specs.Readings.{last, ◌then◌}
use Rattle.command_parts.specs.{SeenOutputs.SeenOutput, Words.AreMillionths, declared.firmware.Form.Form}

-- a file gives something, or a status refuses it, and never for want of memory
abbrev pub IsJudged : {B : Type 0} → Stage B → Type 0
IsJudged {B} f = ((b : B) × f.gives b) ⊎ ((s : Status) × Refuses f.refuses s)

-- so it is with each file behind those that give something
abbrev pub AreJudged : {B : Type 0} → Reading B → Type 0
AreJudged (last f) = IsJudged f
AreJudged (first then next) = IsJudged first × ((b : _) → first.gives b → AreJudged (next (first.seen b)))

-- a command makes something of contents: an output, or a refusal, which is never for want of memory
abbrev pub HasResult : (Result SeenOutput Status → Type 0) → Type 0
HasResult made = (r : Result SeenOutput Status) × made r

-- ---- laws: texts of at most 1048576 bytes, records, handlers, certificates and halvings

abbrev pub BlocksAreJudged : Type 0
BlocksAreJudged = (text : List ℕ) → length text ≤ 1048576 → IsJudged (block_in text)

abbrev pub FirmwaresAreJudged : Type 0
FirmwaresAreJudged = (form : Form) (text : List ℕ) → length text ≤ 1048576 → IsJudged (firmware_in form text)

abbrev pub TwosAreJudged : Type 0
TwosAreJudged =
    (slow fast : List ℕ) → length slow ≤ 1048576 → length fast ≤ 1048576 → IsJudged (twos_in slow fast)

abbrev pub ImagesAreJudged : Type 0
ImagesAreJudged = (text : List ℕ) (wanted : Image) → IsJudged (image_in text wanted)

abbrev pub HandlersAreJudged : Type 0
HandlersAreJudged = (text : List ℕ) → IsJudged (handler_in text)

abbrev pub CertsAreJudged : Type 0
CertsAreJudged =
    (format : CertFormat) (block : Block) (cert : List ℕ) → IsValid block → IsJudged (cert_in format block cert)

abbrev pub HalvingsAreJudged : Type 0
HalvingsAreJudged =
    (format : CertFormat) (targets : Targets) (block : Block) → IsValid block → AreMillionths targets
    → IsJudged (halving_in format targets block)
