-- The commands `certify FCL TARGET OUT`, `certify16 ..`, and `tcertify ..` and `tcertify16 ..` for tight certificates.
-- Beside the promise.
use Rattle.std.specs.Prelude.{◌≡◌, ℕ, List, [], ◌∷◌, ◌++◌, codes, Option, Some, option_map, Result}
use Rattle.fuzzy_meaning.specs.{declared.block.Block.Block}
use Rattle.byte_scaling.specs.Widths.{parts}
use Rattle.box_tree.specs.{Certificates.CertText, Trees.leaf_count}
use Rattle.box_tree.specs.declared.{cert.CertFormat.CertFormat, cert.Cert.Cert}
use Rattle.error_certifier.specs.{Halving.IsHalvingFor, Laws.AreWithin, Targets.targets_of}
use Rattle.error_certifier.specs.{declared.targets.Targets.Targets}
use Rattle.fz_status.specs.{Words.Text, Words.word_at}
use Rattle.fz_status.specs.declared.status.Status.{Status}
use Rattle.build_commands.specs.declared.certify.Certify.{Certify}
use Rattle.command_parts.specs.{Certs.halving_in, Firmwares.GivesBlock, Firmwares.block_in, Words.targets_in}
use Rattle.command_parts.specs.Readings.{GivesSome, IsSettled, Reading, last, made_of, ◌then◌}
use Rattle.command_parts.specs.SeenOutputs.{SeenOutput}
use Rattle.command_parts.specs.Lines.{error_lines, line}

abbrev pub certify_with : CertFormat → Targets → Certify
certify_with format targets = record { format = format; targets = targets }

-- the command of the words, where TARGET is of its form
abbrev pub certify_in : CertFormat → List Text → Option Certify
certify_in format words = option_map (certify_with format) (targets_in format.kind (word_at words 3))

-- FCL
abbrev pub certify_inputs : List ℕ
certify_inputs = 2 ∷ []

-- ---- its lines: the error of each output, and how many leaves the certificate has

abbrev pub certify_lines : List ℕ → ℕ → List (List ℕ)
certify_lines errors leaves = error_lines (codes "error ") errors ++ line (codes "leaves ") leaves ∷ []

-- ---- what it makes of its file

-- the text gives a block, the certificate is that of its halving for this format, with each error at most its output's
-- target, and OUT is to hold the certificate's text
pub record CertifyGives (certify : Certify) (text : List ℕ) (output : SeenOutput) : Type 0 where
  pub block : Block
  pub gives : GivesBlock text block
  pub cert : Cert
  pub halving : IsHalvingFor certify.format.kind block (parts certify.format.width) (targets_of block certify.targets)
      cert
  pub within : AreWithin (targets_of block certify.targets) cert.claims
  pub out : List ℕ
  pub spelled : CertText certify.format out cert
  pub output_is : output ≡ record { lines = certify_lines cert.claims (leaf_count cert.nodes); file = Some (4, out) }

-- FCL's block, and the certificate of its halving
abbrev pub certify_reading : Certify → List ℕ → Reading (Block × Cert)
certify_reading certify text =
    block_in text then λ block.
    last (halving_in certify.format certify.targets block)

abbrev pub CertifyMakes : Certify → List ℕ → Result SeenOutput Status → Type 0
CertifyMakes certify text = made_of (certify_reading certify text) (CertifyGives certify text)

-- a text makes at most one output, and then no fault; and one where its block's halving ends with a certificate
abbrev pub CertifyIsSettled : Type 0
CertifyIsSettled = (certify : Certify) (text : List ℕ)
    → IsSettled (CertifyMakes certify text) (GivesSome (certify_reading certify text))
