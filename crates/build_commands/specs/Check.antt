-- The commands `check FCL CERT`, `check16 ..`, and `tcheck ..` and `tcheck16 ..` of tight certificates.
-- Beside the promise.
use Rattle.std.specs.Prelude.{◌≡◌, ℕ, List, [], ◌∷◌, ◌++◌, codes, Result}
use Rattle.fuzzy_meaning.specs.declared.block.Block.{Block}
use Rattle.eval_code.specs.Bounds.{instruction_bound}
use Rattle.box_tree.specs.declared.cert.CertFormat.{CertFormat}
use Rattle.command_parts.specs.{Certs.AcceptsCert, Certs.cert_in, SeenOutputs.SeenOutput, SeenOutputs.only_lines}
use Rattle.command_parts.specs.Firmwares.{GivesBlock, block_in}
use Rattle.command_parts.specs.Readings.{IsSettled, Reading, last, made_of, ◌then◌}
use Rattle.command_parts.specs.Lines.{error_lines, line}
use Rattle.build_commands.specs.declared.check.Check.{Check}
use Rattle.fz_status.specs.declared.status.Status.{Status}

abbrev pub check_in : CertFormat → Check
check_in format = record { format = format }

-- FCL and CERT
abbrev pub check_inputs : List ℕ
check_inputs = 2 ∷ 3 ∷ []

-- ---- its lines: the error of each output, and the bound on instructions

abbrev pub check_lines : List ℕ → ℕ → List (List ℕ)
check_lines errors instructions =
    error_lines (codes "error ") errors ++ line (codes "instructions ") instructions ∷ []

-- ---- what it makes of its files

-- the text gives a block, and CERT is a certificate that is accepted with these errors; the bound is that of the
-- block's firmware with answers of the format's width
pub record CheckGives (check : Check) (text cert : List ℕ) (output : SeenOutput) : Type 0 where
  pub block : Block
  pub gives : GivesBlock text block
  pub errors : List ℕ
  pub accepts : AcceptsCert check.format block cert errors
  pub output_is : output ≡ only_lines (check_lines errors (instruction_bound check.format.width block))

-- FCL's block, and CERT
abbrev pub check_reading : Check → List ℕ → List ℕ → Reading (Block × List ℕ)
check_reading check text cert =
    block_in text then λ block.
    last (cert_in check.format block cert)

abbrev pub CheckMakes : Check → List ℕ → List ℕ → Result SeenOutput Status → Type 0
CheckMakes check text cert = made_of (check_reading check text cert) (CheckGives check text cert)

-- the text gives a block, and CERT is accepted
abbrev pub CheckAccepts : Check → List ℕ → List ℕ → Type 0
CheckAccepts check text cert =
    (block : Block) × (errors : List ℕ) × GivesBlock text block × AcceptsCert check.format block cert errors

-- files make at most one output, and then no fault; and one where they are accepted
abbrev pub CheckIsSettled : Type 0
CheckIsSettled = (check : Check) (text cert : List ℕ)
    → IsSettled (CheckMakes check text cert) (CheckAccepts check text cert)
