-- Texts whose certificates are accepted, and why others are refused.
-- Beside the promise.
use Rattle.std.specs.Prelude.{ℕ, List}
use Rattle.fuzzy_meaning.specs.declared.block.Block.{Block}
use Rattle.box_tree.specs.declared.{cert.CertFormat.CertFormat, cert.Cert.Cert}
use Rattle.box_tree.specs.declared.cert.CertFault.{CertFault}
use Rattle.box_tree.specs.Certificates.{CertText, HasFault}
use Rattle.cert_check.specs.declared.{checker.CheckFault.CheckFault, text.TextFault.TextFault}
use Rattle.cert_check.specs.declared.text.TextFault.TheVariants as refusal
use Rattle.cert_check.specs.{Acceptance.IsAccepted, Faults.HasCheckFault}

-- the text is that of a certificate in this format that is accepted, with these errors, for answers in h parts to a
-- byte
pub record IsAcceptedText (b : Block) (h : ℕ) (format : CertFormat) (text errors : List ℕ) : Type 0 where
  pub cert : Cert
  pub spelled : CertText format text cert
  pub accepted : IsAccepted b h cert errors

-- the text has a first fault, or it is that of a certificate that has one
pub data HasTextFault (b : Block) (h : ℕ) (format : CertFormat) (text : List ℕ) : TextFault → Type 0 where
  of_text : (f : CertFault) → HasFault format text f → HasTextFault b h format text (refusal.Text f)
  of_cert : (cert : Cert) (f : CheckFault) → CertText format text cert → HasCheckFault b h cert f
      → HasTextFault b h format text (refusal.Check f)
