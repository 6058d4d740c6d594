-- Certificates of a text's block.
-- Beside the promise.
use Rattle.std.specs.Prelude.{ℕ, List}
use Rattle.error_certifier.specs.{Halving.IsHalvingFor, Halving.StopsFor, Laws.SaysOutOfReachFor, Targets.targets_of}
use Rattle.error_certifier.specs.declared.{certifier.NotReached.NotReached, targets.Targets.Targets}
use Rattle.box_tree.specs.{declared.cert.Cert.Cert, declared.cert.CertFormat.CertFormat}
use Rattle.fuzzy_meaning.specs.{Blocks.IsValid, declared.block.Block.Block}
use Rattle.byte_scaling.specs.Widths.{parts}
use Rattle.cert_check.specs.TextFaults.{IsAcceptedText, HasTextFault}
use Rattle.cert_check.specs.declared.text.TextFault.TheVariants as refusal
use Rattle.command_parts.specs.Readings.{IsExact, Stage}
use Rattle.fz_status.specs.{Refusals.Refusals, declared.status.CertRefusal.CertRefusal}
use Rattle.fz_status.specs.declared.status.CertRefusal.TheVariants as told
use Rattle.fz_status.specs.declared.status.Status.TheVariants as status

-- CERT is a certificate of this format that is accepted for the block, with these errors
abbrev pub AcceptsCert : CertFormat → Block → List ℕ → List ℕ → Type 0
AcceptsCert format block cert errors = IsAcceptedText block (parts format.width) format cert errors

-- why the block refuses it
abbrev pub HasCertFault : CertFormat → Block → List ℕ → CertRefusal → Type 0
HasCertFault format block cert (told.Text f) = HasTextFault block (parts format.width) format cert (refusal.Text f)
HasCertFault format block cert (told.Check f) = HasTextFault block (parts format.width) format cert (refusal.Check f)

abbrev pub cert_refusals : CertFormat → Block → List ℕ → Refusals
cert_refusals format block cert (status.Cert f) = HasCertFault format block cert f
cert_refusals format block cert s = ⊥

-- the errors of a certificate that the block accepts
abbrev pub cert_in : CertFormat → Block → List ℕ → Stage (List ℕ)
cert_in format block cert = record {
  gives = AcceptsCert format block cert;
  Seen = List ℕ;
  seen = λ errors. errors;
  refuses = cert_refusals format block cert;
}

abbrev pub CertsAreExact : Type 0
CertsAreExact = (format : CertFormat) (block : Block) (cert : List ℕ) → IsValid block
    → IsExact (cert_in format block cert)

-- halving for this format stops so, and for a cell no certificate that is accepted has a smaller error: for tight ones
-- none at all, for those that name rules none that does
pub record StopsHalving (format : CertFormat) (targets : Targets) (block : Block) (stop : NotReached)
    : Type 0 where
  pub stops : StopsFor format.kind block (parts format.width) (targets_of block targets) stop
  pub out_of_reach : SaysOutOfReachFor format.kind block (parts format.width) (targets_of block targets) stop

-- why halving ends without a certificate
abbrev pub target_refusals : CertFormat → Targets → Block → Refusals
target_refusals format targets block (status.NotReached stop) = StopsHalving format targets block stop
target_refusals format targets block s = ⊥

-- the certificate of a block's halving within these targets
abbrev pub halving_in : CertFormat → Targets → Block → Stage Cert
halving_in format targets block = record {
  gives = IsHalvingFor format.kind block (parts format.width) (targets_of block targets);
  Seen = Cert;
  seen = λ cert. cert;
  refuses = target_refusals format targets block;
}

abbrev pub HalvingsAreExact : Type 0
HalvingsAreExact = (format : CertFormat) (targets : Targets) (block : Block) → IsValid block
    → IsExact (halving_in format targets block)
