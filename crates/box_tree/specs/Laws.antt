-- What holds of every certificate's text.
-- Beside the promise.
use Rattle.std.specs.Prelude.{◌≡◌, ◌⊎◌, ℕ, List, ◌++◌, Some}
use Rattle.box_tree.specs.declared.{cert.CertFormat.CertFormat, cert.Node.Node}
use Rattle.box_tree.specs.declared.{cert.Cert.Cert, cert.CertFault.CertFault}
use Rattle.box_tree.specs.{Certificates.CertText, Certificates.HasFault, Trees.open_from}

-- a text has at most one certificate, of one format
abbrev pub CertsAreOne : Type 0
CertsAreOne =
    (f g : CertFormat) (text : List ℕ) (a b : Cert) → CertText f text a → CertText g text b → (f ≡ g) × (a ≡ b)

-- a text has at most one first fault
abbrev pub FaultsAreOne : Type 0
FaultsAreOne =
    (format : CertFormat) (text : List ℕ) (f g : CertFault) → HasFault format text f → HasFault format text g → f ≡ g

-- and one with a certificate has none
abbrev pub CertTextsHaveNoFault : Type 0
CertTextsHaveNoFault =
    (format : CertFormat) (text : List ℕ) (cert : Cert) (f : CertFault) → CertText format text cert
    → HasFault format text f → ⊥

-- and each text has the one or the other
abbrev pub EachTextIsJudged : Type 0
EachTextIsJudged = (format : CertFormat) (text : List ℕ)
    → ((cert : Cert) × CertText format text cert) ⊎ ((f : CertFault) × HasFault format text f)

-- more nodes go on with the boxes that those before left open
abbrev pub OpenBoxesGoOn : Type 0
OpenBoxesGoOn =
    (k n : ℕ) (nodes more : List Node) → open_from k nodes ≡ Some n → open_from k (nodes ++ more) ≡ open_from n more
