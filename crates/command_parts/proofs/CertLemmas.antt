-- A certificate that a block accepts is not refused.
use Rattle.std.proofs.Common.{◌≡◌, ◌≢◌, ℕ, List, ap}
use Rattle.std.specs.Prelude.{Result, Ok, Err}
use Rattle.fuzzy_meaning.specs.{Blocks.IsValid, declared.block.Block.Block}
use Rattle.byte_scaling.specs.Widths.{parts}
use Rattle.box_tree.specs.Certificates.{HasFault, bad_version}
use Rattle.box_tree.specs.declared.{cert.CertFormat.CertFormat, cert.CertFault.CertFault}
use Rattle.box_tree.specs.declared.cert.CertFault.TheVariants as cert
use Rattle.box_tree.specs.declared.{cert.Cert.Cert, cert.Node.Node}
use Rattle.error_bound.specs.declared.boxes.Interval.{Interval}
use Rattle.error_bound.specs.declared.boxes.Leaf as the
use Rattle.cell_bounds.specs.declared.claims.Claim.{Claim}
use Rattle.cell_bounds.specs.declared.claims.Claim.TheVariants as claim
use Rattle.cert_check.specs.declared.checker.CheckFault.{CheckFault}
use Rattle.cert_check.specs.declared.checker.CheckFault.TheVariants as check
use Rattle.cert_check.specs.declared.text.TextFault.{TextFault as TheRefusal}
use Rattle.cert_check.specs.declared.text.TextFault.TheVariants as refusal
use Rattle.cert_check.specs.Faults.{IsPairFault, bad_rule, fails, IsCellsFault, too_many, unsure, IsClaimFault}
use Rattle.cert_check.specs.Faults.{HasTreeFault, bad_cut, bad_leaf, HasCheckFault, outputs, tree, claimed}
use Rattle.cert_check.specs.{Laws.TextAnswersAreOne, TextFaults.HasTextFault, TextFaults.of_text, TextFaults.of_cert}
use Rattle.command_parts.specs.Certs.{AcceptsCert, HasCertFault, cert_refusals}
use Rattle.fz_status.specs.{Refusals.IsRefusal, Refusals.status_of, declared.status.CertRefusal.CertRefusal}
use Rattle.fz_status.specs.declared.status.CertRefusal.TheVariants as told

abbrev refusal_of : CertRefusal → TheRefusal
refusal_of (told.Text f) = refusal.Text f
refusal_of (told.Check f) = refusal.Check f

has_refusal : (format : CertFormat) (block : Block) (text : List ℕ) (f : CertRefusal)
    → HasCertFault format block text f → HasTextFault block (parts format.width) format text (refusal_of f)
has_refusal format block text (told.Text f) h = h
has_refusal format block text (told.Check f) h = h

-- a certificate that a block accepts is not refused
pub certs_apart : TextAnswersAreOne → (format : CertFormat) (block : Block) (text errors : List ℕ)
    (f : CertRefusal) → IsValid block → AcceptsCert format block text errors → HasCertFault format block text f → ⊥
certs_apart answers format block text errors f valid accepts fault =
    let refused = has_refusal format block text f fault in
    let same : Ok errors ≡ Err (refusal_of f) =
    answers block (parts format.width) format text (Ok errors) (Err (refusal_of f)) valid
    accepts refused in
    cc

-- and another has one refusal
same_refusal : (f g : CertRefusal) → refusal_of f ≡ refusal_of g → f ≡ g
same_refusal (told.Text x) (told.Text y) e = let is : x ≡ y = cc in ap told.Text is
same_refusal (told.Check x) (told.Check y) e = let is : x ≡ y = cc in ap told.Check is
same_refusal (told.Text x) (told.Check y) e = cc
same_refusal (told.Check x) (told.Text y) e = cc

pub refusals_are_one : TextAnswersAreOne → (format : CertFormat) (block : Block) (text : List ℕ)
    (f g : CertRefusal) → IsValid block → HasCertFault format block text f → HasCertFault format block text g → f ≡ g
refusals_are_one answers format block text f g valid v w =
    let x : Result (List ℕ) TheRefusal = Err (refusal_of f) in
    let y : Result (List ℕ) TheRefusal = Err (refusal_of g) in
    let same : x ≡ y = answers block (parts format.width) format text x y valid
    (has_refusal format block text f v) (has_refusal format block text g w) in
    same_refusal f g (let is : refusal_of f ≡ refusal_of g = cc in is)

-- ---- a refusal is no want of memory

pub text_carries : (format : CertFormat) (text : List ℕ) (f : CertFault) → HasFault format text f → f ≢ cert.Memory
text_carries format text _ (bad_version some none) e = cc
text_carries format text _ _ e = cc

pair_carries : (b : Block) (box : List Interval) (o : ℕ) (leaf : the.Leaf) (line : ℕ) (f : CheckFault)
    → IsPairFault b box o leaf line f → f ≢ check.Memory
pair_carries b box o leaf line _ (bad_rule none) e = cc
pair_carries b box o leaf line _ (fails g pair h) e = cc

cells_carry : (b : Block) (h : ℕ) (box : List Interval) (o line : ℕ) (f : CheckFault)
    → IsCellsFault b h box o line f → f ≢ check.Memory
cells_carry b h box o line _ (too_many many) e = cc
cells_carry b h box o line _ (unsure few on) e = cc

claim_carries : (b : Block) (h : ℕ) (box : List Interval) (o line : ℕ) (c : Claim) (f : CheckFault)
    → IsClaimFault b h box o line c f → f ≢ check.Memory
claim_carries b h box o line (claim.Pair l) f fault e = pair_carries b box o l line f fault e
claim_carries b h box o line claim.Tight f fault e = let is = fault.0 in cc
claim_carries b h box o line claim.Cells f fault e = cells_carry b h box o line f fault e

tree_carries : (b : Block) (h : ℕ) (nodes : List Node) (f : CheckFault) → HasTreeFault b h nodes f → f ≢ check.Memory
tree_carries b h nodes _ (bad_cut box i c rest r none) e = cc
tree_carries b h nodes f (bad_leaf box form rest g r p) e = claim_carries b h _ p.output _ p.claim f p.is e

pub check_carries : (b : Block) (h : ℕ) (c : Cert) (f : CheckFault) → HasCheckFault b h c f → f ≢ check.Memory
check_carries b h c _ (outputs differ) e = cc
check_carries b h c f (tree g count t) e = tree_carries b h c.nodes f t e
check_carries b h c _ (claimed es k over count a) e = cc

-- ---- the checker's answer as a status

pub as_refusal : (format : CertFormat) (block : Block) (text : List ℕ) (r : TheRefusal)
    → (r ≢ refusal.Memory → HasTextFault block (parts format.width) format text r)
    → IsRefusal (cert_refusals format block text) (status_of r)
as_refusal format block text refusal.Memory h = tt
as_refusal format block text (refusal.Text f) h = let is = h (λ e. let z : ⊥ = cc in z) in (text_is is, is)
  where
    text_is : HasTextFault block (parts format.width) format text (refusal.Text f) → f ≢ cert.Memory
    text_is (of_text g fault) = text_carries format text g fault
as_refusal format block text (refusal.Check f) h = let is = h (λ e. let z : ⊥ = cc in z) in (check_is is, is)
  where
    check_is : HasTextFault block (parts format.width) format text (refusal.Check f) → f ≢ check.Memory
    check_is (of_cert c g spelled fault) = check_carries block (parts format.width) c g fault

-- a certificate is accepted with one list of errors
pub errors_are_one : TextAnswersAreOne → (format : CertFormat) (block : Block)
    (cert errors others : List ℕ) → IsValid block → AcceptsCert format block cert errors
    → AcceptsCert format block cert others → errors ≡ others
errors_are_one one format block cert errors others valid a b =
    let x : Result (List ℕ) TheRefusal = Ok errors in
    let y : Result (List ℕ) TheRefusal = Ok others in
    let same : x ≡ y = one block (parts format.width) format cert x y valid a b in
    cc
