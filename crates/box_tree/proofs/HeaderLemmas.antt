-- The first two lines of a text.
use Rattle.std.proofs.Common.{◌≡◌, ◌≢◌, ◌≤◌, ℕ, List, [], ◌∷◌, ◌++◌, refl, sym, ap, ◌∙◌, arith}
use Rattle.std.specs.Prelude.{codes}
use Rattle.std.proofs.lemmas.List.Elements.{All-cons, All-nil}
use Rattle.byte_scaling.specs.declared.width.Width.{Width}
use Rattle.box_tree.specs.declared.{cert.CertFormat.CertFormat, cert.CertKind.CertKind}
use Rattle.box_tree.specs.declared.cert.CertKind.TheVariants.{Named, Tight}
use Rattle.byte_scaling.specs.declared.width.Width.TheVariants.{Byte, Word}
use Rattle.box_tree.specs.Certificates.{AreClaims}
use Rattle.box_tree.specs.Texts.{claim_line, format_of, line, version_line, version_of}
use Rattle.box_tree.proofs.{LineLemmas.IsSmall, NodeLemmas.AreSmall, NodeLemmas.NoLine, NodeLemmas.line_is_one}

few_versions : (k : CertKind) (v : Width) → version_of k v ≤ 1000000
few_versions Named Byte = omega arith
few_versions Named Word = omega arith
few_versions Tight Byte = omega arith
few_versions Tight Word = omega arith

abbrev pub versions : CertFormat → List ℕ
versions format = version_of format.kind format.width ∷ []

version_is_small : (format : CertFormat) → AreSmall (versions format)
version_is_small format = All-cons IsSmall (version_of format.kind format.width) []
    (few_versions format.kind format.width) (All-nil IsSmall)

pub no_version_line : (text : List ℕ) (format : CertFormat) → NoLine (codes "FZC") text → (rest : List ℕ)
    → text ≢ version_line format ++ rest
no_version_line text format none rest same = none (versions format) rest (omega arith) (version_is_small format) same

pub no_version : (text ns behind : List ℕ) (format : CertFormat) → text ≡ line (codes "FZC") ns ++ behind
    → AreSmall ns → ns ≢ versions format → (rest : List ℕ) → text ≢ version_line format ++ rest
no_version text ns behind format found ns_small other rest same =
    other
    ((line_is_one (codes "FZC") ns (versions format) behind rest ns_small (version_is_small format)
    (sym found ∙ same)).0)

versions_are_one : (k j : CertKind) (v w : Width) → version_of k v ≡ version_of j w → (k ≡ j) × (v ≡ w)
versions_are_one Named Named Byte Byte same = (refl, refl)
versions_are_one Named Named Byte Word same = cc
versions_are_one Named Named Word Byte same = cc
versions_are_one Named Named Word Word same = (refl, refl)
versions_are_one Named Tight Byte Byte same = cc
versions_are_one Named Tight Byte Word same = cc
versions_are_one Named Tight Word Byte same = cc
versions_are_one Named Tight Word Word same = cc
versions_are_one Tight Named Byte Byte same = cc
versions_are_one Tight Named Byte Word same = cc
versions_are_one Tight Named Word Byte same = cc
versions_are_one Tight Named Word Word same = cc
versions_are_one Tight Tight Byte Byte same = (refl, refl)
versions_are_one Tight Tight Byte Word same = cc
versions_are_one Tight Tight Word Byte same = cc
versions_are_one Tight Tight Word Word same = (refl, refl)

pub one_version : (f g : CertFormat) (a b : List ℕ) → version_line f ++ a ≡ version_line g ++ b → (f ≡ g) × (a ≡ b)
one_version f g a b same =
    let one = line_is_one (codes "FZC") (versions f) (versions g) a b (version_is_small f) (version_is_small g) same in
    let numbers : versions f ≡ versions g = one.0 in
    let parts = versions_are_one f.kind g.kind f.width g.width cc in
    (ap (λ k. format_of k f.width) parts.0 ∙ ap (λ w. format_of g.kind w) parts.1, one.1)

pub one_claim_line : (claims others a b : List ℕ) → AreClaims claims → AreClaims others
    → claim_line claims ++ a ≡ claim_line others ++ b → (claims ≡ others) × (a ≡ b)
one_claim_line claims others a b are others_are same =
    line_is_one (codes "claim") claims others a b are.millionths others_are.millionths same

pub one_claims : (text ns behind : List ℕ) (claims rest : List ℕ) → text ≡ line (codes "claim") ns ++ behind
    → AreSmall ns → AreClaims claims → text ≡ claim_line claims ++ rest → (ns ≡ claims) × (behind ≡ rest)
one_claims text ns behind claims rest found small are same =
    line_is_one (codes "claim") ns claims behind rest small are.millionths (sym found ∙ same)
