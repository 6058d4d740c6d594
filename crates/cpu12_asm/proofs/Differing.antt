-- Where the bytes of two images differ.
use Rattle.std.proofs.Common.{◌≡◌, ◌≢◌, ◌⊎◌, inl, inr, ⊎_elim, ◌<◌, ℕ, List, [], ◌∷◌, Option, None, Some, Bool, true}
use Rattle.std.proofs.Common.{false, not, refl, sym, ◌∙◌, ap, subst, arith}
use Rattle.std.proofs.lemmas.Bool.{cases_eq}
use Rattle.std.proofs.lemmas.Bool.Decides.{nat_tests}
use Rattle.std.specs.Option.{option_eq}
use Rattle.std.specs.Prelude.{nat_eq}
use Rattle.cpu12_asm.specs.Bytes.{IsAscending, IsFirstMissing, byte_at}
use Rattle.cpu12_asm.proofs.Writing.{IsAscending-rest, byte_at-behind, byte_at-head, byte_at-other}

-- each byte is the other's or still to come
pub record Comparing (bytes others rest : List (ℕ × ℕ)) : Type 0 where
  pub ascending : IsAscending rest
  pub kept : (q b : ℕ) → byte_at rest q ≡ Some b → byte_at bytes q ≡ Some b
  pub shared : (q b : ℕ) → byte_at bytes q ≡ Some b → (byte_at others q ≡ Some b) ⊎ (byte_at rest q ≡ Some b)

none_is_no_byte : {X : Type 0} {o : Option X} {x : X} → o ≡ None → o ≡ Some x → ⊥
none_is_no_byte {X} {o} {x} none some = let bad : None ≡ Some x = sym none ∙ some in cc

pub starts : (bytes others rest : List (ℕ × ℕ)) → rest ≡ bytes → IsAscending bytes → Comparing bytes others rest
starts bytes others rest same ascending = subst (λ (l : List (ℕ × ℕ)). Comparing bytes others l) (sym same)
    (record { ascending = ascending; kept = λ q b is. is; shared = λ q b is. inr is })

pub goes_on : (bytes others rest : List (ℕ × ℕ)) (b : ℕ × ℕ) → Comparing bytes others (b ∷ rest)
    → byte_at others b.0 ≡ Some b.1 → Comparing bytes others rest
goes_on bytes others rest b c same = record {
  ascending = IsAscending-rest b rest c.ascending;
  kept = λ q x is. kept q x is (cases_eq q b.0);
  shared = λ q x is. ⊎_elim inl (λ at. shared q x at (cases_eq q b.0)) (c.shared q x is);
}
  where
    kept : (q x : ℕ) → byte_at rest q ≡ Some x → (q ≡ b.0) ⊎ (q ≡ b.0 → ⊥) → byte_at bytes q ≡ Some x
    kept q x is (inl here) = absurd (none_is_no_byte (byte_at-behind b rest q c.ascending (omega (arith, here))) is)
    kept q x is (inr other) = c.kept q x (byte_at-other b rest q other ∙ is)

    shared : (q x : ℕ) → byte_at (b ∷ rest) q ≡ Some x → (q ≡ b.0) ⊎ (q ≡ b.0 → ⊥)
        → (byte_at others q ≡ Some x) ⊎ (byte_at rest q ≡ Some x)
    shared q x at (inl here) =
        let first : byte_at (b ∷ rest) q ≡ Some b.1 =
        subst (λ (p : ℕ). byte_at (b ∷ rest) p ≡ Some b.1) (sym here) (byte_at-head b rest) in
        let its : byte_at others q ≡ Some b.1 = subst (λ (p : ℕ). byte_at others p ≡ Some b.1) (sym here) same in
        inl (its ∙ sym first ∙ at)
    shared q x at (inr other) = inr (sym (byte_at-other b rest q other) ∙ at)

pub stops : (bytes others rest : List (ℕ × ℕ)) (b : ℕ × ℕ) → Comparing bytes others (b ∷ rest)
    → byte_at others b.0 ≢ Some b.1 → IsFirstMissing bytes others b.0
stops bytes others rest b c lacks = record {
  byte = b.1;
  has = c.kept b.0 b.1 (byte_at-head b rest);
  lacks = lacks;
  before = λ q x below is. ⊎_elim (λ e. e) (λ at. absurd (none_is_no_byte (none q below) at)) (c.shared q x is);
}
  where
    none : (q : ℕ) → q < b.0 → byte_at (b ∷ rest) q ≡ None
    none q below = byte_at-other b rest q (λ same. omega (arith, below, same))
        ∙ byte_at-behind b rest q c.ascending (omega (arith, below))

pub ends : (bytes others rest : List (ℕ × ℕ)) → Comparing bytes others rest → rest ≡ [] → (q b : ℕ)
    → byte_at bytes q ≡ Some b → byte_at others q ≡ Some b
ends bytes others rest c none q b is =
    ⊎_elim (λ e. e) (λ at. absurd
    (none_is_no_byte {x = b} refl (subst (λ (l : List (ℕ × ℕ)). byte_at l q ≡ Some b) none at))) (c.shared q b is)

-- ---- the test of a byte

holds_byte : (o : Option ℕ) (b : ℕ) → option_eq nat_eq o (Some b) ≡ true → o ≡ Some b
holds_byte None b is = cc
holds_byte (Some x) b is = ap Some (grind (arith, nat_tests))

lacks_byte : (o : Option ℕ) (b : ℕ) → option_eq nat_eq o (Some b) ≡ false → o ≢ Some b
lacks_byte None b is = λ e. cc
lacks_byte (Some x) b is = λ e. let same : x ≡ b = cc in absurd (grind (arith, nat_tests))

pub has_byte : (o p : Option ℕ) (b : ℕ) (differs : Bool) → differs ≡ not (option_eq nat_eq o (Some b)) → differs ≡ false
    → o ≡ p → p ≡ Some b
has_byte o p b differs test is same = sym same ∙ holds_byte o b (tests (option_eq nat_eq o (Some b)) (sym test ∙ is))
  where
    tests : (t : Bool) → not t ≡ false → t ≡ true
    tests true e = refl
    tests false e = cc

pub has_no_byte : (o p : Option ℕ) (b : ℕ) (differs : Bool) → differs ≡ not (option_eq nat_eq o (Some b))
    → differs ≡ true
    → o ≡ p → p ≢ Some b
has_no_byte o p b differs test is same =
    λ e. lacks_byte o b (tests (option_eq nat_eq o (Some b)) (sym test ∙ is)) (same ∙ e)
  where
    tests : (t : Bool) → not t ≡ true → t ≡ false
    tests true e = cc
    tests false e = refl
