-- Bytes of an image written one after the other, by ascending addresses.
use Rattle.std.proofs.Common.{◌≡◌, ℕ, ◌+◌, ◌<◌, ◌≤◌, Bool, true, false, cond, List, [], ◌∷◌, length, get_or, Some, None}
use Rattle.std.proofs.Common.{unwrap_or, refl, sym, ap, ◌∙◌, subst, arith, inl, inr, nat_cmp, get_or-set_same}
use Rattle.std.proofs.Common.{get_or-set_other}
use Rattle.std.proofs.lemmas.Bool.{cases_eq}
use Rattle.std.proofs.lemmas.Bool.Decides.{nat_tests}
use Rattle.std.proofs.Math.ListN.{set}
use Rattle.std.specs.BTreeMap.{is_at}
use Rattle.std.specs.List.{AllByRecursion}
use Rattle.std.specs.List.Sorted.{IsStrictlySortedBy}
use Rattle.std.specs.Map.{keys_of}
use Rattle.std.specs.declared.cmp.Ordering.TheVariants.{Less}
use Rattle.cpu12_asm.specs.Bytes.{byte_at, IsAscending}

is_at-less : (p q : ℕ) → nat_cmp p q ≡ Less → is_at (nat_cmp p) q ≡ false
is_at-less p q h = rw h refl

pub is_at-refl : (p : ℕ) → is_at (nat_cmp p) p ≡ true
is_at-refl p = grind (arith, nat_tests)

pub is_at-other : (p q : ℕ) → (p ≡ q → ⊥) → is_at (nat_cmp p) q ≡ false
is_at-other p q h = grind (arith, nat_tests)

none_above : (k : ℕ) (bytes : List (ℕ × ℕ)) → AllByRecursion (λ y. nat_cmp k y ≡ Less) (keys_of bytes)
    → byte_at bytes k ≡ None
none_above k [] h = refl
none_above k (b ∷ bytes) h = ap (λ (t : Bool). cond t (Some b.1) (byte_at bytes k)) (is_at-less k b.0 h.0)
    ∙ none_above k bytes h.1

-- no byte stands at an address that is no higher than those below all others
none_up_to : (k q : ℕ) (bytes : List (ℕ × ℕ)) → AllByRecursion (λ y. nat_cmp k y ≡ Less) (keys_of bytes) → q ≤ k
    → byte_at bytes q ≡ None
none_up_to k q [] h le = refl
none_up_to k q (b ∷ bytes) h le =
    ap (λ (t : Bool). cond t (Some b.1) (byte_at bytes q)) (is_at-other q b.0 (λ same. past k q b.0 h.0 le same))
    ∙ none_up_to k q bytes h.1 le
  where
    past : (low at high : ℕ) → nat_cmp low high ≡ Less → at ≤ low → at ≡ high → ⊥
    past low at high less up same = grind (arith, nat_tests)

pub byte_at-head : (b : ℕ × ℕ) (bytes : List (ℕ × ℕ)) → byte_at (b ∷ bytes) b.0 ≡ Some b.1
byte_at-head b bytes = ap (λ (t : Bool). cond t (Some b.1) (byte_at bytes b.0)) (is_at-refl b.0)

pub byte_at-other : (b : ℕ × ℕ) (bytes : List (ℕ × ℕ)) (q : ℕ) → (q ≡ b.0 → ⊥) → byte_at (b ∷ bytes) q ≡ byte_at bytes q
byte_at-other b bytes q other = ap (λ (t : Bool). cond t (Some b.1) (byte_at bytes q)) (is_at-other q b.0 other)

-- behind some address no byte stands
pub highest : (bytes : List (ℕ × ℕ)) → (n : ℕ) × ((q : ℕ) → n ≤ q → byte_at bytes q ≡ None)
highest [] = (0, λ q l. refl)
highest (b ∷ bytes) =
    let r = highest bytes in
    (r.0 + b.0 + 1, λ q l. byte_at-other b bytes q (λ same. omega (arith, l, same)) ∙ r.1 q (omega (arith, l)))

pub byte_at-behind : (b : ℕ × ℕ) (bytes : List (ℕ × ℕ)) (q : ℕ) → IsAscending (b ∷ bytes) → q ≤ b.0
    → byte_at bytes q ≡ None
unfolding IsStrictlySortedBy
byte_at-behind b bytes q h le = none_up_to b.0 q bytes h.0 le

pub IsAscending-rest : (b : ℕ × ℕ) (bytes : List (ℕ × ℕ)) → IsAscending (b ∷ bytes) → IsAscending bytes
unfolding IsStrictlySortedBy
IsAscending-rest b bytes h = h.1

-- the first byte written, the others still to come
pub byte-written : (b : ℕ × ℕ) (bytes : List (ℕ × ℕ)) (m : List ℕ) (at : ℕ) → IsAscending (b ∷ bytes) → b.0 < length m
    → unwrap_or (byte_at bytes at) (get_or (set m b.0 b.1) at 0) ≡ unwrap_or (byte_at (b ∷ bytes) at) (get_or m at 0)
unfolding IsStrictlySortedBy
byte-written b bytes m at h l = elim (cases_eq at b.0) [
  | inl e ↦
      let none : byte_at bytes at ≡ None =
      subst (λ (k : ℕ). byte_at bytes k ≡ None) (sym e) (none_above b.0 bytes h.0) in
      let here : is_at (nat_cmp at) b.0 ≡ true = subst (λ (k : ℕ). is_at (nat_cmp at) k ≡ true) e (is_at-refl at) in
      let byte : get_or (set m b.0 b.1) at 0 ≡ b.1 =
      subst (λ (k : ℕ). get_or (set m b.0 b.1) k 0 ≡ b.1) (sym e) (get_or-set_same m b.0 b.1 0 l) in
      rw (none, here) byte
  | inr ne ↦
      let there : is_at (nat_cmp at) b.0 ≡ false = is_at-other at b.0 ne in
      let byte : get_or (set m b.0 b.1) at 0 ≡ get_or m at 0 = get_or-set_other m b.0 at b.1 0 ne in
      rw (there, byte) refl
]
