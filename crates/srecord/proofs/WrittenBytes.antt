-- The bytes of records that are written.
use Rattle.std.proofs.Common.{◌≡◌, ℕ, suc, ◌+◌, ◌-◌, ◌<◌, ◌≤◌, List, [], ◌∷◌, ◌++◌, length, get_or, None, refl, ap}
use Rattle.std.proofs.Common.{subst, arith, inl, inr, nat_cmp}
use Rattle.std.specs.Map.{keys_of}
use Rattle.std.specs.List.{AllByRecursion}
use Rattle.std.specs.List.Sorted.{IsStrictlySortedBy}
use Rattle.std.specs.declared.cmp.Ordering.TheVariants.{Less}
use Rattle.std.proofs.lemmas.Bool.{cases_lt, cases_eq}
use Rattle.std.proofs.lemmas.Bool.Decides.{nat_tests}
use Rattle.cpu12_asm.specs.Bytes.{IsAscending, byte_at, placed}
use Rattle.srecord.specs.Texts.{with_bytes}

-- the addresses ascend from one on
abbrev pub RiseFrom : ℕ → List (ℕ × ℕ) → Type 0
RiseFrom low [] = Unit {0}
RiseFrom low (b ∷ bytes) = (low ≤ b.0) × RiseFrom (b.0 + 1) bytes

rise_above : (at : ℕ) (bytes : List (ℕ × ℕ)) → AllByRecursion (λ y. nat_cmp at y ≡ Less) (keys_of bytes)
    → IsAscending bytes → RiseFrom (at + 1) bytes
unfolding IsStrictlySortedBy
rise_above at [] above ascend = tt
rise_above at (b ∷ bytes) above ascend = let less = above.0 in
    (grind (arith, nat_tests), rise_above b.0 bytes ascend.0 ascend.1)

pub rise : (bytes : List (ℕ × ℕ)) → IsAscending bytes → RiseFrom 0 bytes
unfolding IsStrictlySortedBy
rise [] ascend = tt
rise (b ∷ bytes) ascend = (omega arith, rise_above b.0 bytes ascend.0 ascend.1)

pub rise_behind : (low at : ℕ) (bytes : List ℕ) (behind : List (ℕ × ℕ)) → 1 ≤ length bytes
    → RiseFrom low (placed at bytes ++ behind)
    → (low ≤ at) × RiseFrom (at + length bytes) behind
rise_behind low at [] behind some rises = absurd (omega arith)
rise_behind low at (b ∷ []) behind some rises = rises
rise_behind low at (b ∷ c ∷ bytes) behind some rises =
    let rest = rise_behind (at + 1) (at + 1) (c ∷ bytes) behind (omega arith) rises.1 in
    (rises.0, subst (λ (n : ℕ). RiseFrom n behind) (omega arith) rest.1)

pub none_below : (low q : ℕ) (bytes : List (ℕ × ℕ)) → RiseFrom low bytes → q < low → byte_at bytes q ≡ None
none_below low q [] rises below = refl
none_below low q (b ∷ bytes) rises below =
    let rest = none_below (b.0 + 1) q bytes rises.1 (omega (arith, rises.0)) in
    let lt = rises.0 in
    grind (arith, nat_tests)

pub byte_at-placed_then : (at q : ℕ) (bytes : List ℕ) (behind : List (ℕ × ℕ))
    → byte_at (placed at bytes ++ behind) q ≡ with_bytes (byte_at behind) at bytes q
byte_at-placed_then at q [] behind = grind (arith, nat_tests)
byte_at-placed_then at q (b ∷ bytes) behind = let rest = byte_at-placed_then (at + 1) q bytes behind in
    elim (cases_lt at q) [
      | inl lt ↦ (let gap : q - at ≡ suc (q - (at + 1)) = omega arith in
          let shift = ap (λ (k : ℕ). get_or (b ∷ bytes) k 0) gap in grind (arith, nat_tests))
      | inr ge ↦ elim (cases_eq at q) [
        | inl here ↦ (let gap : q - at ≡ 0 = omega arith in let first = ap (λ (k : ℕ). get_or (b ∷ bytes) k 0) gap in
            grind (arith, nat_tests))
        | inr below ↦ grind (arith, nat_tests)
      ]
    ]
