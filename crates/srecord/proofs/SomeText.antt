-- Bytes of memory have a text.
use Rattle.std.proofs.Common.{◌≡◌, ◌≢◌, ◌≤◌, ◌<◌, ◌+◌, ◌^◌, ℕ, List, [], ◌∷◌, ◌++◌, length, Some, arith, refl, ap}
use Rattle.std.proofs.Common.{subst, inl, inr, length-append}
use Rattle.std.specs.Prelude.{◌⊎◌}
use Rattle.std.proofs.lemmas.Bool.{cases_eq, cases_lt}
use Rattle.std.proofs.lemmas.Bool.Decides.{nat_tests}
use Rattle.cpu12_asm.specs.Bytes.{byte_at, placed}
use Rattle.srecord.specs.Images.{AreCut, Piece, StartsAt, next, none}
use Rattle.srecord.specs.Laws.{AreMemoryBytes, ImagesHaveTexts}
use Rattle.srecord.proofs.{WrittenBytes.RiseFrom, WrittenBytes.none_below, WrittenBytes.rise}
use Rattle.srecord.proofs.WrittenLines.{AreBytes, are_bytes_with, bytes_at}

-- bytes of memory, byte by byte
abbrev Fit : List (ℕ × ℕ) → Type 0
Fit [] = Unit {0}
Fit (b ∷ bytes) = (b.0 < 2 ^ 16) × (b.1 < 2 ^ 8) × Fit bytes

fit : (low : ℕ) (bytes : List (ℕ × ℕ)) → RiseFrom low bytes → AreMemoryBytes bytes → Fit bytes
fit low [] rises all = tt
fit low (b ∷ bytes) rises all =
    let here = all b.0 b.1 (grind (arith, nat_tests)) in
    (here.0, here.1, fit (b.0 + 1) bytes rises.1 (λ q v has. all q v (behind q v has)))
  where
    behind : (q v : ℕ) → byte_at bytes q ≡ Some v → byte_at (b ∷ bytes) q ≡ Some v
    behind q v has = elim (cases_lt q (b.0 + 1)) [
      | inl lt ↦ (let nothing = none_below (b.0 + 1) q bytes rises.1 lt in absurd (cc))
      | inr ge ↦ grind (arith, nat_tests)
    ]

-- a piece that has begun
record IsBegun (at : ℕ) (piece : List ℕ) : Type 0 where
  some : 1 ≤ length piece
  few : length piece ≤ 32
  fits : at + length piece ≤ 65536
  are_bytes : AreBytes piece

placed-snoc : (at : ℕ) (piece : List ℕ) (b : ℕ × ℕ) (bytes : List (ℕ × ℕ)) → b.0 ≡ at + length piece
    → placed at (piece ++ b.1 ∷ []) ++ bytes ≡ placed at piece ++ b ∷ bytes
placed-snoc at [] b bytes is = ap (λ (a : ℕ). (a, b.1) ∷ bytes) (omega (arith, is))
placed-snoc at (x ∷ piece) b bytes is =
    ap (λ (l : List (ℕ × ℕ)). (at, x) ∷ l) (placed-snoc (at + 1) piece b bytes (omega (arith, is)))

ended : (at : ℕ) (piece : List ℕ) (bytes : List (ℕ × ℕ)) → IsBegun at piece
    → (length piece ≡ 32) ⊎ (StartsAt (at + length piece) bytes → ⊥) → (pieces : List Piece) × AreCut bytes pieces
    → (pieces : List Piece) × AreCut (placed at piece ++ bytes) pieces
ended at piece bytes begun ends rest = (
  record { at = at; bytes = piece } ∷ rest.0,
  next (record { at = at; bytes = piece }) bytes rest.0 (record {
    some = begun.some;
    few = begun.few;
    fits = begun.fits;
    are_bytes = bytes_at piece begun.are_bytes;
    ends = ends;
  }) rest.1,
)

-- one more byte, and a first one
longer : (at : ℕ) (piece : List ℕ) (b : ℕ × ℕ) → IsBegun at piece → b.0 < 2 ^ 16 → b.1 < 2 ^ 8 → length piece ≢ 32
    → b.0 ≡ at + length piece → IsBegun at (piece ++ b.1 ∷ [])
longer at piece b begun address byte less next_is =
    let more = length-append piece (b.1 ∷ []) in
    record {
      some = omega (arith, more);
      few = omega (arith, more, begun.few, less);
      fits = omega (arith, more, address, next_is);
      are_bytes = are_bytes_with piece b.1 begun.are_bytes byte;
    }

first : (b : ℕ × ℕ) → b.0 < 2 ^ 16 → b.1 < 2 ^ 8 → IsBegun b.0 (b.1 ∷ [])
first b address byte =
    record { some = omega arith; few = omega arith; fits = omega (arith, address); are_bytes = (byte, tt) }

-- it ends where it has 32 bytes or another address follows, and else it takes the next byte
cut_from : (at : ℕ) (piece : List ℕ) (bytes : List (ℕ × ℕ)) → IsBegun at piece → Fit bytes
    → (pieces : List Piece) × AreCut (placed at piece ++ bytes) pieces
cut_from at piece [] begun fits = ended at piece [] begun (inr (λ starts. starts)) ([], none)
cut_from at piece (b ∷ bytes) begun fits = elim (cases_eq (length piece) 32) [
  | inl full ↦ ended at piece (b ∷ bytes) begun (inl full)
      (cut_from b.0 (b.1 ∷ []) bytes (first b fits.0 fits.1) fits.2)
  | inr less ↦ elim (cases_eq b.0 (at + length piece)) [
    | inl next_is ↦ (let more = cut_from at (piece ++ b.1 ∷ []) bytes
        (longer at piece b begun fits.0 fits.1 less next_is) fits.2 in
        (more.0, subst (λ (l : List (ℕ × ℕ)). AreCut l more.0) (placed-snoc at piece b bytes next_is) more.1))
    | inr gap ↦ ended at piece (b ∷ bytes) begun (inr gap)
        (cut_from b.0 (b.1 ∷ []) bytes (first b fits.0 fits.1) fits.2)
  ]
]

cut : (bytes : List (ℕ × ℕ)) → Fit bytes → (pieces : List Piece) × AreCut bytes pieces
cut [] fits = ([], none)
cut (b ∷ bytes) fits = cut_from b.0 (b.1 ∷ []) bytes (first b fits.0 fits.1) fits.2

pub have_texts : ImagesHaveTexts
have_texts bytes start ascend all starts =
    let pieces = cut bytes (fit 0 bytes (rise bytes ascend) all) in
    (_, record { pieces = pieces.0; cut = pieces.1; fits = omega (arith, starts); records = refl })
