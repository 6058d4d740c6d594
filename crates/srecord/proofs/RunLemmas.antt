-- Neighbouring bytes, and the pieces that they are cut into.
use Rattle.std.proofs.Common.{◌≡◌, ◌≤◌, ◌<◌, ◌+◌, ℕ, zero, suc, true, List, [], ◌∷◌, ◌++◌, length, take, drop, get_or}
use Rattle.std.proofs.Common.{refl, sym, ◌∙◌, ap, subst, arith, add-one, append_assoc, take-append-drop}
use Rattle.std.specs.Prelude.{◌==◌, ◌⊎◌}
use Rattle.std.proofs.Math.Seq.{take-suc}
use Rattle.std.proofs.lemmas.Bool.Decides.{nat_tests}
use Rattle.std.proofs.lemmas.List.{length-map, length-take-le}
use Rattle.hex.specs.Hex.{IsBytes}
use Rattle.cpu12_asm.specs.Bytes.{placed}
use Rattle.srecord.specs.Images.{AreCut, IsPiece, Piece, StartsAt, data_text, next, none}
use Rattle.srecord.specs.{Lines.record_text, Runs.IsRun, Runs.address_at, Runs.bytes_only}

run-snoc : (at : ℕ) (bytes : List (ℕ × ℕ)) (b : ℕ × ℕ) → IsRun at bytes → b.0 ≡ at + length bytes
    → IsRun at (bytes ++ b ∷ [])
run-snoc at [] b run is = (omega (arith, is), tt)
run-snoc at (x ∷ bytes) b run is = (run.0, run-snoc (at + 1) bytes b run.1 (omega (arith, is)))

pub run_more : (bytes : List (ℕ × ℕ)) (n : ℕ) → n < length bytes → IsRun (address_at bytes 0) (take n bytes)
    → address_at bytes n ≡ address_at bytes 0 + n → IsRun (address_at bytes 0) (take (n + 1) bytes)
run_more bytes n lt run is =
    let more : take (n + 1) bytes ≡ take n bytes ++ get_or bytes n (0, 0) ∷ [] =
    ap (λ (k : ℕ). take k bytes) (add-one n) ∙ take-suc bytes n (0, 0) lt in
    subst (IsRun (address_at bytes 0)) (sym more)
    (run-snoc (address_at bytes 0) (take n bytes) (get_or bytes n (0, 0)) run
    (omega (arith, is, length-take-le n bytes (omega arith))))

pub run_first : (bytes : List (ℕ × ℕ)) → 0 < length bytes → IsRun (address_at bytes 0) (take 1 bytes)
run_first [] some = absurd (omega arith)
run_first (b ∷ bytes) some = (refl, tt)

run_placed : (at : ℕ) (bytes : List (ℕ × ℕ)) → IsRun at bytes → placed at (bytes_only bytes) ≡ bytes
run_placed at [] run = refl
run_placed at (b ∷ bytes) run =
    ap (λ (a : ℕ). (a, b.1) ∷ placed (at + 1) (bytes_only bytes)) (sym run.0)
    ∙ ap (λ (l : List (ℕ × ℕ)). b ∷ l) (run_placed (at + 1) bytes run.1)

-- the first n bytes as a piece
abbrev pub piece_of : ℕ → List (ℕ × ℕ) → Piece
piece_of n bytes = record { at = address_at bytes 0; bytes = bytes_only (take n bytes) }

-- where the first n bytes are a record's, and what is behind them is cut into pieces, all of them are
pub cut_more : (n : ℕ) (bytes front back : List (ℕ × ℕ)) (pieces : List Piece) → 1 ≤ n → n ≤ 32 → n ≤ length bytes
    → IsRun (address_at bytes 0) (take n bytes) → (n ≡ 32) ⊎ (StartsAt (address_at bytes 0 + n) (drop n bytes) → ⊥)
    → address_at bytes 0 + n ≤ 65536 → front ≡ take n bytes → back ≡ drop n bytes → IsBytes (bytes_only front)
    → AreCut back pieces
    → AreCut bytes (piece_of n bytes ∷ pieces)
cut_more n bytes front back pieces some few within run ends fits front_is back_is are cut =
    let count : length (bytes_only (take n bytes)) ≡ n = rw length-map (length-take-le n bytes within) in
    let whole : placed (address_at bytes 0) (bytes_only (take n bytes)) ++ drop n bytes ≡ bytes =
    ap (λ (l : List (ℕ × ℕ)). l ++ drop n bytes) (run_placed (address_at bytes 0) (take n bytes) run)
    ∙ take-append-drop n bytes in
    let good : IsPiece (piece_of n bytes) (drop n bytes) = record {
      some = omega (arith, count);
      few = omega (arith, count);
      fits = omega (arith, count, fits);
      are_bytes = subst (λ (l : List (ℕ × ℕ)). IsBytes (bytes_only l)) front_is are;
      ends = subst (λ (k : ℕ). (k ≡ 32) ⊎ (StartsAt (address_at bytes 0 + k) (drop n bytes) → ⊥)) (sym count) ends;
    } in
    subst (λ (l : List (ℕ × ℕ)). AreCut l (piece_of n bytes ∷ pieces)) whole
    (next (piece_of n bytes) (drop n bytes) pieces good (subst (λ (l : List (ℕ × ℕ)). AreCut l pieces) back_is cut))

first_kept : (n : ℕ) (bytes : List (ℕ × ℕ)) → 1 ≤ n → address_at (take n bytes) 0 ≡ address_at bytes 0
first_kept zero bytes some = absurd (omega arith)
first_kept (suc n) [] some = refl
first_kept (suc n) (b ∷ bytes) some = refl

-- a text with the record of the first n bytes, behind which those of further pieces come
pub text_more : (before after : List ℕ) (n : ℕ) (bytes front : List (ℕ × ℕ)) (pieces : List Piece) → 1 ≤ n
    → front ≡ take n bytes → after ≡ before ++ record_text 49 (address_at front 0) (bytes_only front)
    → before ++ data_text (piece_of n bytes ∷ pieces) ≡ after ++ data_text pieces
text_more before after n bytes front pieces some front_is added =
    let first = piece_of n bytes in
    let record_is : after ≡ before ++ record_text 49 first.at first.bytes = added
    ∙ ap (λ (l : List (ℕ × ℕ)). before ++ record_text 49 (address_at l 0) (bytes_only l)) front_is
    ∙ ap (λ (at : ℕ). before ++ record_text 49 at first.bytes) (first_kept n bytes some) in
    sym (append_assoc before (record_text 49 first.at first.bytes) (data_text pieces))
    ∙ ap (λ (t : List ℕ). t ++ data_text pieces) (sym record_is)

pub is_nothing : {X : Type 0} (xs : List X) → true ≡ (length xs == 0) → xs ≡ []
is_nothing [] empty = refl
is_nothing (x ∷ xs) empty = absurd (grind (arith, nat_tests))

pub nothing_is_cut : (bytes : List (ℕ × ℕ)) → bytes ≡ [] → AreCut bytes []
nothing_is_cut bytes is = subst (λ (l : List (ℕ × ℕ)). AreCut l []) (sym is) none
