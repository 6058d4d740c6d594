-- The memory of an image that holds what items give is one of bytes.
use Rattle.eval_code.proofs.Words.{[], ◌<◌, ◌^◌, ◌∷◌, ◌≡◌, AreBytes, arith, Bool, byte_at, byte_or_zero, cases_lt}
use Rattle.eval_code.proofs.Words.{cond, false, get_or, GiveBytes, given_by, HoldsImage, image_memory, inl, inr}
use Rattle.eval_code.proofs.Words.{is_at, length, List, nat_cmp, Some, true, ℕ}
use Rattle.eval_code.specs.{Standing.ImageIsBytes}
use Rattle.std.proofs.lemmas.List.{get_or_past}
use Rattle.std.proofs.lemmas.List.Elements.{All-head, All-tail}
use Rattle.eval_code.proofs.placing.Standing.{image_given}

-- a memory that has bytes that are given is one of bytes
abbrev IsFit : ℕ × ℕ → Type 0
IsFit p = p.1 < 2 ^ 8

found_fits : (given : List (ℕ × ℕ)) (q : ℕ) → GiveBytes given → byte_or_zero (byte_at given q) < 256
found_fits [] q h = omega arith
found_fits (p ∷ given) q h = chosen (is_at (nat_cmp q) p.0) (found_fits given q (All-tail IsFit p given h))
  where
    chosen : (t : Bool) → byte_or_zero (byte_at given q) < 256
        → byte_or_zero (cond t (Some p.1) (byte_at given q)) < 256
    chosen true k = All-head IsFit p given h
    chosen false k = k

memory_fits : (given : List (ℕ × ℕ)) (mem : List ℕ) → GiveBytes given → length mem ≡ 65536
    → ((at : ℕ) → at < 65536 → get_or mem at 0 ≡ byte_or_zero (byte_at given at)) → AreBytes mem
memory_fits given mem fit size h at = elim (cases_lt at 65536) [
  | inl lt ↦ (let e = h at lt in let f = found_fits given at fit in omega arith)
  | inr le ↦ (let e : get_or mem at 0 ≡ 0 = get_or_past mem at 0 (omega arith) in omega arith)
]

pub image_is_bytes : HoldsImage → ImageIsBytes
image_is_bytes holds image items h fit =
    let given = image_given holds image (given_by items) h in
    (given.size, memory_fits (given_by items) (image_memory image) fit given.size given.bytes)
