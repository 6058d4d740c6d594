-- What the fast code reads and writes is its block's own.
use Rattle.two_level_runs.proofs.Words.{◌&&◌, ◌+◌, ◌<◌, ◌≡◌, ◌≤◌, arith, Each, false, fast_code, fast_map, from, inl}
use Rattle.two_level_runs.proofs.Words.{inr, is_fast_ram, is_fast_rom, is_foreign, is_hidden, is_kept, is_open_inside}
use Rattle.two_level_runs.proofs.Words.{IsIn, nat_le, nat_lt, nat_tests, plus, Reads, refl, suc, true, Writes, zero}
use Rattle.two_level_runs.proofs.Words.{ℕ}

-- a byte of the RAM, of the ROM, and of the frame
pub ram_own : (sp at : ℕ) → 0x1400 ≤ at → at < 0x162C → is_foreign sp at ≡ false
ram_own sp at lo hi = let a : is_fast_ram at ≡ true = grind (arith, nat_tests) in rw a refl

rom_own : (sp at : ℕ) → 0x4000 ≤ at → at < 0x7F00 → is_foreign sp at ≡ false
rom_own sp at lo hi =
    let a : is_fast_ram at ≡ false = grind (arith, nat_tests) in
    let b : is_fast_rom at ≡ true = grind (arith, nat_tests) in
    rw (a, b) refl

frame_own : (sp at : ℕ) → sp ≤ at → at < sp + 9 → sp + 9 ≤ 0x2000 → 0x1FE0 ≤ sp → is_foreign sp at ≡ false
frame_own sp at lo hi end low =
    let a : is_fast_ram at ≡ false = grind (arith, nat_tests) in
    let b : is_fast_rom at ≡ false = grind (arith, nat_tests) in
    let c : (nat_le sp at && nat_lt at (sp + 9)) ≡ true = grind (arith, nat_tests) in
    rw (a, b, c) refl

pub read_own : (sp at : ℕ) → Reads fast_map at → is_foreign sp at ≡ false
read_own sp at (inl h) = ram_own sp at (omega (arith, h.0)) (omega (arith, h.1))
read_own sp at (inr (inl h)) = ram_own sp at (omega (arith, h.0)) (omega (arith, h.1))
read_own sp at (inr (inr (inl h))) = rom_own sp at (omega (arith, h.0)) (omega (arith, h.1))
read_own sp at (inr (inr (inr (inl h)))) = rom_own sp at (omega (arith, h.0)) (omega (arith, h.1))
read_own sp at (inr (inr (inr (inr (inl h))))) = rom_own sp at (omega (arith, h.0)) (omega (arith, h.1))
read_own sp at (inr (inr (inr (inr (inr (inl h)))))) = rom_own sp at (omega (arith, h.0)) (omega (arith, h.1))
read_own sp at (inr (inr (inr (inr (inr (inr h)))))) = absurd h

-- its code is
pub code_own : (sp at : ℕ) → IsIn fast_code at → is_foreign sp at ≡ false
code_own sp at h = rom_own sp at (omega (arith, h.0)) (omega (arith, h.1))

ram_kept : (at : ℕ) → 0x1400 ≤ at → at < 0x162C → is_kept at ≡ false
ram_kept at lo hi = let a : is_fast_ram at ≡ true = grind (arith, nat_tests) in rw a refl

pub write_own : (at : ℕ) → Writes fast_map at → is_kept at ≡ false
write_own at (inl h) = ram_kept at (omega (arith, h.0)) (omega (arith, h.1))
write_own at (inr (inl h)) = ram_kept at (omega (arith, h.0)) (omega (arith, h.1))
write_own at (inr (inr h)) = absurd h

-- the frame's nine bytes, or some of them
pub frame_shown : (n sp at : ℕ) → sp ≤ at → at + n ≤ sp + 9 → sp + 9 ≤ 0x2000 → 0x1FE0 ≤ sp
    → Each (λ at. is_foreign sp at ≡ false) (from at n)
frame_shown zero sp at lo hi end low = tt
frame_shown (suc n) sp at lo hi end low = (
  frame_own sp at lo (omega arith) end low,
  frame_shown n sp (plus at 1) (omega arith) (omega arith) end low,
)

-- what is not foreign is shown to inner requests
pub own_shown : (sp at : ℕ) → sp ≤ 0x2000 → is_foreign sp at ≡ false → is_hidden is_open_inside sp at ≡ false
own_shown sp at le h = grind (arith, nat_tests)

pub rom_kept : (at : ℕ) → 0x4000 ≤ at → is_kept at ≡ true
rom_kept at lo = let a : is_fast_ram at ≡ false = grind (arith, nat_tests) in rw a refl

pub stack_kept : (at : ℕ) → 0x1FE0 ≤ at → is_kept at ≡ true
stack_kept at lo = let a : is_fast_ram at ≡ false = grind (arith, nat_tests) in rw a refl
