-- The registers after an instruction of n bytes, by groups of instructions.
-- Reached by the promise.
use Rattle.std.specs.Prelude.{◌+◌, ◌-◌, ◌*◌, ◌/◌, ◌%◌, ◌^◌, ◌==◌, nat_lt, nat_le, ◌||◌, min, ℕ, Bool, true, false}
use Rattle.std.specs.Prelude.{if◌then◌else◌, bit_and, bit_or, List, [], ◌∷◌, slice_index}
use Rattle.cpu12_isa.specs.{declared.instr.Regs.Regs, Memory.plus, Memory.word_of, Memory.high_of, Memory.low_of}
use Rattle.cpu12_isa.specs.Flags.{carry, overflow, zero_result, nzv, nz, put, opened, tested, tested_word, added}
use Rattle.cpu12_isa.specs.Flags.{sum_with_carry, added_with_carry, subtracted, subtracted_word, pulled_flags}

-- PC at the next instruction
abbrev pub passed : Regs → ℕ → Regs
passed r n = record r { pc = plus r.pc n }

-- N and Z by a byte that was stored
abbrev pub stored : Regs → ℕ → Regs
stored r v = record r { ccr = tested r.ccr v; pc = plus r.pc 3 }

abbrev pub loaded_a : Regs → ℕ → ℕ → Regs
loaded_a r v n = record r { a = v; ccr = tested r.ccr v; pc = plus r.pc n }

abbrev pub loaded_b : Regs → ℕ → ℕ → Regs
loaded_b r v n = record r { b = v; ccr = tested r.ccr v; pc = plus r.pc n }

abbrev pub loaded_x : Regs → ℕ → Regs
loaded_x r v = record r { x = v; ccr = tested_word r.ccr v; pc = plus r.pc 3 }

abbrev pub loaded_y : Regs → ℕ → Regs
loaded_y r v = record r { y = v; ccr = tested_word r.ccr v; pc = plus r.pc 3 }

abbrev pub loaded_sp : Regs → ℕ → Regs
loaded_sp r v = record r { sp = v; ccr = tested_word r.ccr v; pc = plus r.pc 3 }

abbrev pub complemented_a : Regs → Regs
complemented_a r = record r { a = 255 - r.a; ccr = put (tested r.ccr (255 - r.a)) carry true; pc = plus r.pc 1 }

abbrev pub compared_x : Regs → ℕ → Regs
compared_x r v = record r { ccr = subtracted_word r.ccr r.x v; pc = plus r.pc 3 }

abbrev pub compared_a : Regs → ℕ → ℕ → Regs
compared_a r v n = record r { ccr = subtracted r.ccr r.a v; pc = plus r.pc n }

abbrev pub added_a : Regs → ℕ → ℕ → Regs
added_a r v n = record r { a = (r.a + v) % 2 ^ 8; ccr = added r.ccr r.a v; pc = plus r.pc n }

abbrev pub added_b : Regs → ℕ → ℕ → Regs
added_b r v n = record r { b = (r.b + v) % 2 ^ 8; ccr = added r.ccr r.b v; pc = plus r.pc n }

abbrev pub carried_a : Regs → ℕ → Regs
carried_a r v = record r {
  a = sum_with_carry r.ccr r.a v % 2 ^ 8;
  ccr = added_with_carry r.ccr r.a v;
  pc = plus r.pc 2;
}

abbrev pub subtracted_a : Regs → ℕ → ℕ → Regs
subtracted_a r v n = record r { a = (r.a + (2 ^ 8 - v)) % 2 ^ 8; ccr = subtracted r.ccr r.a v; pc = plus r.pc n }

abbrev pub anded_a : Regs → ℕ → ℕ → Regs
anded_a r v n = loaded_a r (bit_and r.a v) n

abbrev pub ored_a : Regs → ℕ → ℕ → Regs
ored_a r v n = loaded_a r (bit_or r.a v) n

-- X or Y moved by a step of 1 up, or of 65535, which is 1 down
abbrev pub moved_x : Regs → ℕ → Regs
moved_x r k = record r { x = plus r.x k; ccr = put r.ccr zero_result (plus r.x k == 0); pc = plus r.pc 1 }

abbrev pub moved_y : Regs → ℕ → Regs
moved_y r k = record r { y = plus r.y k; ccr = put r.ccr zero_result (plus r.y k == 0); pc = plus r.pc 1 }

-- D by a word
abbrev pub transferred_d : Regs → ℕ → Regs
transferred_d r v = record r { a = high_of v; b = low_of v; pc = plus r.pc 2 }

-- a byte in two's complement, as a word to be added
abbrev pub offset : ℕ → ℕ
offset n = if nat_lt n 128 then n else n + 65280

-- a branch of two bytes, taken or not
abbrev pub branched : Regs → ℕ → Bool → Regs
branched r to go = record r { pc = if go then plus (plus r.pc 2) (offset to) else plus r.pc 2 }

-- EDIV: Y:D by X, the quotient in Y and the remainder in D
abbrev pub divided : ℕ → Regs → Regs
divided flags r =
    let n = r.y * 2 ^ 16 + (r.a * 2 ^ 8 + r.b) in
    let pc = plus r.pc 1 in
    if r.x == 0 then record r { pc = pc; ccr = put (opened r.ccr nzv flags) carry true }
    else (if nat_le 65536 (n / r.x) then record r {
      pc = pc;
      ccr = put (put (opened r.ccr nz flags) overflow true) carry false;
    }
    else record r {
      y = n / r.x;
      a = n % r.x / 2 ^ 8;
      b = n % r.x % 2 ^ 8;
      pc = pc;
      ccr = put (tested_word r.ccr (n / r.x)) carry false;
    })

-- FDIV: D by X as fractions, the quotient in X and the remainder in D
abbrev pub divided_fraction : Regs → Regs
divided_fraction r =
    let d = r.a * 2 ^ 8 + r.b in
    let pc = plus r.pc 2 in
    if nat_lt d r.x then record r {
      x = d * 2 ^ 16 / r.x;
      a = d * 2 ^ 16 % r.x / 2 ^ 8;
      b = d * 2 ^ 16 % r.x % 2 ^ 8;
      pc = pc;
      ccr = put (put (put r.ccr zero_result (d * 2 ^ 16 / r.x == 0)) overflow false) carry false;
    }
    else record r { x = 65535; pc = pc; ccr = put (put (put r.ccr zero_result false) overflow true) carry (r.x == 0) }

-- the grade of A in a table's four bytes: two points and two slopes
abbrev pub grade : ℕ → ℕ → ℕ → ℕ → ℕ → ℕ
grade p q s t a =
    if nat_lt a p || nat_lt q a then 0
    else min (min 255 (if s == 0 then 255 else (a - p) * s)) (if t == 0 then 255 else (q - a) * t)

-- the nine bytes of an interrupt's frame, from the lowest address
abbrev pub frame_bytes : Regs → List ℕ
frame_bytes r =
    r.ccr.0 ∷ r.b ∷ r.a ∷ high_of r.x ∷ low_of r.x ∷ high_of r.y ∷ low_of r.y ∷ high_of r.pc ∷ low_of r.pc ∷ []

-- the registers pulled from a frame
abbrev pub pulled : Regs → List ℕ → Regs
pulled r bytes = record {
  a = slice_index bytes 2;
  b = slice_index bytes 1;
  x = word_of (slice_index bytes 3) (slice_index bytes 4);
  y = word_of (slice_index bytes 5) (slice_index bytes 6);
  sp = plus r.sp 9;
  pc = word_of (slice_index bytes 7) (slice_index bytes 8);
  ccr = pulled_flags r.ccr (slice_index bytes 0);
}
