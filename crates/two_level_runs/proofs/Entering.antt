-- An outer interrupt enters the fast code.
use Rattle.two_level_runs.proofs.Words.{◌*◌, ◌+◌, ◌-◌, ◌<◌, ◌^◌, ◌∙◌, ◌≡◌, ◌≤◌, All, ap₂, AreBytes, arith, BytesStay}
use Rattle.two_level_runs.proofs.Words.{Each, entered, fast_code, fast_map, FitsRegs, frame_bytes, HasFastCode, inl}
use Rattle.two_level_runs.proofs.Words.{inr, interrupts_masked, IsIn, length, List, OuterEnters, placed, plus}
use Rattle.two_level_runs.proofs.Words.{six_from, slice_index, State, subst, sym, true, word_of, WritesStay, ℕ}
use Rattle.cpu12_isa.proofs.{Algebra.fits_put}
use Rattle.two_level_runs.proofs.Bytes.{all_bytes, placed_fits, frame_fits}
use Rattle.two_level_runs.proofs.Pushing.{framed_mem, entered_mem, stays, size_stays, sample_read}
use Rattle.eval_code.proofs.Algebra.{masked_on}

-- the memory is one of bytes
pub bytes_stay : BytesStay → (bytes : List ℕ) (v : State) → All (λ n. n < 2 ^ 8) bytes → FitsRegs v.regs
    → AreBytes v.mem
    → AreBytes (entered_mem bytes v)
bytes_stay law bytes v fit fits m =
    law (placed fast_map.inputs bytes) (framed_mem v)
    (placed_fits fast_map.inputs bytes (omega arith) (all_bytes bytes fit))
    (law (placed (plus v.regs.sp 65527) (frame_bytes v.regs)) v.mem
    (placed_fits (plus v.regs.sp 65527) (frame_bytes v.regs) (omega arith) (frame_fits v.regs fits)) m)

pub outer_enters : WritesStay → BytesStay → OuterEnters
outer_enters stay law b image bytes before v some few_outputs input can = record {
  inside = record {
    between = record {
      off = can.off;
      size = size_stays stay bytes v ∙ can.size;
      bytes = bytes_stay law bytes v input.fit can.fits can.bytes;
      fits = fits;
    };
    rom = λ at from to. stays stay bytes v at few lo can.high (inr (omega arith)) (inr (above at from))
        ∙ code.rom at from to;
    stack = (omega (arith, can.low, can.high), omega (arith, can.low, can.high));
    code = subst (λ (n : ℕ). Each (IsIn fast_code) (six_from n)) (sym there) first_six;
  };
  pc = there;
  masked = masked_on v.regs.ccr.0;
  inputs = sample_read stay bytes fast_map.inputs (framed_mem v)
      ((stay (placed (plus v.regs.sp 65527) (frame_bytes v.regs)) v.mem).0 ∙ can.size) (omega (arith, few));
  outputs = λ o from to. (let r = can.outputs o from to in (out_stays o from to ∙ r.0, tt));
}
  where
    few : length bytes ≤ 8
    few = (let e = input.count in omega (arith, e))

    lo : 0x1FF8 ≤ v.regs.sp
    lo = can.low

    code : HasFastCode image v.mem
    code = can.code

    above : (at : ℕ) → fast_map.code ≤ at → v.regs.sp ≤ at
    above at l = (let hi = can.high in omega arith)

    vector_byte : (at : ℕ) → 0xFFF2 ≤ at → slice_index (entered_mem bytes v) at ≡ slice_index v.mem at
    vector_byte at l = stays stay bytes v at few lo can.high (inr (omega arith)) (inr (above at (omega arith)))

    there : word_of (slice_index (entered_mem bytes v) 65522) (slice_index (entered_mem bytes v) 65523)
        ≡ fast_map.code
    there = ap₂ word_of (vector_byte 65522 (omega arith)) (vector_byte 65523 (omega arith)) ∙ code.enters

    first_six : Each (IsIn fast_code) (six_from fast_map.code)
    first_six = search arith

    fits : FitsRegs (entered bytes v).regs
    fits = (let f = can.fits in record {
      a = f.a;
      b = f.b;
      x = f.x;
      y = f.y;
      sp = omega arith;
      pc = omega (arith, there);
      ccr = fits_put v.regs.ccr interrupts_masked true (omega arith) f.ccr;
    })

    out_stays : (o : ℕ) → 1 ≤ o → o ≤ length b.outputs
        → slice_index (entered_mem bytes v) (fast_map.outputs + 1 * (o - 1)) ≡ slice_index v.mem
        (fast_map.outputs + 1 * (o - 1))
    out_stays o l to = stays stay bytes v (fast_map.outputs + 1 * (o - 1)) few lo can.high (inr (omega arith))
        (inl low_out)
      where
        low_out : fast_map.outputs + 1 * (o - 1) < plus v.regs.sp 65527
        low_out = omega arith
