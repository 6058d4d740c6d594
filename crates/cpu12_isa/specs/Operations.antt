-- What an instruction does (CPU12 Reference Manual, section 6), but for the parts of REV, REVW and WAV.
-- Reached by the promise.
use Rattle.std.specs.Prelude.{◌+◌, ◌%◌, ◌^◌, ◌==◌, not, ℕ, true, false, bit_and, bit_or, List, [], ◌∷◌}
use Rattle.cpu12_isa.specs.declared.{instr.Regs.Regs, instr.Instr.Instr}
use Rattle.cpu12_isa.specs.declared.instr.Instr.TheVariants.{LdaaImmediate, LdaaExtended, LdabImmediate, LdabExtended}
use Rattle.cpu12_isa.specs.declared.instr.Instr.TheVariants.{LdxImmediate, LdyImmediate, LdsImmediate, StaaExtended}
use Rattle.cpu12_isa.specs.declared.instr.Instr.TheVariants.{StabExtended, ClrExtended, Coma, CpxImmediate, Beq, Bne}
use Rattle.cpu12_isa.specs.declared.instr.Instr.TheVariants.{Bcc, Bcs, Bra, JsrExtended, Rts, Andcc, Orcc, TransferXD}
use Rattle.cpu12_isa.specs.declared.instr.Instr.TheVariants.{TransferYD, Ediv, Fdiv, Rti, Nop, IncExtended}
use Rattle.cpu12_isa.specs.declared.instr.Instr.TheVariants.{DecExtended, AddaImmediate, AddaExtended, AddbImmediate}
use Rattle.cpu12_isa.specs.declared.instr.Instr.TheVariants.{AddbExtended, AddbPostIncrementX, AdcaImmediate}
use Rattle.cpu12_isa.specs.declared.instr.Instr.TheVariants.{SubaImmediate, SubaExtended, CmpaImmediate, CmpaExtended}
use Rattle.cpu12_isa.specs.declared.instr.Instr.TheVariants.{AndaImmediate, AndaExtended, OraaImmediate, OraaExtended}
use Rattle.cpu12_isa.specs.declared.instr.Instr.TheVariants.{Inx, Dex, Iny, Dey, Psha, Pula, MovbImmediate}
use Rattle.cpu12_isa.specs.declared.instr.Instr.TheVariants.{MovbExtended, Mem, Rev, Revw, Wav, Wavr}
use Rattle.cpu12_isa.specs.Act.{Act, Give, Get, get_all}
use Rattle.cpu12_isa.specs.Memory.{plus, from, word_of, high_of, low_of}
use Rattle.cpu12_isa.specs.Flags.{carry, overflow, zero_result, hnzvc, has, put, opened}
use Rattle.cpu12_isa.specs.Registers.{passed, stored, loaded_a, loaded_b, loaded_x, loaded_y, loaded_sp}
use Rattle.cpu12_isa.specs.Registers.{complemented_a, compared_x, compared_a, added_a, added_b, carried_a}
use Rattle.cpu12_isa.specs.Registers.{subtracted_a, anded_a, ored_a, moved_x, moved_y, transferred_d, branched}
use Rattle.cpu12_isa.specs.Registers.{divided, divided_fraction, grade, pulled}

-- the registers after an instruction, and what it writes, in order
pub record Effect : Type 0 where
  pub regs : Regs
  pub writes : List (ℕ × ℕ)

abbrev pub quiet : Regs → Effect
quiet r = record { regs = r; writes = [] }

abbrev pub writing : Regs → ℕ → ℕ → Effect
writing r at v = record { regs = r; writes = (at, v) ∷ [] }

-- an act at once, or parts: those of REV, REVW and WAV, and those of WAV once its sums are pulled
pub data Operation : Type 0 where
  AtOnce : Act Effect → Operation
  RevParts : Operation
  RevwParts : Operation
  WavParts : Operation
  WavrParts : Operation

-- at once: registers are set, also by a byte that is read, or a byte is written too
abbrev pub sets : Regs → Operation
sets r = AtOnce (Give (quiet r))

abbrev pub loads : ℕ → (ℕ → Regs) → Operation
loads at r = AtOnce (Get at (λ v. Give (quiet (r v))))

abbrev pub stores : Regs → ℕ → ℕ → Operation
stores r at v = AtOnce (Give (writing r at v))

-- what an instruction does, with this byte FLAGS
abbrev pub operation_of : ℕ → Instr → Regs → Operation
operation_of flags (LdaaImmediate v) r = sets (loaded_a r v 2)
operation_of flags (LdaaExtended at) r = loads at (λ v. loaded_a r v 3)
operation_of flags (LdabImmediate v) r = sets (loaded_b r v 2)
operation_of flags (LdabExtended at) r = loads at (λ v. loaded_b r v 3)
operation_of flags (LdxImmediate v) r = sets (loaded_x r v)
operation_of flags (LdyImmediate v) r = sets (loaded_y r v)
operation_of flags (LdsImmediate v) r = sets (loaded_sp r v)
operation_of flags (StaaExtended at) r = stores (stored r r.a) at r.a
operation_of flags (StabExtended at) r = stores (stored r r.b) at r.b
operation_of flags (ClrExtended at) r = stores (let s = stored r 0 in record s { ccr = put s.ccr carry false }) at 0
operation_of flags Coma r = sets (complemented_a r)
operation_of flags (CpxImmediate v) r = sets (compared_x r v)
operation_of flags (Beq to) r = sets (branched r to (has r.ccr zero_result))
operation_of flags (Bne to) r = sets (branched r to (not (has r.ccr zero_result)))
operation_of flags (Bcc to) r = sets (branched r to (not (has r.ccr carry)))
operation_of flags (Bcs to) r = sets (branched r to (has r.ccr carry))
operation_of flags (Bra to) r = sets (branched r to true)
operation_of flags (JsrExtended to) r = AtOnce (Give (record {
  regs = record r { sp = plus r.sp 65534; pc = to };
  writes = (plus r.sp 65534, high_of (plus r.pc 3)) ∷ (plus r.sp 65535, low_of (plus r.pc 3)) ∷ [];
}))
operation_of flags Rts r = AtOnce (Get r.sp (λ high. Get (plus r.sp 1) (λ low.
    Give (quiet (record r { sp = plus r.sp 2; pc = word_of high low })))))
operation_of flags (Andcc v) r = sets (record r { ccr = record { 0 = bit_and r.ccr.0 v }; pc = plus r.pc 2 })
operation_of flags (Orcc v) r =
    sets (record r { ccr = record { 0 = bit_or r.ccr.0 (bit_and v 191) }; pc = plus r.pc 2 })
operation_of flags TransferXD r = sets (transferred_d r r.x)
operation_of flags TransferYD r = sets (transferred_d r r.y)
operation_of flags Ediv r = sets (divided flags r)
operation_of flags Fdiv r = sets (divided_fraction r)
operation_of flags Rti r = AtOnce (get_all (from r.sp 9) (λ bytes. Give (quiet (pulled r bytes))))
operation_of flags Nop r = sets (passed r 1)
operation_of flags (IncExtended at) r = AtOnce (Get at (λ v. Give (let w = (v + 1) % 2 ^ 8 in
    let s = stored r w in writing (record s { ccr = put s.ccr overflow (w == 128) }) at w)))
operation_of flags (DecExtended at) r = AtOnce (Get at (λ v. Give (let w = (v + 255) % 2 ^ 8 in
    let s = stored r w in writing (record s { ccr = put s.ccr overflow (w == 127) }) at w)))
operation_of flags (AddaImmediate v) r = sets (added_a r v 2)
operation_of flags (AddaExtended at) r = loads at (λ v. added_a r v 3)
operation_of flags (AddbImmediate v) r = sets (added_b r v 2)
operation_of flags (AddbExtended at) r = loads at (λ v. added_b r v 3)
operation_of flags AddbPostIncrementX r = loads r.x (λ v. let s = added_b r v 2 in record s { x = plus r.x 1 })
operation_of flags (AdcaImmediate v) r = sets (carried_a r v)
operation_of flags (SubaImmediate v) r = sets (subtracted_a r v 2)
operation_of flags (SubaExtended at) r = loads at (λ v. subtracted_a r v 3)
operation_of flags (CmpaImmediate v) r = sets (compared_a r v 2)
operation_of flags (CmpaExtended at) r = loads at (λ v. compared_a r v 3)
operation_of flags (AndaImmediate v) r = sets (anded_a r v 2)
operation_of flags (AndaExtended at) r = loads at (λ v. anded_a r v 3)
operation_of flags (OraaImmediate v) r = sets (ored_a r v 2)
operation_of flags (OraaExtended at) r = loads at (λ v. ored_a r v 3)
operation_of flags Inx r = sets (moved_x r 1)
operation_of flags Dex r = sets (moved_x r 65535)
operation_of flags Iny r = sets (moved_y r 1)
operation_of flags Dey r = sets (moved_y r 65535)
operation_of flags Psha r = stores (record r { sp = plus r.sp 65535; pc = plus r.pc 1 }) (plus r.sp 65535) r.a
operation_of flags Pula r = loads r.sp (λ v. record r { a = v; sp = plus r.sp 1; pc = plus r.pc 1 })
operation_of flags (MovbImmediate v at) r = stores (passed r 5) at v
operation_of flags (MovbExtended source at) r = AtOnce (Get source (λ v. Give (writing (passed r 6) at v)))
operation_of flags Mem r = AtOnce (Get r.x (λ p. Get (plus r.x 1) (λ q. Get (plus r.x 2) (λ s. Get (plus r.x 3) (λ t.
    Give (writing (record r {
      x = plus r.x 4;
      y = plus r.y 1;
      pc = plus r.pc 1;
      ccr = opened r.ccr hnzvc flags;
    }) r.y (grade p q s t r.a)))))))
operation_of flags Rev r = RevParts
operation_of flags Revw r = RevwParts
operation_of flags Wav r = WavParts
operation_of flags Wavr r = WavrParts
