-- What plain instructions leave.
use Rattle.std.proofs.Common.{◌≡◌, ℕ, ◌*◌, ◌+◌, ◌/◌, ◌^◌, ◌==◌, ◌&&◌, ◌||◌, Bool, true, false, List, length, refl, ap}
use Rattle.std.proofs.Common.{◌∙◌, arith, nat_le, nat_lt, bit_and, rules}
use Rattle.std.specs.Prelude.{if◌then◌else◌}
use Rattle.std.proofs.lemmas.Bool.{false≢true, and_parts, not-true}
use Rattle.cpu12_isa.specs.declared.{instr.Regs.Regs, instr.Instr.Instr}
use Rattle.cpu12_isa.specs.declared.instr.Instr.TheVariants.{LdaaImmediate, ClrExtended, Coma, Andcc, Orcc, Ediv, Fdiv}
use Rattle.cpu12_isa.specs.declared.instr.Instr.TheVariants.{Mem}
use Rattle.cpu12_isa.specs.{Agreement.addresses, Code.encode_of, Flags.has, Flags.opened, Flags.put}
use Rattle.cpu12_isa.specs.{Flags.interrupts_masked, Flags.x_masked, Meaning.effect, Meaning.is_plain, Memory.plus}
use Rattle.cpu12_isa.specs.{Registers.divided, Registers.divided_fraction}
use Rattle.cpu12_isa.specs.Plain.{passes_on, sp_behind, keeps_i, keeps_x, written_by, is_straight, interrupt_masks}
use Rattle.cpu12_isa.specs.Plain.{PlainLeavesByTables, StraightGoesOn}
use Rattle.cpu12_isa.proofs.Bits.{bit, bit_and_is, bit_or_is}
use Rattle.cpu12_isa.proofs.Masks.{masked_put, masked_opened, masked_zero, masked_three, masked_tested, masked_again}
use Rattle.cpu12_isa.proofs.Masks.{masked_four, masked_five}

sp_is : (flags : ℕ) (i : Instr) (r : Regs) (m : List ℕ) → is_plain i ≡ true
    → (effect flags i r m).regs.sp ≡ sp_behind i r.sp
sp_is flags (LdaaImmediate v) r m p = refl
sp_is flags i r m p = search rules

writes_are : (flags : ℕ) (i : Instr) (r : Regs) (m : List ℕ) → is_plain i ≡ true
    → addresses (effect flags i r m).writes ≡ written_by i r
writes_are flags (LdaaImmediate v) r m p = refl
writes_are flags i r m p = search rules

pc_is : (flags : ℕ) (i : Instr) (r : Regs) (m : List ℕ) → passes_on i ≡ true
    → (effect flags i r m).regs.pc ≡ plus r.pc (length (encode_of i))
pc_is flags (LdaaImmediate v) r m p = refl
pc_is flags i r m p = search rules

-- one of two registers that have the masks
record Same (r q : Regs) : Type 0 where
  same : interrupt_masks q.ccr ≡ interrupt_masks r.ccr

either : (r : Regs) (b : Bool) (x y : Regs) → Same r x → Same r y → Same r (if b then x else y)
either r true x y p q = p
either r false x y p q = q

-- ANDCC, ORCC and RTI aside, I and X stay.
abbrev keeps_both : Instr → Bool
keeps_both (Andcc v) = false
keeps_both (Orcc v) = false
keeps_both i = keeps_i i

masks_are : (flags : ℕ) (i : Instr) (r : Regs) (m : List ℕ) → keeps_both i ≡ true
    → interrupt_masks (effect flags i r m).regs.ccr ≡ interrupt_masks r.ccr
masks_are flags (LdaaImmediate v) r m p = masked_tested r.ccr _ _
masks_are flags (ClrExtended at) r m p = masked_four r.ccr false true false false
masks_are flags Coma r m p = masked_four r.ccr _ _ false true
masks_are flags Ediv r m p =
    let n = r.y * 2 ^ 16 + (r.a * 2 ^ 8 + r.b) in
    let none = opened r.ccr 14 flags in
    let over = opened r.ccr 12 flags in
    let k : Same r (divided flags r) =
    either r (r.x == 0) _ _
    (record { same = masked_put none 0 true (omega arith) ∙ masked_opened r.ccr 14 flags (refl, refl) (refl, refl) })
    (either r (nat_le 65536 (n / r.x)) _ _
    (record {
      same = masked_put (put over 1 true) 0 false (omega arith) ∙ masked_put over 1 true (omega arith)
          ∙ masked_opened r.ccr 12 flags (refl, refl) (refl, refl);
    })
    (record { same = masked_four r.ccr (nat_le 32768 (n / r.x)) (n / r.x == 0) false false })) in
    k.same
masks_are flags Fdiv r m p =
    let z = (r.a * 2 ^ 8 + r.b) * 2 ^ 16 / r.x == 0 in
    let k : Same r (divided_fraction r) =
    either r (nat_lt (r.a * 2 ^ 8 + r.b) r.x) _ _
    (record { same = masked_three r.ccr z false false }) (record { same = masked_three r.ccr false true (r.x == 0) }) in
    k.same
masks_are flags Mem r m p = masked_opened r.ccr 47 flags (refl, refl) (refl, refl)
masks_are flags i r m p = search (rules, masked_zero, masked_tested, masked_again, masked_four, masked_five)

mask_is : (flags : ℕ) (i : Instr) (r : Regs) (m : List ℕ) → keeps_i i ≡ true
    → has (effect flags i r m).regs.ccr interrupts_masked ≡ has r.ccr interrupts_masked
mask_is flags (LdaaImmediate v) r m p = ap (λ (b : Bool × Bool). b.0) (masks_are flags (LdaaImmediate v) r m p)
mask_is flags (Andcc v) r m p = bit_and_is r.ccr.0 v 4 ∙ ap (λ (b : Bool). b && bit r.ccr.0 4) p
mask_is flags (Orcc v) r m p = bit_or_is r.ccr.0 (bit_and v 191) 4
    ∙ ap (λ (b : Bool). b || bit r.ccr.0 4) (bit_and_is v 191 4 ∙ not-true (bit v 4) p)
mask_is flags i r m p = ap (λ (b : Bool × Bool). b.0) (masks_are flags i r m p)

x_is : (flags : ℕ) (i : Instr) (r : Regs) (m : List ℕ) → keeps_x i ≡ true
    → has (effect flags i r m).regs.ccr x_masked ≡ has r.ccr x_masked
x_is flags (LdaaImmediate v) r m p = ap (λ (b : Bool × Bool). b.1) (masks_are flags (LdaaImmediate v) r m p)
x_is flags (Andcc v) r m p = bit_and_is r.ccr.0 v 6 ∙ ap (λ (b : Bool). b && bit r.ccr.0 6) p
x_is flags (Orcc v) r m p = bit_or_is r.ccr.0 (bit_and v 191) 6
    ∙ ap (λ (b : Bool). b || bit r.ccr.0 6) (bit_and_is v 191 6)
x_is flags i r m p = ap (λ (b : Bool × Bool). b.1) (masks_are flags i r m p)

pub plain_leaves_by_tables : PlainLeavesByTables
plain_leaves_by_tables flags i r m p = record {
  pc = pc_is flags i r m;
  sp = sp_is flags i r m p;
  mask = mask_is flags i r m;
  x = x_is flags i r m;
  writes = writes_are flags i r m p;
}

-- Of these, those that go straight on.
straight_is : (i : Instr) (sp : ℕ) → is_straight i ≡ true
    → (is_plain i ≡ true) × (sp_behind i sp ≡ sp) × ((passes_on i && (keeps_i i && keeps_x i)) ≡ true)
straight_is (LdaaImmediate v) sp p = (refl, refl, p)
straight_is i sp p = search (rules, false≢true)

pub straight_goes_on : StraightGoesOn
straight_goes_on flags i r m p =
    let k = straight_is i r.sp p in
    let on = and_parts (passes_on i) (keeps_i i && keeps_x i) k.2 in
    let masks = and_parts (keeps_i i) (keeps_x i) on.1 in
    record {
      plain = k.0;
      pc = pc_is flags i r m on.0;
      sp = sp_is flags i r m k.0 ∙ k.1;
      mask = mask_is flags i r m masks.0;
      x = x_is flags i r m masks.1;
    }
