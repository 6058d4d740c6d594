-- One instruction of the code around EVAL, and where it leads.
use Rattle.firmware_code.proofs.Words.{[], ℕ, ⊎_elim, ◌&&◌, ◌+◌, ◌-◌, ◌<◌, ◌==◌, ◌∙◌, ◌∷◌, ◌≡◌, ◌≢◌, ◌≤◌, addresses}
use Rattle.firmware_code.proofs.Words.{after_plain, AllShown, ap, arith, Bool, code_room, decode_at, decode_same, Each}
use Rattle.firmware_code.proofs.Words.{effect, encode_of, false, has, Here, inl, inr, Instr, is_hidden, is_idle}
use Rattle.firmware_code.proofs.Words.{IsInterruptibleStep, IsShut, length, List, Live, MemoryMap, min, nat_le, nat_lt}
use Rattle.firmware_code.proofs.Words.{nat_tests, Next, Ok, plain_act, read_by, refl, Setting, six_from, stack_end}
use Rattle.firmware_code.proofs.Words.{State, sym, true}
use Rattle.firmware_code.specs.Interruptible.{IsSteady}
use Rattle.cpu12_isa.specs.{Agreement.Agree, Agreement.Uncovers, Code.FitsOperands, Fits.EncodedIsShort}
use Rattle.cpu12_isa.specs.{Meaning.is_plain, Regions.stack_start}
use Rattle.cpu12_isa.specs.Plain.{StraightGoesOn, interrupt_masks}
use Rattle.std.proofs.Common.{ap₂}
use Rattle.std.proofs.lemmas.Bool.{or_parts}
use Rattle.firmware_code.specs.{Interruptible.IsStackOfOneCall, Settings.InstructionGoesOn}
use Rattle.eval_code.proofs.{Algebra.below_more, Algebra.bytes_writes, Algebra.instructions_stand}
use Rattle.cpu12_isa.proofs.Algebra.{length_writes}
use Rattle.firmware_code.specs.Settings.{InstructionsStand, LiveIsInterruptible, MaskedGoesOn, Went, Lives}
use Rattle.firmware_code.specs.Settings.{StraightInstructionGoesOn}
use Rattle.cpu12_parts.proofs.Algebra.{Bounded, bounded_one, bounded_on}
use Rattle.eval_code.proofs.Algebra.{all_shown, six_each, high_writes, WriteBelow}

-- SP while a call may be open, and with room for an interrupt
pub sp_near : (sp : ℕ) → IsStackOfOneCall sp → (stack_end - 2 ≤ sp) × (sp ≤ stack_end)
sp_near sp (inl e) = (omega arith, omega arith)
sp_near sp (inr e) = (omega arith, omega arith)

pub in_room : (sp : ℕ) → IsStackOfOneCall sp → (stack_start + 15 ≤ sp) × (sp ≤ stack_end)
in_room sp h = let near = sp_near sp h in (omega (arith, near.0), near.1)

-- a byte that is not open is shown below the stack, and from SP on
pub low_shown : (open_to : ℕ → Bool) (sp at : ℕ) → open_to at ≡ false → at < 0x1800 → is_hidden open_to sp at ≡ false
low_shown open_to sp at a h =
    let b : (nat_le 0x1FE0 at && nat_lt at sp) ≡ false = grind (arith, nat_tests) in
    rw (a, b)

pub high_shown : (open_to : ℕ → Bool) (sp at : ℕ) → open_to at ≡ false → sp ≤ at → is_hidden open_to sp at ≡ false
high_shown open_to sp at a h =
    let b : (nat_le 0x1FE0 at && nat_lt at sp) ≡ false = grind (arith, nat_tests) in
    rw (a, b)

-- so are the bytes of code
pub code_shown : (open_to : ℕ → Bool) (l : MemoryMap) (sp pc : ℕ) → IsShut open_to l → sp ≤ 0x2000 → l.code ≤ pc
    → pc + 6 ≤ l.code + code_room
    → AllShown (is_hidden open_to sp) (six_from pc)
code_shown open_to l sp pc shut a b c =
    let lo = shut.low in
    let hi = shut.high in
    all_shown (is_hidden open_to sp) (six_from pc)
    (six_each (λ at. is_hidden open_to sp at ≡ false) pc (omega arith)
    (λ at from to. high_shown open_to sp at (shut.code at (omega arith) (omega arith)) (omega arith)))

pub steady_of : (c : Setting) (masked : Bool) (s : State) → Lives c.image masked s → c.memory_map.code ≤ s.regs.pc
    → s.regs.pc + 6 ≤ c.memory_map.code + code_room → IsSteady c.open_to masked c.image s
steady_of c masked s l lo hi = record {
  temps = l.temps;
  size = l.size;
  bytes = l.bytes;
  fits = l.fits;
  stack = l.stack;
  mask = l.mask;
  same = l.same;
  code = code_shown c.open_to c.memory_map s.regs.sp s.regs.pc c.shut (sp_near s.regs.sp l.stack).1 lo hi;
}

pub interruptible_of : LiveIsInterruptible
interruptible_of c = steady_of c false

-- where fewer bytes are open, no more is hidden
pub hidden_less : (few many : ℕ → Bool) (sp : ℕ) (m n : List ℕ) → ((at : ℕ) → many at ≡ false → few at ≡ false)
    → Agree (is_hidden few sp) m n → Agree (is_hidden many sp) m n
hidden_less few many sp m n less a = record { size = a.size; bytes = λ at h. a.bytes at (shown at h) }
  where
    shown : (at : ℕ) → is_hidden many sp at ≡ false → is_hidden few sp at ≡ false
    shown at h =
        let p = or_parts (many at) (nat_le 0x1FE0 at && nat_lt at sp) h in
        let is_shut = less at p.0 in
        rw (is_shut, p.1) refl

writes_shown : (open_to : ℕ → Bool) (sp : ℕ) (ws : List (ℕ × ℕ)) → WriteBelow 0x1800 ws
    → AllShown open_to (addresses ws)
    → AllShown (is_hidden open_to sp) (addresses ws)
writes_shown open_to sp [] h shut = tt
writes_shown open_to sp (w ∷ ws) h shut = (low_shown open_to sp w.0 shut.0 h.0, writes_shown open_to sp ws h.1 shut.1)

-- a conclusion from what an instruction reads, writes and uncovers being shown, its writes low, and the stack in place
abbrev WhereShown : Setting → State → Instr → Type 0 → Type 0
WhereShown c s i Conclusion = let e = effect c.flags i s.regs s.mem in
    AllShown (is_hidden c.open_to s.regs.sp) (read_by (plain_act c.flags i s.regs) s.mem)
    → AllShown (is_hidden c.open_to (min s.regs.sp e.regs.sp)) (addresses e.writes)
    → Uncovers (is_hidden c.open_to s.regs.sp) e.writes (is_hidden c.open_to e.regs.sp)
    → WriteBelow 0x2000 e.writes → IsStackOfOneCall e.regs.sp → Conclusion

-- a plain instruction that stands in the image and leaves the stack as the code has it, with I set or not
pub plain_went : (c : Setting) (masked later : Bool) (s : State) (p q : ℕ) (i : Instr) → Lives c.image masked s
    → s.regs.pc ≡ p → c.memory_map.code ≤ p → p + 6 ≤ c.memory_map.code + code_room
    → decode_at c.image p ≡ Ok i → is_plain i ≡ true → FitsOperands i
    → WhereShown c s i (has (effect c.flags i s.regs s.mem).regs.ccr 4 ≡ later
    → (effect c.flags i s.regs s.mem).regs.pc ≡ q → Went c later i s (after_plain c.flags i s) q)
plain_went c masked later s p q i l ep lo hi de pl fo reads writes uncovers below stack mask pc =
    let e = effect c.flags i s.regs s.mem in
    let fit = c.stays_fit c.flags i s.regs s.mem c.fits fo l.fits l.bytes in
    let low = c.shut.low in
    let high = c.shut.high in
    let d : decode_at s.mem s.regs.pc ≡ Ok i =
    ap (decode_at s.mem) ep ∙ decode_same c.image s.mem p (omega arith) (omega arith) l.same ∙ de in
    record {
      shown = record {
        step = record { decoded = d; plain = pl; after = refl };
        reads = reads;
        writes =
            writes;
        uncovers = uncovers;
      };
      lives = record {
        temps = l.temps;
        size = length_writes e.writes s.mem ∙ l.size;
        bytes = bytes_writes s.mem e.writes l.size fit.1 l.bytes;
        fits = fit.0;
        stack = stack;
        mask = mask;
        same = high_writes c.image s.mem e.writes below l.same;
      };
      pc_is = pc;
    }

-- the same where I stays 0, and the code does not wait
pub busy_next : (c : Setting) (s : State) (p q : ℕ) (i : Instr) → Live c s → is_idle c.memory_map s ≡ false
    → s.regs.pc ≡ p
    → c.memory_map.code ≤ p → p + 6 ≤ c.memory_map.code + code_room
    → decode_at c.image p ≡ Ok i → is_plain i ≡ true → FitsOperands i
    → WhereShown c s i (interrupt_masks (effect c.flags i s.regs s.mem).regs.ccr ≡ interrupt_masks s.regs.ccr
    → (effect c.flags i s.regs s.mem).regs.pc ≡ q → Next c s (after_plain c.flags i s) q)
busy_next c s p q i l busy ep lo hi de pl fo reads writes uncovers below stack masks pc =
    let w = plain_went c false false s p q i l ep lo hi de pl fo reads writes uncovers below stack
    (ap (λ (m : Bool × Bool). m.0) masks ∙ l.mask) pc in
    record {
      step = record {
        busy = busy;
        interruptible = interruptible_of c s l (omega arith) (omega arith);
        instruction =
            inl (i, (w.shown, refl));
      };
      live = w.lives;
      pc_is = pc;
    }

pub not_at : (l : MemoryMap) (s : State) (p : ℕ) → s.regs.pc ≡ p → p ≢ l.wait → is_idle l s ≡ false
not_at l s p e h = let a : (s.regs.pc == l.wait) ≡ false = grind (arith, nat_tests) in rw a

-- one that leaves SP, and writes below FREE alone
pub next : (c : Setting) (s : State) (p q : ℕ) (i : Instr) → Live c s → s.regs.pc ≡ p → Here c p i → is_plain i ≡ true
    → FitsOperands i
    → AllShown (is_hidden c.open_to s.regs.sp) (read_by (plain_act c.flags i s.regs) s.mem)
    → WriteBelow 0x1800 (effect c.flags i s.regs s.mem).writes
    → AllShown c.open_to (addresses (effect c.flags i s.regs s.mem).writes)
    → (effect c.flags i s.regs s.mem).regs.sp ≡ s.regs.sp
    → interrupt_masks (effect c.flags i s.regs s.mem).regs.ccr ≡ interrupt_masks s.regs.ccr
    → (effect c.flags i s.regs s.mem).regs.pc ≡ q
    → Next c s (after_plain c.flags i s) q
next c s p q i l ep h pl fo reads below shut esp masks pc =
    let e = effect c.flags i s.regs s.mem in
    busy_next c s p q i l (not_at c.memory_map s p ep h.off) ep h.from h.to h.decoded pl fo reads
    (writes_shown c.open_to (min s.regs.sp e.regs.sp) e.writes below shut)
    (λ at g. inl (ap (λ k. is_hidden c.open_to k at) (sym esp) ∙ g))
    (below_more 0x1800 0x2000 e.writes (omega arith) below)
    (⊎_elim (λ a. inl (esp ∙ a)) (λ b. inr (esp ∙ b)) l.stack) masks pc

-- the same by the addresses of what is written
below_by : (n : ℕ) (ws : List (ℕ × ℕ)) → Each (λ at. at < n) (addresses ws) → WriteBelow n ws
below_by n [] h = tt
below_by n (w ∷ ws) h = (h.0, below_by n ws h.1)

pub instruction_goes_on : InstructionGoesOn
instruction_goes_on c s p q i l ep h pl reads below shut esp masks pc =
    next c s p q i l ep h pl h.fits reads (below_by 0x1800 (effect c.flags i s.regs s.mem).writes below) shut
    esp masks pc

-- one that goes straight on
pub straight_goes_on : StraightGoesOn → EncodedIsShort → StraightInstructionGoesOn
straight_goes_on goes short c s p i l ep h straight reads below shut =
    let k = goes c.flags i s.regs s.mem straight in
    instruction_goes_on c s p (p + length (encode_of i)) i l ep h k.plain reads below shut k.sp
    (ap₂ (λ (a b : Bool). (a, b)) k.mask k.x) (omega (arith, k.pc, ep, h.high, short i))

pub masked_goes_on : MaskedGoesOn
masked_goes_on c masked later s p q i l ep lo hi de pl fo reads below shut esp mask pc =
    let e = effect c.flags i s.regs s.mem in
    let low = below_by 0x1800 e.writes below in
    plain_went c masked later s p q i l ep lo hi de pl fo reads
    (writes_shown c.open_to (min s.regs.sp e.regs.sp) e.writes low shut)
    (λ at g. inl (ap (λ k. is_hidden c.open_to k at) (sym esp) ∙ g))
    (below_more 0x1800 0x2000 e.writes (omega arith) low)
    (⊎_elim (λ a. inl (esp ∙ a)) (λ b. inr (esp ∙ b)) l.stack) mask pc

-- executions of at most n instructions, with at most k parts beyond their first
abbrev pub Goes : Setting → ℕ → ℕ → State → State → Type 0
Goes c = Bounded (IsInterruptibleStep c.open_to c.memory_map c.image c.flags)

pub goes_on : (c : Setting) (n k m j : ℕ) (s t u : State) → Goes c n k s t → Goes c m j t u → Goes c (n + m) (k + j) s u
goes_on c = bounded_on (IsInterruptibleStep c.open_to c.memory_map c.image c.flags)

pub goes_one : (c : Setting) (s t : State) (q : ℕ) → Next c s t q → Goes c 1 0 s t
goes_one c s t q h = bounded_one (IsInterruptibleStep c.open_to c.memory_map c.image c.flags) 0 s t h.step

-- code that stands in the image above where it waits
pub stands_of : InstructionsStand
stands_of c p code u h lo w hi =
    let end = c.shut.high in
    instructions_stand c.decodes (Here c) c.image p (c.memory_map.code + code_room) code end
    (λ at i from to fits decoded. record {
      from = omega arith;
      to = to;
      high = omega arith;
      off = λ e. omega arith;
      fits = fits;
      decoded = decoded;
    }) u h hi
