-- From reset to where the code waits.
use Rattle.firmware_code.proofs.Words.{[], ℕ, ⊎_elim, ◌%◌, ◌*◌, ◌++◌, ◌+◌, ◌-◌, ◌/◌, ◌<◌, ◌^◌, ◌∙◌, ◌∷◌, ◌≡◌, ◌≢◌, ◌≤◌}
use Rattle.firmware_code.proofs.Words.{◌⊎◌, after_plain, AgreeFrom, ap, ap₂, arith, Block, block_items, Bool, Byte}
use Rattle.firmware_code.proofs.Words.{bytes_after_set, bytes_at, bytes_of, bytes_of_word, bytes_set_out, cases_eq}
use Rattle.firmware_code.proofs.Words.{ClrExtended, code_bytes, decode_at, decode_same, false, Free, get_or}
use Rattle.firmware_code.proofs.Words.{get_or-set_other, get_or-set_same, given_by, HasBytes, high_set, Holds}
use Rattle.firmware_code.proofs.Words.{image_memory, inl, inr, Instr, IsRising, Item, length, length-set, List, Live}
use Rattle.firmware_code.proofs.Words.{MemoryMap, Ok, places, PlainExecution, refl, reset_with, rule_bytes, same_bytes}
use Rattle.firmware_code.proofs.Words.{set, singleton_bytes, stack_end, start_code, State, subst, sym, table_bytes}
use Rattle.firmware_code.proofs.Words.{true, weight_bytes, Width, Word}
use Rattle.eval_code.proofs.Algebra.{unmasked}
use Rattle.eval_code.specs.Standing.{DecodesWhereItStands}
use Rattle.cpu12_isa.specs.declared.instr.Instr.TheVariants.{Andcc}
use Rattle.cpu12_isa.specs.Agreement.{Agree}
use Rattle.std.proofs.{Common.map}
use Rattle.cpu12_isa.specs.{declared.instr.Instr.TheVariants.LdsImmediate, declared.instr.Regs.Regs, Fits.FitsRegs}
use Rattle.cpu12_isa.specs.{Fits.AreBytes}
use Rattle.cpu12_asm.specs.{declared.items.Item.TheVariants.Op}
use Rattle.eval_code.specs.{Code.block_code, Standing.ZeroBelow}
use Rattle.firmware_code.specs.Frames.{first_waiting, StartArrives, StartArrivesAlike, IsStarted}
use Rattle.firmware_code.proofs.runs.Framing.{answer_room}

-- memory below the code is 0
pub zero_below : ZeroBelow
    → (image : List (ℕ × ℕ)) (l : MemoryMap) (b : Block) (w : Width) (before behind : List Instr) (rest : List Item)
    → Holds image (given_by (block_items l b w before behind ++ rest))
    → IsRising (block_items l b w before behind ++ rest) → (q : ℕ) → q < l.code
    → q < 65536 → get_or (image_memory image) q 0 ≡ 0
unfolding block_items
zero_below below image l b w before behind rest h rise q lt small =
    below image
    ((map Op (block_code l b w before behind)
    ++ (bytes_at l.tables (table_bytes b)
    ++ (bytes_at l.singletons (singleton_bytes b)
    ++ (bytes_at l.weights (weight_bytes b) ++ bytes_at l.rules (rule_bytes l.slots b))))) ++ rest)
    l.code q h rise lt small

-- answers that are 0, where memory is
none_stand : (w : Width) (m : List ℕ) (p : ℕ) → ((q : ℕ) → p ≤ q → q < p + length (bytes_of w 0) → get_or m q 0 ≡ 0)
    → HasBytes m p (bytes_of w 0)
none_stand Byte m p h = (h p (omega arith) (omega arith), tt)
none_stand Word m p h = (h p (omega arith) (omega arith), (h (p + 1) (omega arith) (omega arith), tt))

-- three plain instructions lead there
pub start_execution : DecodesWhereItStands → (flags : ℕ) (l : MemoryMap) (image : List ℕ) → IsStarted l
    → HasBytes image 0xFFFE (bytes_of_word l.code)
    → HasBytes image l.code (code_bytes (start_code l))
    → PlainExecution flags l.wait 3 (reset_with image) (first_waiting flags l image)
start_execution decodes flags l image f vector start =
    let lo = f.low in
    let hi = f.high in
    let w = f.wait in
    let r = f.ready in
    let s0 = reset_with image in
    let s1 = after_plain flags (LdsImmediate 0x2000) s0 in
    let s2 = after_plain flags (ClrExtended l.sample_flag) s1 in
    let s3 = after_plain flags (Andcc 0xEF) s2 in
    let p0 : s0.regs.pc ≡ l.code = ap₂ (λ x y. x * 2 ^ 8 + y) vector.0 vector.1.0 ∙ omega arith in
    let p1 : s1.regs.pc ≡ l.code + 3 = omega arith in
    let p2 : s2.regs.pc ≡ l.code + 6 = omega arith in
    let m = set image l.sample_flag 0 in
    let same : AgreeFrom stack_end image m = high_set image image l.sample_flag 0 (omega arith) (λ at le. refl) in
    let d0 : decode_at image s0.regs.pc ≡ Ok (LdsImmediate 0x2000) =
    ap (decode_at image) p0
    ∙ decodes image l.code (LdsImmediate 0x2000) (omega arith) (omega arith)
    (start.0, (start.1.0, (start.1.1.0, tt))) in
    let at1 : l.code + 1 + 1 + 1 ≡ l.code + 3 = omega arith in
    let b1 : HasBytes image (l.code + 3) (121 ∷ l.sample_flag / 2 ^ 8 ∷ l.sample_flag % 2 ^ 8 ∷ 16 ∷ 239 ∷ []) =
    subst (λ p. HasBytes image p (121 ∷ l.sample_flag / 2 ^ 8 ∷ l.sample_flag % 2 ^ 8 ∷ 16 ∷ 239 ∷ [])) at1 start.1.1.1 in
    let d1 : decode_at image s1.regs.pc ≡ Ok (ClrExtended l.sample_flag) =
    ap (decode_at image) p1
    ∙ decodes image (l.code + 3) (ClrExtended l.sample_flag) (omega arith) (omega arith) (b1.0, (b1.1.0, (b1.1.1.0, tt))) in
    let at2 : l.code + 3 + 1 + 1 + 1 ≡ l.code + 6 = omega arith in
    let b2 : HasBytes image (l.code + 6) (16 ∷ 239 ∷ []) = subst (λ p. HasBytes image p (16 ∷ 239 ∷ [])) at2 b1.1.1.1 in
    let d2 : decode_at m s2.regs.pc ≡ Ok (Andcc 0xEF) =
    ap (decode_at m) p2 ∙ decode_same image m (l.code + 6) (omega arith) (omega arith) same
    ∙ decodes image (l.code + 6) (Andcc 0xEF) (omega arith) (omega arith) (b2.0, (b2.1.0, tt)) in (
      s1,
      (
        omega arith,
        (LdsImmediate 0x2000, record { decoded = d0; plain = refl; after = refl }),
        (
          s2,
          (
            omega arith,
            (ClrExtended l.sample_flag, record { decoded = d1; plain = refl; after = refl }),
            (s3, (omega arith, (Andcc 0xEF, record { decoded = d2; plain = refl; after = refl }), refl)),
          ),
        ),
      ),
    )

-- the first arrival
pub arrive : StartArrives
arrive c b width before f a v start h =
    let few = v.few_outputs in
    let vector = h.reset in
    let size = h.size in
    let bytes = h.bytes in
    let l = c.memory_map in
    let lo = f.low in
    let hi = f.high in
    let w = f.wait in
    let r = f.ready in
    let i = a.inputs in
    let o = a.outputs in
    let z = a.slots in
    let s0 = reset_with c.image in
    let s1 = after_plain c.flags (LdsImmediate 0x2000) s0 in
    let s2 = after_plain c.flags (ClrExtended l.sample_flag) s1 in
    let s3 = after_plain c.flags (Andcc 0xEF) s2 in
    let p0 : s0.regs.pc ≡ l.code = ap₂ (λ x y. x * 2 ^ 8 + y) vector.0 vector.1.0 ∙ omega arith in
    let p1 : s1.regs.pc ≡ l.code + 3 = omega arith in
    let p2 : s2.regs.pc ≡ l.code + 6 = omega arith in
    let p3 : s3.regs.pc ≡ l.code + 8 = omega arith in
    let m = set c.image l.sample_flag 0 in
    let same : AgreeFrom stack_end c.image m = high_set c.image c.image l.sample_flag 0 (omega arith) (λ at le. refl) in
    let f0 : FitsRegs s0.regs =
    record {
      a = omega arith;
      b = omega arith;
      x = omega arith;
      y = omega arith;
      sp = omega arith;
      pc =
          omega arith;
      ccr = omega arith;
    } in
    let f1 = (c.stays_fit c.flags (LdsImmediate 0x2000) s0.regs c.image c.fits (omega arith) f0 bytes).0 in
    let f2 = (c.stays_fit c.flags (ClrExtended l.sample_flag) s1.regs c.image c.fits (omega arith) f1 bytes).0 in
    let bm : AreBytes m = bytes_after_set c.image l.sample_flag 0 bytes (omega arith) (omega arith) in
    let f3 = (c.stays_fit c.flags (Andcc 0xEF) s2.regs m c.fits (omega arith) f2 bm).0 in
    let live : Live c s3 = record {
      temps = refl;
      size = length-set c.image l.sample_flag 0 ∙ size;
      bytes = bm;
      fits = f3;
      stack = inr refl;
      mask = unmasked s2.regs.ccr.0;
      same = same;
    } in
    let ready : get_or m l.sample_flag 0 ≡ 0 = get_or-set_same c.image l.sample_flag 0 0 (omega arith) in
    let home : s3.regs.pc ≡ l.wait = p3 ∙ sym w in
    record {
      t = s3;
      first = refl;
      execution = start_execution c.decodes c.flags l c.image f vector start;
      home = record {
        live = live;
        pc_is = home;
        sp_is = refl;
        outs = λ o from to.
            (let p = l.outputs + places width * (o - 1) in
            let room = answer_room width o 0 from (omega arith) in
            bytes_set_out c.image l.sample_flag 0 p (bytes_of width 0)
            (⊎_elim (λ before. inr (omega arith)) (λ behind. inl (omega arith)) f.apart)
            (none_stand width c.image p (λ q lo hi. h.low q (omega arith))));
        ready_is = ready;
      };
    }

-- the registers there depend on PC alone
regs_from : ℕ → ℕ → ℕ → Regs
regs_from flags ready pc =
    (after_plain flags (Andcc 0xEF)
    (after_plain flags (ClrExtended ready) (after_plain flags (LdsImmediate 0x2000) start))).regs
  where
    start : State
    start = record {
      regs = record { a = 0; b = 0; x = 0; y = 0; sp = 0; pc = pc; ccr = record { 0 = 208 } };
      temps =
          Free;
      mem = [];
    }

set_agree : (open_to : ℕ → Bool) (m n : List ℕ) (at v : ℕ) → at < length n → Agree open_to m n
    → Agree open_to (set m at v) (set n at v)
set_agree open_to m n at v lt a =
    record {
      size = length-set m at v ∙ a.size ∙ sym (length-set n at v);
      bytes =
          λ q shown. each q shown (cases_eq q at);
    }
  where
    each : (q : ℕ) → open_to q ≡ false → (q ≡ at) ⊎ (q ≡ at → ⊥) → get_or (set m at v) q 0 ≡ get_or (set n at v) q 0
    each q shown (inl e) =
        let size = a.size in
        ap (λ (k : ℕ). get_or (set m at v) k 0) e ∙ get_or-set_same m at v 0 (omega arith)
        ∙ sym (get_or-set_same n at v 0 lt) ∙ ap (λ (k : ℕ). get_or (set n at v) k 0) (sym e)
    each q shown (inr other) = get_or-set_other m at q v 0 other ∙ a.bytes q shown
        ∙ sym (get_or-set_other n at q v 0 other)

-- an open byte is not one that is shown
apart : (open_to : ℕ → Bool) (p q : ℕ) → open_to p ≡ true → open_to q ≡ false → p ≢ q
apart open_to p q t f e = cc

pub arrive_alike : StartArrivesAlike
unfolding regs_from
arrive_alike c mem f shown reset vector start size a =
    let l = c.memory_map in
    let ready = f.ready in
    let here : HasBytes mem 0xFFFE (bytes_of_word l.code) =
    same_bytes c.image mem 0xFFFE (bytes_of_word l.code) (λ k lo hi. a.bytes k (reset k lo hi)) vector in
    let code : HasBytes mem l.code (code_bytes (start_code l)) =
    same_bytes c.image mem l.code (code_bytes (start_code l))
    (λ k lo hi. a.bytes k (c.shut.code k lo (omega arith))) start in
    let word : (m : List ℕ) → ℕ = λ m. get_or m 65534 0 * 2 ^ 8 + get_or m 65535 0 in
    let pc : word mem ≡ word c.image =
    ap₂ (λ (x y : ℕ). x * 2 ^ 8 + y) (a.bytes 65534 (reset 65534 (omega arith) (omega arith)))
    (a.bytes 65535 (reset 65535 (omega arith) (omega arith))) in
    record {
      state = first_waiting c.flags l mem;
      execution = start_execution c.decodes c.flags l mem f here code;
      regs = ap (regs_from c.flags l.sample_flag) pc;
      temps = refl;
      bytes = set_agree c.open_to mem c.image l.sample_flag 0 (omega arith) a;
      open_bytes = λ at is. get_or-set_other mem l.sample_flag at 0 0 (apart c.open_to at l.sample_flag is shown);
    }
