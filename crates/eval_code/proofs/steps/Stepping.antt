-- One instruction of EVAL, and where it leads.
use Rattle.eval_code.proofs.Words.{[], ◌+◌, ◌<◌, ◌^◌, ◌∙◌, ◌∷◌, ◌≡◌, ◌≤◌, after_plain, AgreeFrom, ap, AreBytes}
use Rattle.eval_code.proofs.Words.{arith, Bool, decode_at, Each, FitsRegs, inl, inr, Instr}
use Rattle.eval_code.proofs.Words.{interrupt_masks, IsApart, length, List, MemoryMap, Ok, Reads, refl, six_from}
use Rattle.eval_code.proofs.Words.{stack_end, State, StaysFit, subst, true, Writes, ℕ}
use Rattle.cpu12_isa.specs.{Act.read_by, Code.FitsOperands, Meaning.effect, Meaning.is_plain, Meaning.plain_act}
use Rattle.cpu12_isa.specs.{Fits.EncodedIsShort, Plain.StraightGoesOn}
use Rattle.cpu12_parts.specs.{Laws.addresses, Laws.IsOff, Touching.IsIn, Touching.IsBetween}
use Rattle.eval_code.specs.{Evaluation.eval_frame, Frames.IsStepIn, Standing.StandsWhere}
use Rattle.cpu12_isa.proofs.Algebra.{length_writes}
use Rattle.eval_code.proofs.steps.Memory.{WriteBelow, high_writes, bytes_writes}
use Rattle.eval_code.proofs.{steps.Addresses.six_each, steps.Decoding.decode_same}
use Rattle.cpu12_parts.proofs.Algebra.{Bounded, bounded_none, bounded_one, bounded_on, bounded_more}

-- what a run is under: the memory map, memory where EVAL begins and the open flags, and SP, I and X as they stay
pub record Ctx : Type 0 where
  pub stays_fit : StaysFit
  pub goes_straight : StraightGoesOn
  pub short : EncodedIsShort
  pub memory_map : MemoryMap
  pub apart : IsApart memory_map
  pub image : List ℕ
  pub flags : ℕ
  pub fits : flags < 2 ^ 8
  pub sp : ℕ
  pub masks : Bool × Bool

-- an instruction stands in EVAL's code
pub record Here (c : Ctx) (p : ℕ) (i : Instr) : Type 0 where
  pub low : 0x2000 ≤ p
  pub high : p + 6 < 65536
  pub above : c.memory_map.eval ≤ p
  pub below : p + 6 ≤ c.memory_map.eval + 2432
  pub fits : FitsOperands i
  pub decoded : decode_at c.image p ≡ Ok i

-- instructions one after another
abbrev pub Stands : Ctx → ℕ → List Instr → Type 0
Stands c = StandsWhere (Here c)

pub stands_at : (c : Ctx) (p q : ℕ) (is : List Instr) → p ≡ q → Stands c p is → Stands c q is
stands_at c p q is e h = subst (λ n. Stands c n is) e h

-- what each state of the run keeps
pub record Live (c : Ctx) (s : State) : Type 0 where
  pub off : IsOff s.temps
  pub size : length s.mem ≡ 65536
  pub bytes : AreBytes s.mem
  pub fits : FitsRegs s.regs
  pub stack : s.regs.sp ≡ c.sp
  pub masks : interrupt_masks s.regs.ccr ≡ c.masks
  pub same : AgreeFrom stack_end c.image s.mem

pub between_of : (c : Ctx) (s : State) → Live c s → IsBetween s
between_of c s l = record { off = l.off; size = l.size; bytes = l.bytes; fits = l.fits }

-- an address of the code, and those that a fetch looks at
pub code_in : (c : Ctx) (pc : ℕ) → c.memory_map.eval ≤ pc → pc + 6 ≤ c.memory_map.eval + 2432 → pc + 6 < 65536
    → Each (IsIn ((eval_frame c.memory_map).code)) (six_from pc)
code_in c pc a b h =
    six_each (IsIn (eval_frame c.memory_map).code) pc h (λ at lo hi. (omega arith, omega arith))

-- what EVAL writes is RAM
pub written_low : (l : MemoryMap) (at : ℕ) → IsApart l → Writes l at → at < 0x1800
written_low l at a (inl o) = omega (arith, a.outputs, a.slots, o.1)
written_low l at a (inr (inl o)) = omega (arith, a.slots, o.1)
written_low l at a (inr (inr o)) = absurd o

pub writes_low : (l : MemoryMap) (ws : List (ℕ × ℕ)) → IsApart l → Each (Writes l) (addresses ws) → WriteBelow 0x2000 ws
writes_low l [] a h = tt
writes_low l (w ∷ ws) a h = ((let q = written_low l w.0 a h.0 in omega arith), writes_low l ws a h.1)

-- one instruction on
pub record Next (c : Ctx) (s t : State) (q : ℕ) : Type 0 where
  pub step : IsStepIn (eval_frame c.memory_map) c.flags 0 s t
  pub live : Live c t
  pub pc_is : t.regs.pc ≡ q

-- a plain instruction of the code that touches what is owned alone
pub next : (c : Ctx) (s : State) (p q : ℕ) (i : Instr) → Live c s → s.regs.pc ≡ p → Here c p i → is_plain i ≡ true
    → FitsOperands i
    → Each (Reads c.memory_map) (read_by (plain_act c.flags i s.regs) s.mem)
    → Each (Writes c.memory_map) (addresses (effect c.flags i s.regs s.mem).writes)
    → (effect c.flags i s.regs s.mem).regs.sp ≡ s.regs.sp
    → interrupt_masks (effect c.flags i s.regs s.mem).regs.ccr ≡ interrupt_masks s.regs.ccr
    → (effect c.flags i s.regs s.mem).regs.pc ≡ q
    → Next c s (after_plain c.flags i s) q
next c s p q i l ep h pl fo reads writes esp masks pc =
    let e = effect c.flags i s.regs s.mem in
    let fit = c.stays_fit c.flags i s.regs s.mem c.fits fo l.fits l.bytes in
    let d : decode_at s.mem s.regs.pc ≡ Ok i = ap (decode_at s.mem) ep ∙ decode_same c.image s.mem p h.low h.high l.same
    ∙ h.decoded in
    record {
      step = record {
        between = between_of c s l;
        code = code_in c s.regs.pc (omega (arith, h.above)) (omega (arith, h.below)) (omega (arith, h.high));
        instruction = inl (
          i,
          (record { step = record { decoded = d; plain = pl; after = refl }; reads = reads; writes = writes }, refl),
        );
        stack = esp;
        masks = masks;
      };
      live = record {
        off = l.off;
        size = length_writes e.writes s.mem ∙ l.size;
        bytes = bytes_writes s.mem e.writes l.size fit.1 l.bytes;
        fits = fit.0;
        stack = esp ∙ l.stack;
        masks = masks ∙ l.masks;
        same = high_writes c.image s.mem e.writes (writes_low c.memory_map e.writes c.apart writes) l.same;
      };
      pc_is = pc;
    }

-- executions of at most n instructions, with at most k parts beyond their first
abbrev pub Goes : Ctx → ℕ → ℕ → State → State → Type 0
Goes c = Bounded (IsStepIn (eval_frame c.memory_map) c.flags)

pub goes_none : (c : Ctx) (s : State) → Goes c 0 0 s s
goes_none c = bounded_none (IsStepIn (eval_frame c.memory_map) c.flags)

pub goes_part : (c : Ctx) (d : ℕ) (s t : State) → IsStepIn (eval_frame c.memory_map) c.flags d s t → Goes c 1 d s t
goes_part c = bounded_one (IsStepIn (eval_frame c.memory_map) c.flags)

pub goes_on : (c : Ctx) (n k m j : ℕ) (s t u : State) → Goes c n k s t → Goes c m j t u → Goes c (n + m) (k + j) s u
goes_on c = bounded_on (IsStepIn (eval_frame c.memory_map) c.flags)

pub goes_most : (c : Ctx) (n k m j : ℕ) (s t : State) → n ≤ m → k ≤ j → Goes c n k s t → Goes c m j s t
goes_most c = bounded_more (IsStepIn (eval_frame c.memory_map) c.flags)

pub goes_one : (c : Ctx) (s t : State) (q : ℕ) → Next c s t q → Goes c 1 0 s t
goes_one c s t q h = goes_part c 0 s t h.step

-- where at most n instructions and k parts more lead
pub record Reaches (c : Ctx) (n k : ℕ) (s : State) (pc : ℕ) (mem : List ℕ) : Type 0 where
  pub t : State
  pub goes : Goes c n k s t
  pub live : Live c t
  pub pc_is : t.regs.pc ≡ pc
  pub mem_is : t.mem ≡ mem
  pub sp_is : t.regs.sp ≡ s.regs.sp

pub reaches_none : (c : Ctx) (s : State) (pc : ℕ) (mem : List ℕ) → Live c s → s.regs.pc ≡ pc → s.mem ≡ mem
    → Reaches c 0 0 s pc mem
reaches_none c s pc mem l ep em =
    record { t = s; goes = goes_none c s; live = l; pc_is = ep; mem_is = em; sp_is = refl }

pub reaches_after : (c : Ctx) (n k m j : ℕ) (s t : State) (pc : ℕ) (mem : List ℕ) → Goes c n k s t
    → t.regs.sp ≡ s.regs.sp → Reaches c m j t pc mem
    → Reaches c (n + m) (k + j) s pc mem
reaches_after c n k m j s t pc mem g es r =
    record {
      t = r.t;
      goes = goes_on c n k m j s t r.t g r.goes;
      live = r.live;
      pc_is = r.pc_is;
      mem_is =
          r.mem_is;
      sp_is = r.sp_is ∙ es;
    }

pub reaches_at : (c : Ctx) (n k m j : ℕ) (s : State) (pc pc' : ℕ) (mem mem' : List ℕ) → n ≤ m → k ≤ j → pc ≡ pc'
    → mem ≡ mem' → Reaches c n k s pc mem
    → Reaches c m j s pc' mem'
reaches_at c n k m j s pc pc' mem mem' a b ep em r =
    record {
      t = r.t;
      goes = goes_most c n k m j s r.t a b r.goes;
      live = r.live;
      pc_is = r.pc_is ∙ ep;
      mem_is =
          r.mem_is ∙ em;
      sp_is = r.sp_is;
    }
