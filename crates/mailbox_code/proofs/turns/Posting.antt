-- What the turns of the mailbox form are under.
use Rattle.mailbox_code.proofs.Words.{ℕ, ◌++◌, ◌+◌, ◌<◌, ◌^◌, ◌∷◌, ◌≡◌, ◌≤◌, ◌⊎◌, arith, Beq, Bool, call_code}
use Rattle.mailbox_code.proofs.Words.{copy_code, false, inl, inr, is_free, is_postable, IsAt, LdaaExtended, List, Lives}
use Rattle.mailbox_code.proofs.Words.{LowerLaws, mailbox_map, nat_tests, Orcc, Setting, Stands, State}
use Rattle.cpu12_isa.specs.Code.{decode_at}
use Rattle.firmware_code.specs.Settings.{IsShut}
use Rattle.firmware_code.specs.Interruptible.{IsSteady}
use Rattle.std.proofs.Common.{Ok}
use Rattle.eval_code.specs.Evaluation.{Reads, Writes}
use Rattle.firmware_code.specs.Arrivals.{FreeBytesLeave}
use Rattle.firmware_code.proofs.Algebra.{steady_of}

-- the laws, the number of inputs, the image's memory and the open flags
pub record Post : Type 0 where
  pub laws : LowerLaws
  pub n : ℕ
  pub few : n ≤ 8
  pub image : List ℕ
  pub flags : ℕ
  pub fits : flags < 2 ^ 8

pub free_shut : FreeBytesLeave → (n : ℕ) → IsShut is_free (mailbox_map n)
free_shut free n = record {
  reads = free.reads;
  writes = free.writes;
  stack = free.stack;
  code = λ at from to. free.code at from (omega arith);
  low = omega arith;
  high = omega arith;
}

-- what EVAL owns is not the mailbox, nor is the stack or what stands above it
not_postable : (at : ℕ) → (at < 0x1020) ⊎ (((0x1029 ≤ at) × (at < 0x1800)) ⊎ (0x1FE0 ≤ at)) → is_postable at ≡ false
not_postable at (inl h) = grind (arith, nat_tests)
not_postable at (inr (inl h)) = let lo = h.0 in let hi = h.1 in grind (arith, nat_tests)
not_postable at (inr (inr h)) = grind (arith, nat_tests)

read_else : (n at : ℕ) → Reads (mailbox_map n) at → is_postable at ≡ false
read_else n at (inl o) = not_postable at (inl (omega (arith, o.1)))
read_else n at (inr (inl o)) = not_postable at (inr (inl (omega (arith, o.0), omega (arith, o.1))))
read_else n at (inr (inr (inl o))) = not_postable at (inr (inr (omega (arith, o.0))))
read_else n at (inr (inr (inr (inl o)))) = not_postable at (inr (inr (omega (arith, o.0))))
read_else n at (inr (inr (inr (inr (inl o))))) = not_postable at (inr (inr (omega (arith, o.0))))
read_else n at (inr (inr (inr (inr (inr (inl o)))))) = not_postable at (inr (inr (omega (arith, o.0))))
read_else n at (inr (inr (inr (inr (inr (inr o)))))) = absurd o

written_else : (n at : ℕ) → Writes (mailbox_map n) at → is_postable at ≡ false
written_else n at (inl o) = not_postable at (inl (omega (arith, o.1)))
written_else n at (inr (inl o)) = not_postable at (inr (inl (omega (arith, o.0), omega (arith, o.1))))
written_else n at (inr (inr o)) = absurd o

pub postable_shut : (n : ℕ) → IsShut is_postable (mailbox_map n)
postable_shut n = record {
  reads = read_else n;
  writes = written_else n;
  stack = λ at from to. not_postable at (inr (inr from));
  code = λ at from to. not_postable at (inr (inr (omega arith)));
  low = omega arith;
  high = omega arith;
}

abbrev ctx_over : (p : Post) (open_to : ℕ → Bool) → IsShut open_to (mailbox_map p.n) → Setting
ctx_over p open_to shut = record {
  stays_fit = p.laws.stays_fit;
  decodes = p.laws.decodes;
  open_to = open_to;
  memory_map = mailbox_map p.n;
  shut = shut;
  image = p.image;
  flags = p.flags;
  fits = p.fits;
}

-- up to the copy's end the free bytes are open, from there on the mailbox too
abbrev pub free_ctx : Post → Setting
free_ctx p = ctx_over p is_free (free_shut p.laws.free p.n)

abbrev pub post_ctx : Post → Setting
post_ctx p = ctx_over p is_postable (postable_shut p.n)

-- the code of a turn stands
pub record HasTurn (p : Post) : Type 0 where
  pub look : decode_at p.image 0xC008 ≡ Ok (LdaaExtended 0x1028)
  pub rest : Stands (free_ctx p) 0xC00B
      (Beq 0xFB ∷ Orcc 0x10 ∷ (copy_code 0x1020 0x1001 p.n ++ call_code (mailbox_map p.n) p.n))

-- what a state keeps
pub lives_of : (open_to : ℕ → Bool) (masked : Bool) (image : List ℕ) (s : State) → IsSteady open_to masked image s
    → Lives image masked s
lives_of open_to masked image s h =
    record {
      temps = h.temps;
      size = h.size;
      bytes = h.bytes;
      fits = h.fits;
      stack = h.stack;
      mask =
          h.mask;
      same = h.same;
    }

pub at_of : (p : Post) (pc : ℕ) (s : State) → Lives p.image false s → s.regs.pc ≡ pc → 0xC000 ≤ pc → pc + 6 ≤ 0xD000
    → s.regs.sp ≡ 0x2000 → IsAt p.image pc s
at_of p pc s l e lo hi sp =
    record { steady = steady_of (post_ctx p) false s l (omega arith) (omega arith); pc = e; sp = sp }
