-- A firmware that stands alone is a sound form under requests that list writes. The proof stands here, where an impl
-- can cite it.
-- Beside the promise.
use Rattle.std.proofs.Common.{◌≡◌, ℕ, zero, suc, ◌+◌, ◌*◌, ◌<◌, ◌≤◌, Bool, true, false, List, [], ◌∷◌, ◌++◌, refl, ap}
use Rattle.std.proofs.Common.{ap₂, arith, inl, nat_lt, nat_le}
use Rattle.std.specs.Prelude.{All, ◌==◌, ◌&&◌}
use Rattle.std.proofs.lemmas.Bool.{and_parts, ltb-true}
use Rattle.std.proofs.lemmas.Bool.Decides.{nat_tests}
use Rattle.cpu12_isa.specs.declared.{instr.Regs.Regs, instr.Write.Write}
use Rattle.cpu12_isa.specs.{Agreement.Agree, Agreement.WritesAgree, Memory.plus, Memory.placed, Memory.word_of}
use Rattle.cpu12_isa.specs.Regions.{free_start, stack_start, is_free, is_hidden, LeavesStack}
use Rattle.cpu12_parts.specs.State.{State}
use Rattle.cpu12_emul.specs.Simulation.{AreOpen, OnStackOnly, Same}
use Rattle.run_law.specs.Soundness.{Sound, WritesAreQuiet}
use Rattle.interrupt_plan.specs.Plans.{IsGoodRequest}
use Rattle.firmware_code.specs.{declared.firmware.Firmware.Firmware, Interruptible.is_idle}
use Rattle.firmware_code.proofs.Algebra.{low_shown}
use Rattle.byte_scaling.specs.declared.width.{Width.Width, Width.TheVariants.Byte, Width.TheVariants.Word}
use Rattle.byte_scaling.specs.Widths.{places}
use Rattle.firmware_runs.specs.Ports.{given, answer_at, answers_at, answers_in}
use Rattle.alone_runs.specs.{Forms.with_writes, Following.IsLow, Following.OpensFree, Following.Nothing}
use Rattle.firmware_runs.specs.Facts.{FactsBeside}

pub leaves_stack : LeavesStack is_free
leaves_stack at h =
    let p = and_parts (nat_le free_start at) (nat_lt at stack_start) h in
    inl (ltb-true at stack_start p.1)

-- the free bytes are as OpensFree says
pub free_opens : OpensFree is_free
free_opens = record { apart = leaves_stack; free = λ at h. h; low = λ at h. grind (arith, nat_tests) }

-- the bytes that are read from outside are not open
pub record LeavesPorts (open_to : ℕ → Bool) (f : Firmware) : Type 0 where
  pub ready : open_to f.memory_map.sample_flag ≡ false
  pub outputs : (at : ℕ) → f.memory_map.outputs ≤ at → at < f.memory_map.outputs + places f.width * f.outputs
      → open_to at ≡ false

below : (a b c : ℕ) → a < b → b ≤ c → a < c
below a b c l m = omega arith

pub low_ports : (open_to : ℕ → Bool) → OpensFree open_to → (f : Firmware) → IsLow f → LeavesPorts open_to f
low_ports open_to opens f low = record {
  ready = opens.low f.memory_map.sample_flag low.ready;
  outputs = λ at from to.
      opens.low at (below at (f.memory_map.outputs + places f.width * f.outputs) free_start to low.outputs);
}

pub all_open : (open_to : ℕ → Bool) → OpensFree open_to → (ws : List Write)
    → All (λ (w : Write). is_free w.at ≡ true) ws → AreOpen open_to ws
all_open open_to opens [] g = tt
all_open open_to opens (w ∷ ws) g =
    (opens.free w.at (g 0 w (omega arith)), all_open open_to opens ws (λ k x l. g (suc k) x (omega arith)))

-- answers that stand in shown bytes are the same
same_answer : (hidden : ℕ → Bool) (w : Width) (at : ℕ) (m n : List ℕ) → at + places w ≤ free_start
    → ((j : ℕ) → at ≤ j → j < at + places w → hidden j ≡ false) → Agree hidden m n
    → answer_at w at m ≡ answer_at w at n
same_answer hidden Byte at m n l h a = a.bytes at (h at (omega arith) (omega arith))
same_answer hidden Word at m n l h a =
    let high = a.bytes at (h at (omega arith) (omega arith)) in
    ap₂ word_of high (a.bytes (plus at 1) (h (plus at 1) (omega arith) (omega arith)))

same_answers : (hidden : ℕ → Bool) (w : Width) (k at : ℕ) (m n : List ℕ) → at + places w * k ≤ free_start
    → ((j : ℕ) → at ≤ j → j < at + places w * k → hidden j ≡ false) → Agree hidden m n
    → answers_at w k at m ≡ answers_at w k at n
same_answers hidden w zero at m n l h a = refl
same_answers hidden Byte (suc k) at m n l h a =
    let next : plus at 1 ≡ at + 1 = omega arith in
    ap₂ (λ (x : ℕ) (xs : List ℕ). x ∷ xs)
    (same_answer hidden Byte at m n (omega arith) (λ j from to. h j from (omega arith)) a)
    (same_answers hidden Byte k (plus at 1) m n (omega arith) (λ j from to. h j (omega arith) (omega arith)) a)
same_answers hidden Word (suc k) at m n l h a =
    let next : plus at 2 ≡ at + 2 = omega arith in
    ap₂ (λ (x : ℕ) (xs : List ℕ). x ∷ xs)
    (same_answer hidden Word at m n (omega arith) (λ j from to. h j from (omega arith)) a)
    (same_answers hidden Word k (plus at 2) m n (omega arith) (λ j from to. h j (omega arith) (omega arith)) a)

-- samples are given, answers read and ends seen alike
pub given_alike : WritesAgree → (open_to : ℕ → Bool) (f : Firmware) (x : List ℕ) (w s : State) → Same open_to w s
    → Same open_to (given f.memory_map x w) (given f.memory_map x s)
given_alike agree open_to f x w s l =
    let hidden = is_hidden open_to s.regs.sp in
    let writes = placed f.memory_map.samples x ++ (f.memory_map.sample_flag, 1) ∷ [] in
    record { regs = l.regs; temps = l.temps; mem = agree writes w.mem s.mem hidden hidden l.mem (λ at h. inl h) }

pub answered_alike : (open_to : ℕ → Bool) (f : Firmware) → LeavesPorts open_to f → IsLow f → (w s : State)
    → Same open_to w s → answers_in f w ≡ answers_in f s
answered_alike open_to f ports low w s l =
    same_answers (is_hidden open_to s.regs.sp) f.width f.outputs f.memory_map.outputs w.mem s.mem low.outputs
    (λ j from to. low_shown open_to s.regs.sp j (ports.outputs j from to)
    (below j (f.memory_map.outputs + places f.width * f.outputs) free_start to low.outputs)) l.mem

pub ended_alike : (open_to : ℕ → Bool) (f : Firmware) → LeavesPorts open_to f → IsLow f → (w s : State)
    → Same open_to w s → is_idle f.memory_map w ≡ is_idle f.memory_map s
ended_alike open_to f ports low w s l =
    let ready = low_shown open_to s.regs.sp f.memory_map.sample_flag ports.ready low.ready in
    let waits : ℕ → ℕ → Bool = λ p v. (p == f.memory_map.wait) && (v == 0) in
    ap₂ waits (ap (λ (r : Regs). r.pc) l.regs) (l.mem.bytes f.memory_map.sample_flag ready)

pub sound : (open_to : ℕ → Bool) → OpensFree open_to → (flags : ℕ) (f : Firmware) → IsLow f → WritesAgree
    → WritesAreQuiet
    → Sound OnStackOnly open_to (with_writes flags f) (FactsBeside open_to flags f) IsGoodRequest Nothing
sound open_to opens flags f low agree quiet = record {
  apart = opens.apart;
  shown = λ s p. (let facts = p.facts in facts.shown);
  gives = λ x w s l. given_alike agree open_to f x w s l;
  leaves = λ x w s l. l;
  answers = λ w s l. answered_alike open_to f (low_ports open_to opens f low) low w s l;
  ends = λ m w s l. ended_alike open_to f (low_ports open_to opens f low) low w s l;
  quiet = λ done a v s good p may begins own.
      (let facts = p.facts in
      let shown = facts.shown in (
        quiet OnStackOnly open_to a.writes v s opens.apart (all_open open_to opens a.writes good.free) shown.room
            begins,
        tt,
      ));
  leaves_open = record {
    leaves = λ done x w o. tt;
    pushes = λ done w s p l o. tt;
    steps = λ done w s p l o. tt;
  };
}
