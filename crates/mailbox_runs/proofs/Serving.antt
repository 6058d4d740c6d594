-- Behind the call POSTED is not written, so that PC is not where the code waits before the end.
use Rattle.mailbox_runs.proofs.Words.{◌∙◌, ◌≡◌, ap, applied, arith, Before, Facts, FactsBeside, false, Firmware}
use Rattle.mailbox_runs.proofs.Words.{get_or, image_memory, is_hidden, is_idle, is_postable, IsServing, Left}
use Rattle.mailbox_runs.proofs.Words.{MemoryMap, min, nat_tests, Next, next_of, Ok, refl, Result, State, state_by}
use Rattle.mailbox_runs.proofs.Words.{stepped, suc, sym, true, write_all, zero, ℕ}
use Rattle.cpu12_isa.proofs.Algebra.{unwritten}
use Rattle.mailbox_runs.proofs.WholeTurns.{IsBusy}
use Rattle.eval_code.proofs.Algebra.{hidden_unwritten}

-- a state behind the call, in which no sample is posted
pub record IsServed (f : Firmware) (flags : ℕ) (s : State) : Type 0 where
  pub serving : IsServing is_postable f.memory_map (image_memory f.image.bytes) flags s
  pub cleared : get_or s.mem f.memory_map.sample_flag 0 ≡ 0

next_by : (flags : ℕ) (s : State) → Facts is_postable flags s → (next : Next) × (next_of flags s ≡ Ok next)
next_by flags s facts =
    let shown = facts.shown in
    let left = shown.left in (
      record {
        state = record { regs = left.regs; temps = left.temps; mem = write_all left.writes s.mem };
        kind =
            left.kind;
      },
      ap (λ (o : Result Left ℕ). applied o s.mem) shown.goes,
    )

-- a step leaves the open bytes
open_stays : (flags at : ℕ) (s : State) → Facts is_postable flags s → is_postable at ≡ true
    → get_or (stepped flags s).mem at 0 ≡ get_or s.mem at 0
open_stays flags at s facts h =
    let shown = facts.shown in
    let left = shown.left in
    let goes = ap (λ (o : Result Left ℕ). applied o s.mem) shown.goes in
    let hidden = is_hidden is_postable (min s.regs.sp left.regs.sp) in
    let is : hidden at ≡ true = rw h refl in
    ap (λ (u : State). get_or u.mem at 0) (ap (state_by s) goes)
    ∙ unwritten left.writes s.mem at (hidden_unwritten hidden left.writes at facts.writes is)

pub served : (f : Firmware) (flags n : ℕ) (s : State) → is_postable f.memory_map.sample_flag ≡ true
    → Before (IsServing is_postable f.memory_map (image_memory f.image.bytes) flags) flags n s
    → get_or s.mem f.memory_map.sample_flag 0 ≡ 0
    → Before (IsServed f flags) flags n s
served f flags zero s h b e k l = absurd (omega arith)
served f flags (suc n) s h b e zero l = record { serving = b 0 (omega arith); cleared = e }
served f flags (suc n) s h b e (suc k) l =
    let one = b 0 (omega arith) in
    served f flags n (stepped flags s) h (λ j i. b (suc j) (omega arith))
    (open_stays flags f.memory_map.sample_flag s one.facts h ∙ e) k (omega arith)

waits_there : (l : MemoryMap) (s : State) → s.regs.pc ≡ l.wait → get_or s.mem l.sample_flag 0 ≡ 0 → is_idle l s ≡ true
waits_there l s e h = grind (arith, nat_tests)

pub busy_by : (f : Firmware) (flags : ℕ) (s : State) → IsServed f flags s → IsBusy f.memory_map flags s
busy_by f flags s h =
    let serving = h.serving in
    let next = next_by flags s serving.facts in
    record {
      next = next.0;
      goes = next.1;
      away = λ e. absurd (let z : true ≡ false = sym (waits_there f.memory_map s e h.cleared) ∙ serving.busy in cc);
    }

pub facts_by : (f : Firmware) (flags : ℕ) (s : State) → IsServed f flags s → FactsBeside is_postable flags f s
facts_by f flags s h = let serving = h.serving in
    record { facts = serving.facts; image = serving.image; stack = serving.stack }
