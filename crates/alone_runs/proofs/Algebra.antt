-- The run without interrupts of a firmware that stands alone is one, whatever its handlers do and tell, and its samples
-- leave what is open to them.
use Rattle.std.proofs.Common.{◌≡◌, ℕ, Bool, List, [], ◌∷◌, inl, sym, subst, arith}
use Rattle.fuzzy_meaning.specs.{declared.block.Block.Block, Blocks.IsValid}
use Rattle.cpu12_parts.specs.State.{State}
use Rattle.run_law.specs.{Following.AllComplete, Uninterrupted.uninterrupted}
use Rattle.run_forms.specs.Forms.{FormParts, plan_form}
use Rattle.eval_code.specs.{declared.memory_map.MemoryMap.MemoryMap, MemoryMaps.main_map, Firing.AreInputBytes}
use Rattle.firmware_code.specs.{declared.firmware.Firmware.Firmware, Arrivals.LeavesMapped}
use Rattle.firmware_runs.specs.Ports.{given}
use Rattle.alone_runs.specs.{Forms.stand_alone, Forms.with_writes, OpenBytes.AreOpenAlike, OpenBytes.GivenLeavesOpen}
pub use Rattle.alone_runs.proofs.OpenBytes.{sp_of, step_left, written_parts}
pub use Rattle.alone_runs.proofs.SampleBytes.{got}
pub use Rattle.alone_runs.proofs.Requests.{slice_in_order}

pub all_complete : {A B : Type 0} (P : State → Type 0) (flags : ℕ) (f : Firmware) (p : FormParts (List ℕ) A B)
    (ns : List ℕ) (samples : List (List ℕ)) (s : State) → AllComplete P (with_writes flags f) ns samples s
    → AllComplete P (plan_form flags (stand_alone f p.place p.handle p.tells)) ns samples s
all_complete P flags f p [] [] s h = tt
all_complete P flags f p (n ∷ ns) [] s h = h
all_complete P flags f p [] (x ∷ xs) s h = h
all_complete P flags f p (n ∷ ns) (x ∷ xs) s h =
    let one = h.0 in (
      record { sum = one.sum; holds = one.holds; on = one.on; ended = one.ended },
      all_complete P flags f p ns xs (uninterrupted flags n (given f.memory_map x s)) h.1,
    )

pub given_leaves : GivenLeavesOpen → (open_to : ℕ → Bool) (l : MemoryMap) → l ≡ main_map → LeavesMapped open_to l
    → (b : Block) → IsValid b → (x : List ℕ) → AreInputBytes b x → (w : State)
    → AreOpenAlike open_to w.mem (given l x w).mem
given_leaves law open_to l is leaves b v x input w =
    subst (λ (m : MemoryMap). LeavesMapped open_to m → AreOpenAlike open_to w.mem (given m x w).mem) (sym is)
    (λ free. law open_to main_map x w (omega (arith, input.count, v.few_inputs)) (omega arith) free.ready
    (λ at from to. free.reads at (inl (from, to)))) leaves
