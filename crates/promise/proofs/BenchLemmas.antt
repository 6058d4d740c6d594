-- A firmware on the bench.
use Rattle.std.proofs.Common.{◌≡◌, ◌<◌, ◌∙◌, ℕ, zero, suc, List, [], ◌∷◌, refl, sym, ap, subst, arith}
use Rattle.std.specs.Prelude.{false, not, ◌≢◌}
use Rattle.cpu12_parts.specs.{State.State, Whole.IsPlainStep, Whole.PlainExecution}
use Rattle.cpu12_parts.specs.declared.temps.Temps.TheVariants.{Free}
use Rattle.cpu12_emul.specs.Take.{framed}
use Rattle.firmware_code.specs.{declared.firmware.Firmware.Firmware, Interruptible.is_idle}
use Rattle.eval_code.specs.{MemoryMaps.main_map, declared.memory_map.MemoryMap.MemoryMap}
use Rattle.byte_scaling.specs.declared.width.Width.{Width}
use Rattle.firmware_runs.specs.Ports.{answers_at, given}
use Rattle.interrupt_plan.specs.declared.Request.{Request}
use Rattle.cpu12_isa.specs.Flags.{has, interrupts_masked}
use Rattle.run_law.specs.Following.{AllComplete, expected_rows}
use Rattle.run_law.specs.Uninterrupted.{counted, frames_of, resumed_of, state_by, stepped, taken_at, uninterrupted}
use Rattle.run_law.specs.{Moments.TakenAtOnce, Forms.Form, Forms.RowSeen}
use Rattle.run_forms.specs.Arrival.{PlainIsOneStep}
use Rattle.alone_runs.specs.{Following.rows_of_samples, Forms.with_writes}
use Rattle.promise.specs.Bench.{AreReadOff, bench, requests_in}

-- ---- the form of a firmware that stands alone is the bench's

-- the form of firmware by what it has of it
abbrev form_by : ℕ → MemoryMap → Width → ℕ → Form (List ℕ) Request (Unit {0})
form_by flags map width outputs = record {
  flags = flags;
  give = given map;
  leave = λ bytes s. s;
  ends = λ m s. is_idle map s;
  answers = λ s. answers_at width outputs map.outputs s.mem;
  moment = λ r. r.moment;
  handle = λ r s. framed r.writes s;
  tells = λ r s. tt;
}

pub bench_is : (flags : ℕ) (f : Firmware) (width : Width) (outputs : ℕ) → f.memory_map ≡ main_map
    → f.width ≡ width → f.outputs ≡ outputs → with_writes flags f ≡ bench width outputs flags
bench_is flags f width outputs map same count =
    ap (λ (m : MemoryMap). form_by flags m f.width f.outputs) map
    ∙ (ap (λ (w : Width). form_by flags main_map w f.outputs) same
    ∙ ap (λ (n : ℕ). form_by flags main_map width n) count)

-- ---- rows that are read off

pub read_off : (P : State → Type 0) (flags : ℕ) (f : Firmware) (plan : List Request) (k : ℕ) (ns : List ℕ)
    (samples : List (List ℕ))
    (s : State) → AllComplete P (with_writes flags f) ns samples s
    → AreReadOff (with_writes flags f) (requests_in plan) k samples (rows_of_samples flags f plan k ns samples s) s
read_off P flags f plan k [] [] s all = tt
read_off P flags f plan k (n ∷ ns) [] s all = absurd all
read_off P flags f plan k [] (x ∷ rest) s all = absurd all
read_off P flags f plan k (n ∷ ns) (x ∷ rest) s all =
    let c = all.0 in (
      record { before = λ j lt. c.on j (omega arith) (omega (arith, lt)); there = c.ended },
      refl,
      read_off P flags f plan (suc k) ns rest (uninterrupted flags n (given f.memory_map x s)) all.1,
    )

-- ---- plain instructions are steps

pub record Reaches (flags at n : ℕ) (s t : State) : Type 0 where
  pub state : t ≡ uninterrupted flags n s
  pub before : (j : ℕ) → j < n → (uninterrupted flags j s).regs.pc ≢ at

stepped_is : PlainIsOneStep → (flags : ℕ) (i : _) (s t : State) → s.temps ≡ Free → IsPlainStep flags i s t
    → stepped flags s ≡ t
stepped_is one flags i s t free step = ap (state_by s) (one flags i s t free step)

pub reaches : PlainIsOneStep → (flags at n : ℕ) (s t : State) → s.temps ≡ Free → PlainExecution flags at n s t
    → Reaches flags at n s t
reaches one flags at zero s t free e = record { state = sym e; before = λ j lt. absurd (omega (arith, lt)) }
reaches one flags at (suc n) s t free e =
    let u = e.0 in
    let step = e.1.1.1 in
    let goes : stepped flags s ≡ u = stepped_is one flags e.1.1.0 s u free step in
    let kept : u.temps ≡ Free = ap (λ (v : State). v.temps) step.after ∙ free in
    let rest = reaches one flags at n u t kept e.1.2 in
    record {
      state = rest.state ∙ ap (uninterrupted flags n) (sym goes);
      before = not_before goes rest;
    }
  where
    not_before : {u : State} → stepped flags s ≡ u → Reaches flags at n u t
        → (j : ℕ) → j < suc n → (uninterrupted flags j s).regs.pc ≢ at
    not_before {u} goes rest zero lt = e.1.0
    not_before {u} goes rest (suc j) lt =
        subst (λ (v : State). (uninterrupted flags j v).regs.pc ≢ at) (sym goes) (rest.before j (omega (arith, lt)))

-- ---- rows that are read off, of any form whose states take an interrupt at once

-- the row of a sample, by the boundary at which a request is taken
abbrev row_by : {S A B : Type 0} → Form S A B → List A → ℕ → S → State → (A → ℕ) → RowSeen S
row_by f requests n x s moment = record {
  sample = x;
  answers = f.answers (uninterrupted f.flags n s);
  instrs = counted f.flags n s;
  steps = n;
  resumed = resumed_of f.flags moment s requests n;
  frames = frames_of f.flags moment s requests n;
}

pub read_off_expected : {S A B : Type 0} (law : TakenAtOnce) (P : State → Type 0)
    → ((u : State) → P u → has u.regs.ccr interrupts_masked ≡ false) → (f : Form S A B) (asks : ℕ → List A)
    (k : ℕ) (ns : List ℕ) (samples : List S) (s : State) → AllComplete P f ns samples s
    → AreReadOff f asks k samples (expected_rows f asks k ns samples s) s
read_off_expected law P unmasked f asks k [] [] s all = tt
read_off_expected law P unmasked f asks k (n ∷ ns) [] s all = absurd all
read_off_expected law P unmasked f asks k [] (x ∷ rest) s all = absurd all
read_off_expected {S = S} {A = A} law P unmasked f asks k (n ∷ ns) (x ∷ rest) s all =
    let u = f.give x s in
    let c = all.0 in
    let at : taken_at f.flags f.moment n u ≡ f.moment =
    λ i. λ a. law f.flags n u (f.moment a) (λ j lt. ap not (unmasked _ (c.holds j lt))) i in (
      record { before = λ j lt. c.on j (omega arith) (omega (arith, lt)); there = c.ended },
      ap (row_by f (asks k) n x u) at,
      read_off_expected law P unmasked f asks (suc k) ns rest (f.leave x (uninterrupted f.flags n u)) all.1,
    )
