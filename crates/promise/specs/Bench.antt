-- The bench: firmware in the machine, samples given to it, and interrupts. What is said here is of an image alone.
-- Reached by the promise.
use Rattle.std.specs.Prelude.{◌≡◌, ◌≢◌, ◌<◌, ℕ, suc, ◌==◌, ◌&&◌, true, false, List, [], ◌∷◌, ◌++◌, filter}
use Rattle.std.specs.Prelude.{slice_index}
use Rattle.cpu12_asm.specs.declared.image.Image.{Image}
use Rattle.cpu12_isa.specs.{Act.write_all, Memory.placed}
use Rattle.cpu12_parts.specs.State.{State}
use Rattle.cpu12_emul.specs.{Image.image_memory, Step.reset_with, Take.framed}
use Rattle.byte_scaling.specs.declared.width.Width.{Width}
use Rattle.firmware_runs.specs.Ports.{answers_at}
use Rattle.interrupt_plan.specs.declared.Request.{Request}
use Rattle.run_law.specs.Forms.{Form, RowSeen, rows_from}
use Rattle.run_law.specs.Uninterrupted.{counted, frames_of, resumed_of, uninterrupted}

-- ---- the bench

-- the address LOOP, where firmware waits; the byte READY; and the first bytes of the inputs and of the outputs
abbrev pub loop : ℕ
loop = 0xC008

abbrev pub ready : ℕ
ready = 0x1000

abbrev pub inputs_from : ℕ
inputs_from = 0x1001

abbrev pub outputs_from : ℕ
outputs_from = 0x1010

-- A sample's bytes are written, and READY 1. It is answered where PC is at LOOP with READY 0: so many answers of this
-- width stand among the outputs. An interrupt does its request's writes.
abbrev pub bench : Width → ℕ → ℕ → Form (List ℕ) Request (Unit {0})
bench width outputs flags = record {
  flags = flags;
  give = λ bytes s. record s { mem = write_all (placed inputs_from bytes ++ (ready, 1) ∷ []) s.mem };
  leave = λ bytes s. s;
  ends = λ m s. (s.regs.pc == loop) && (slice_index s.mem ready == 0);
  answers = λ s. answers_at width outputs outputs_from s.mem;
  moment = λ r. r.moment;
  handle = λ r s. framed r.writes s;
  tells = λ r s. tt;
}

-- the requests of sample k, counted from 1
abbrev pub requests_in : List Request → ℕ → List Request
requests_in plan k = filter (λ r. r.sample == k) plan

-- The first state at LOOP that steps lead to from reset, over an image's memory.
pub record IsFirstAtLoop (flags : ℕ) (image : Image) (s : State) : Type 0 where
  pub steps : ℕ
  pub state : s ≡ uninterrupted flags steps (reset_with (image_memory image.bytes))
  pub there : s.regs.pc ≡ loop
  pub before : (j : ℕ) → j < steps
      → (uninterrupted flags j (reset_with (image_memory image.bytes))).regs.pc ≢ loop

-- ---- rows, of any form of firmware

-- Rows and a last state are those of the run of samples, one after the other, under the requests of each: it came to
-- the end of each sample, in no more than so many steps.
pub record IsRunOf {S A B : Type 0} (f : Form S A B) (asks : ℕ → List A) (samples : List S) (first : State)
    (rows : List (RowSeen S)) (last : State) : Type 0 where
  pub most : ℕ
  pub arrived : (rows_from f most asks 1 samples first).arrived ≡ true
  pub rows_are : rows ≡ (rows_from f most asks 1 samples first).rows
  pub last_is : last ≡ (rows_from f most asks 1 samples first).state

-- without interrupts the end comes after n steps from s, and not before
pub record EndsAfter {S A B : Type 0} (f : Form S A B) (n : ℕ) (s : State) : Type 0 where
  pub before : (j : ℕ) → j < n → f.ends j (uninterrupted f.flags j s) ≡ false
  pub there : f.ends n (uninterrupted f.flags n s) ≡ true

-- the row of a sample that is given in s, where the end comes after n steps without interrupts: each request with a
-- moment below n is taken at its moment
abbrev pub row_without : {S A B : Type 0} → Form S A B → List A → ℕ → S → State → RowSeen S
row_without f requests n x s = record {
  sample = x;
  answers = f.answers (uninterrupted f.flags n s);
  instrs = counted f.flags n s;
  steps = n;
  resumed = resumed_of f.flags f.moment s requests n;
  frames = frames_of f.flags f.moment s requests n;
}

-- the rows of the samples from number k on are read off the run without interrupts from s, one for each
abbrev pub AreReadOff : {S A B : Type 0} → Form S A B → (ℕ → List A) → ℕ → List S → List (RowSeen S) → State → Type 0
AreReadOff f asks k [] [] s = Unit {0}
AreReadOff f asks k [] (row ∷ rows) s = ⊥
AreReadOff f asks k (x ∷ rest) [] s = ⊥
AreReadOff f asks k (x ∷ rest) (row ∷ rows) s =
    EndsAfter f row.steps (f.give x s)
    × (row ≡ row_without f (asks k) row.steps x (f.give x s))
    × AreReadOff f asks (suc k) rest rows (f.leave x (uninterrupted f.flags row.steps (f.give x s)))
