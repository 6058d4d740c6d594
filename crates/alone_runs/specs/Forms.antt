-- A firmware that stands alone in memory, as a form of the law on runs.
-- Beside the promise.
use Rattle.std.specs.Prelude.{ℕ, List}
use Rattle.cpu12_parts.specs.State.{State}
use Rattle.cpu12_emul.specs.Take.{framed}
use Rattle.run_law.specs.Forms.{Form}
use Rattle.interrupt_plan.specs.declared.Request.{Request}
use Rattle.firmware_code.specs.{declared.firmware.Firmware.Firmware, Interruptible.is_idle}
use Rattle.run_forms.specs.Forms.{FormParts, plan_form}
use Rattle.firmware_runs.specs.Ports.{given, answers_in}

-- A run of a firmware that stands alone ends where the firmware waits with READY 0.
abbrev pub stand_alone : {A B : Type 0} → Firmware → (A → ℕ × ℕ) → (ℕ → A → State → State) → (ℕ → A → State → B)
    → FormParts (List ℕ) A B
stand_alone f place handle tells = record {
  give = given f.memory_map;
  leave = λ x s. s;
  ends = λ m s. is_idle f.memory_map s;
  answers = answers_in f;
  place = place;
  handle = handle;
  tells = tells;
}

-- the place of a plan's request
abbrev pub place_of : Request → ℕ × ℕ
place_of r = (r.sample, r.moment)

-- a handler does its request's writes, in no step of the machine, and tells nothing
abbrev pub listed_writes : Firmware → FormParts (List ℕ) Request (Unit {0})
listed_writes f = stand_alone f place_of (λ flags r. framed r.writes) (λ flags r s. tt)

abbrev pub with_writes : ℕ → Firmware → Form (List ℕ) Request (Unit {0})
with_writes flags f = plan_form flags (listed_writes f)
