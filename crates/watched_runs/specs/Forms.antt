-- A firmware whose tables are watched, as a form of the law on runs.
-- Beside the promise.
use Rattle.std.specs.Prelude.{ℕ, [], ◌∷◌, ◌++◌, slice_index}
use Rattle.cpu12_isa.specs.Regions.{is_free}
use Rattle.cpu12_parts.specs.State.{State}
use Rattle.cpu12_emul.specs.{Image.image_memory, Take.framed}
use Rattle.run_law.specs.Forms.{Form}
use Rattle.interrupt_plan.specs.declared.Request.{Request}
use Rattle.firmware_code.specs.{declared.firmware.Firmware.Firmware, Interruptible.is_idle}
use Rattle.firmware_code.specs.{Interruptible.IsStackOfOneCall}
use Rattle.eval_code.specs.declared.memory_map.MemoryMap.{MemoryMap}
use Rattle.watched_code.specs.{Watched.Watched, Watched.changed, Watched.restored, WatchedCode.fault_at}
use Rattle.firmware_runs.specs.Facts.{Facts}
use Rattle.run_forms.specs.Forms.{FormParts, plan_form}
use Rattle.firmware_runs.specs.Ports.{given, answers_in}
use Rattle.alone_runs.specs.Forms.{place_of}

-- a sample is given, and then the byte is changed
abbrev pub given_changed : MemoryMap → Watched → State → State
given_changed l x s = record s { mem = changed x.change (given l x.bytes s).mem }

-- At a sample's end, where the firmware waits, the answers are read and the byte at FAULT, and then the byte of the
-- image stands in its place again. A handler does its request's writes, in no step of the machine, and tells nothing.
abbrev pub watched_parts : Firmware → FormParts Watched Request (Unit {0})
watched_parts f = record {
  give = given_changed f.memory_map;
  leave = λ x s. restored (image_memory f.image.bytes) x.change s;
  ends = λ m s. is_idle f.memory_map s;
  answers = λ s. answers_in f s ++ slice_index s.mem fault_at ∷ [];
  place = place_of;
  handle = λ flags r. framed r.writes;
  tells = λ flags r s. tt;
}

abbrev pub watched_form : ℕ → Firmware → Form Watched Request (Unit {0})
watched_form flags f = plan_form flags (watched_parts f)

-- what each state without interrupts keeps, whatever the tables hold
pub record FactsWatched (flags : ℕ) (s : State) : Type 0 where
  pub facts : Facts is_free flags s
  pub stack : IsStackOfOneCall s.regs.sp
