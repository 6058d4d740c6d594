-- A fast run inside an interrupt, under inner requests, and the interrupt in which it runs.
-- Beside the promise.
use Rattle.std.specs.Prelude.{ℕ, nat_lt, false, List, [], Option, None, Some}
use Rattle.cpu12_isa.specs.{Act.write_all, Memory.from, Memory.placed, Memory.bytes_at}
use Rattle.cpu12_parts.specs.State.{State}
use Rattle.cpu12_emul.specs.Take.{FrameSeen, pushed, vectored, framed}
use Rattle.two_level_code.specs.MemoryMaps.{fast_map}
use Rattle.run_law.specs.Forms.{Form, Ran, run_from}
use Rattle.run_forms.specs.Forms.{FormParts, plan_form}

-- bytes of a sample at the fast inputs
abbrev pub sampled : List ℕ → State → State
sampled bytes s = record s { mem = write_all (placed fast_map.inputs bytes) s.mem }

-- The fast code is entered where no sums run: the nine bytes are pushed, I is set, a sample's bytes are written, and
-- PC comes from the vector.
abbrev pub entered : List ℕ → State → State
entered bytes v = vectored (sampled bytes (pushed v))

-- A form whose run begins where the fast code was entered with this SP. A request is a moment, at which the nine bytes
-- are pushed and pulled. It ends when the return is done, which is when SP is higher: up to it SP stays. It answers
-- this number of outputs.
abbrev pub fast_parts : ℕ → ℕ → FormParts (Unit {0}) ℕ (Unit {0})
fast_parts outputs sp = record {
  give = λ x s. s;
  leave = λ x s. s;
  ends = λ m s. nat_lt sp s.regs.sp;
  answers = λ s. bytes_at s.mem (from fast_map.outputs outputs);
  place = λ q. (0, q);
  handle = λ flags q s. framed [] s;
  tells = λ flags q s. tt;
}

abbrev pub fast_form : ℕ → ℕ → ℕ → Form (Unit {0}) ℕ (Unit {0})
fast_form flags outputs sp = plan_form flags (fast_parts outputs sp)

-- its run of at most so many steps, under inner requests, from the state in which it was entered
abbrev pub fast_run : ℕ → ℕ → ℕ → List ℕ → State → Ran ℕ (Unit {0})
fast_run flags outputs most inner s = run_from (fast_form flags outputs s.regs.sp) most 0 false inner s

-- what is told of it: the number of its sample, and what was seen of the run
pub record FastSeen : Type 0 where
  pub number : ℕ
  pub answers : List ℕ
  pub instrs : ℕ
  pub steps : ℕ
  pub resumed : ℕ
  pub frames : List (ℕ × FrameSeen)

abbrev pub seen_of : ℕ → ℕ → Ran ℕ (Unit {0}) → FastSeen
seen_of number outputs r = record {
  number = number;
  answers = bytes_at r.state.mem (from fast_map.outputs outputs);
  instrs = r.instrs;
  steps = r.steps;
  resumed = r.resumed;
  frames = r.frames;
}

-- an outer request: its moment, the number of a fast sample and its bytes if it has one, and the inner moments
pub record Outer : Type 0 where
  pub moment : ℕ
  pub number : ℕ
  pub sample : Option (List ℕ)
  pub inner : List ℕ

-- An outer request is served, from a state in which no sums run: without a sample the nine bytes are pushed and
-- pulled.
abbrev pub served_by : ℕ → ℕ → ℕ → List ℕ → Option (List ℕ) → State → State
served_by flags outputs most inner None v = framed [] v
served_by flags outputs most inner (Some bytes) v = (fast_run flags outputs most inner (entered bytes v)).state

abbrev pub served : ℕ → ℕ → ℕ → Outer → State → State
served flags outputs most q v = served_by flags outputs most q.inner q.sample v

-- and it tells of its fast run, if it has one
abbrev pub told_by : ℕ → ℕ → ℕ → ℕ → List ℕ → Option (List ℕ) → State → Option FastSeen
told_by flags outputs most number inner None v = None
told_by flags outputs most number inner (Some bytes) v =
    Some (seen_of number outputs (fast_run flags outputs most inner (entered bytes v)))

abbrev pub told : ℕ → ℕ → ℕ → Outer → State → Option FastSeen
told flags outputs most q v = told_by flags outputs most q.number q.inner q.sample v
