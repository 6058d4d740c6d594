-- An interrupt that is taken.
-- Reached by the promise.
use Rattle.std.specs.Prelude.{ℕ, Bool, true, not, List, [], ◌∷◌, ◌++◌, if◌then◌else◌}
use Rattle.cpu12_isa.specs.{declared.instr.Write.Write, Act.write_all, Flags.interrupts_masked, Flags.has, Flags.put}
use Rattle.cpu12_isa.specs.{Regions.vector_word, Registers.frame_bytes, Registers.pulled}
use Rattle.cpu12_isa.specs.Memory.{plus, from, placed, bytes_at}
use Rattle.cpu12_parts.specs.declared.temps.Temps.{Temps}
use Rattle.cpu12_parts.specs.declared.temps.Temps.TheVariants.{Free, Running, OnStack}
use Rattle.cpu12_parts.specs.{State.State, Parts.sum_bytes, Parts.suspended, Parts.wav}
use Rattle.cpu12_emul.specs.declared.ends.Frame.{Frame}

-- I is 0
abbrev pub may_interrupt : State → Bool
may_interrupt s = not (has s.regs.ccr interrupts_masked)

-- writes as pairs of an address and a byte
abbrev pub pairs_of : List Write → List (ℕ × ℕ)
pairs_of [] = []
pairs_of (w ∷ ws) = (w.at, w.value) ∷ pairs_of ws

-- the nine bytes are pushed, and I is set
abbrev pub pushed : State → State
pushed s = record {
  regs = record (s.regs) { sp = plus s.regs.sp 65527; ccr = put s.regs.ccr interrupts_masked true };
  temps = s.temps;
  mem = write_all (placed (plus s.regs.sp 65527) (frame_bytes s.regs)) s.mem;
}

-- the handler's writes
abbrev pub written : List Write → State → State
written ws s = record s { mem = write_all (pairs_of ws) s.mem }

-- the nine bytes are pulled
abbrev pub returned : State → State
returned s = record s { regs = pulled s.regs (bytes_at s.mem (from s.regs.sp 9)) }

-- the nine bytes, the writes, and back
abbrev pub framed : List Write → State → State
framed ws s = returned (written ws (pushed s))

-- an interrupt whose handler does these writes: sums that run go on the stack first
abbrev pub taken : List Write → State → State
taken ws s = framed ws (suspended wav s)

-- PC from the interrupt's vector
abbrev pub vectored : State → State
vectored s = record s { regs = record (s.regs) { pc = vector_word s.mem } }

-- an interrupt up to its handler's first instruction
abbrev pub entered : List Write → State → State
entered ws s = vectored (written ws (pushed (suspended wav s)))

-- what an interrupt leaves on the stack: PC, SP after the push, and the bytes from there
pub record FrameSeen : Type 0 where
  pub pc : ℕ
  pub sp : ℕ
  pub bytes : List ℕ

-- a frame of the code as it is seen
abbrev pub frame_seen : Frame → FrameSeen
frame_seen f = record { pc = f.pc; sp = f.sp; bytes = f.bytes.items }

abbrev pub frame_size : Temps → ℕ
frame_size Free = 9
frame_size OnStack = 9
frame_size (Running p w) = 15

-- the frame of an interrupt, as it stands in memory after the push
abbrev pub frame_of : State → FrameSeen
frame_of s =
    let v = pushed (suspended wav s) in
    record { pc = v.regs.pc; sp = v.regs.sp; bytes = bytes_at v.mem (from v.regs.sp (frame_size s.temps)) }

-- the same read off the registers and sums, without a look at the stack: the first frame at a boundary has the sums'
-- bytes
abbrev pub frame_on : Bool → State → Temps → FrameSeen
frame_on first s Free = record { pc = s.regs.pc; sp = plus s.regs.sp 65527; bytes = frame_bytes s.regs }
frame_on first s OnStack = record { pc = s.regs.pc; sp = plus s.regs.sp 65527; bytes = frame_bytes s.regs }
frame_on first s (Running p w) = record {
  pc = s.regs.pc;
  sp = plus s.regs.sp 65521;
  bytes = if first then frame_bytes s.regs ++ sum_bytes p w else frame_bytes s.regs;
}
