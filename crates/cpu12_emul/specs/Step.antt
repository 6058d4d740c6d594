-- One step of the machine: a plain instruction, or one part of REV, REVW or WAV.
-- Reached by the promise.
use Rattle.std.specs.Prelude.{◌≡◌, ℕ, Bool, true, false, Result, Ok, Err, Option, List, slice_index}
use Rattle.cpu12_isa.specs.{Memory.word_of, Code.decode_of, Code.six_from}
use Rattle.cpu12_isa.specs.Operations.{Effect, Operation, AtOnce, RevParts, RevwParts, WavParts, WavrParts}
use Rattle.cpu12_isa.specs.Operations.{operation_of}
use Rattle.cpu12_isa.specs.Act.{Act, Give, outcome, bind, get_all, write_all}
use Rattle.cpu12_isa.specs.declared.{instr.Regs.Regs, instr.Instr.Instr}
use Rattle.cpu12_parts.specs.{declared.temps.Temps.Temps, declared.temps.PartEnd.PartEnd, State.State, State.Outcome}
use Rattle.cpu12_parts.specs.Parts.{rev_act, revw_act, wav_act, wav_pull}
use Rattle.cpu12_parts.specs.declared.temps.Temps.TheVariants.{Free, Running, OnStack}
use Rattle.cpu12_parts.specs.declared.temps.PartEnd.TheVariants.{More, Done}
use Rattle.cpu12_emul.specs.declared.ends.Stepped.{Stepped}
use Rattle.cpu12_emul.specs.declared.ends.Stepped.TheVariants.{Plain, Part, LastPart}

-- whether a step was a part, and not the last
abbrev pub is_part : Stepped → Bool
is_part Plain = false
is_part Part = true
is_part LastPart = false

-- the machine: its state, the byte from which open flags are taken, and the tags of its memory
pub record Whole : Type 0 where
  pub state : State
  pub flags : ℕ
  pub tags : List (Option ℕ)

-- the same machine, whatever its state
abbrev pub SameMachine : Whole → Whole → Type 0
SameMachine old new = new ≡ record old { state = new.state }

-- the state that reset gives with a memory
abbrev pub reset_with : List ℕ → State
reset_with mem = record {
  regs = record {
    a = 0;
    b = 0;
    x = 0;
    y = 0;
    sp = 0;
    pc = word_of (slice_index mem 65534) (slice_index mem 65535);
    ccr = record { 0 = 208 };
  };
  temps = Free;
  mem = mem;
}

-- what a step leaves: registers, sums, what is written in order, and its kind
pub record Left : Type 0 where
  pub regs : Regs
  pub temps : Temps
  pub writes : List (ℕ × ℕ)
  pub kind : Stepped

abbrev pub kind_of : PartEnd → Stepped
kind_of More = Part
kind_of Done = LastPart

abbrev pub left_by_part : Outcome → Act (Result Left ℕ)
left_by_part o = Give (Ok (record { regs = o.regs; temps = o.temps; writes = o.writes; kind = kind_of o.end }))

abbrev pub left_by_plain : Temps → Effect → Act (Result Left ℕ)
left_by_plain t e = Give (Ok (record { regs = e.regs; temps = t; writes = e.writes; kind = Plain }))

-- the step of an operation: all of it, or its next part
abbrev pub operation_act : ℕ → Regs → Temps → Operation → Act (Result Left ℕ)
operation_act flags r t (AtOnce act) = bind act (left_by_plain t)
operation_act flags r t RevParts = bind (rev_act flags r t) left_by_part
operation_act flags r t RevwParts = bind (revw_act flags r t) left_by_part
operation_act flags r t WavParts = bind (wav_act flags r t) left_by_part
operation_act flags r t WavrParts = bind (wav_pull r t) (λ o. bind (wav_act flags o.regs o.temps) left_by_part)

-- the step of an instruction that stands at PC, where no sums run; or the byte that is in no table
abbrev pub instruction_act : ℕ → Regs → Temps → Result Instr ℕ → Act (Result Left ℕ)
instruction_act flags r t (Err byte) = Give (Err byte)
instruction_act flags r t (Ok i) = operation_act flags r t (operation_of flags i r)

-- one step: where sums run the next part of WAV, else by the bytes at PC
abbrev pub step_act : ℕ → Regs → Temps → Act (Result Left ℕ)
step_act flags r (Running p w) = bind (wav_act flags r (Running p w)) left_by_part
step_act flags r Free = get_all (six_from r.pc) (λ bytes. instruction_act flags r Free (decode_of bytes))
step_act flags r OnStack = get_all (six_from r.pc) (λ bytes. instruction_act flags r OnStack (decode_of bytes))

-- a state, and the kind of the step that led to it
pub record Next : Type 0 where
  pub state : State
  pub kind : Stepped

abbrev pub applied : Result Left ℕ → List ℕ → Result Next ℕ
applied (Ok l) mem =
    Ok (record { state = record { regs = l.regs; temps = l.temps; mem = write_all l.writes mem }; kind = l.kind })
applied (Err byte) mem = Err byte

-- the state after one step, or the byte that is in no table
abbrev pub next_of : ℕ → State → Result Next ℕ
next_of flags s = applied (outcome (step_act flags s.regs s.temps) s.mem) s.mem
