-- Runs of the code around EVAL: what they are under, what each state keeps, and how one instruction leads on.
-- Beside the promise.
use Rattle.std.specs.Prelude.{◌≡◌, ◌≢◌, ℕ, ◌+◌, ◌-◌, ◌^◌, ◌<◌, ◌≤◌, Bool, true, false, Ok, List}
use Rattle.std.specs.Prelude.{length, slice_index, All}
use Rattle.cpu12_isa.specs.declared.instr.Instr.{Instr}
use Rattle.cpu12_isa.specs.declared.instr.Instr.TheVariants.{JsrExtended, Rts}
use Rattle.cpu12_isa.specs.{Act.read_by, Agreement.AgreeFrom, Agreement.AllShown, Code.encode_of, Code.decode_at}
use Rattle.cpu12_isa.specs.{Code.code_bytes, Code.FitCode, Code.FitsOperands}
use Rattle.cpu12_isa.specs.{Fits.FitsRegs, Fits.AreBytes, Fits.StaysFit, Flags.has, Flags.interrupts_masked}
use Rattle.cpu12_isa.specs.{Meaning.effect, Meaning.is_plain, Meaning.plain_act, Memory.word_of}
use Rattle.cpu12_isa.specs.Plain.{interrupt_masks, is_straight}
use Rattle.cpu12_isa.specs.Regions.{free_start, stack_start, stack_end, is_hidden}
use Rattle.cpu12_parts.specs.declared.temps.Temps.TheVariants.{Free}
use Rattle.cpu12_parts.specs.{Laws.addresses, State.State, Touching.Each, Whole.after_plain}
use Rattle.eval_code.specs.declared.memory_map.MemoryMap.{MemoryMap}
use Rattle.eval_code.specs.Evaluation.{HasBytes, Reads, Writes}
use Rattle.eval_code.specs.{Standing.DecodesWhereItStands, Standing.StandsWhere}
use Rattle.firmware_code.specs.Arrivals.{given}
use Rattle.firmware_code.specs.Interruptible.{is_idle, IsStackOfOneCall, IsInterruptible, IsInterruptibleStep}
use Rattle.firmware_code.specs.Interruptible.{IsShownPlain}

-- how many bytes the code of a form has at most, with those that are fetched behind it
abbrev pub code_room : ℕ
code_room = 0x1000

-- what is open to handlers is neither owned by EVAL, nor the stack, nor code
pub record IsShut (open_to : ℕ → Bool) (l : MemoryMap) : Type 0 where
  pub reads : (at : ℕ) → Reads l at → open_to at ≡ false
  pub writes : (at : ℕ) → Writes l at → open_to at ≡ false
  pub stack : (at : ℕ) → stack_start ≤ at → at < stack_end → open_to at ≡ false
  pub code : (at : ℕ) → l.code ≤ at → at < l.code + code_room → open_to at ≡ false
  pub low : stack_end ≤ l.code
  pub high : l.code + code_room < 65536

-- what a run is under: that instructions keep registers and bytes in their ranges and are decoded where they stand, the
-- bytes that are open to handlers, the memory map, the image's memory and the open flags
pub record Setting : Type 0 where
  pub stays_fit : StaysFit
  pub decodes : DecodesWhereItStands
  pub open_to : ℕ → Bool
  pub memory_map : MemoryMap
  pub shut : IsShut open_to memory_map
  pub image : List ℕ
  pub flags : ℕ
  pub fits : flags < 2 ^ 8

-- an instruction stands in the image, and not where the code waits
pub record Here (c : Setting) (p : ℕ) (i : Instr) : Type 0 where
  pub from : c.memory_map.code ≤ p
  pub to : p + 6 ≤ c.memory_map.code + code_room
  pub high : p + 6 < 65536
  pub off : p ≢ c.memory_map.wait
  pub fits : FitsOperands i
  pub decoded : decode_at c.image p ≡ Ok i

-- instructions one after another
abbrev pub Stands : Setting → ℕ → List Instr → Type 0
Stands c = StandsWhere (Here c)

-- Code that stands in the image behind where the code waits is there, instruction by instruction.
abbrev pub InstructionsStand : Type 0
InstructionsStand =
    (c : Setting) (p : ℕ) (code : List Instr) → FitCode code → HasBytes c.image p (code_bytes code)
    → c.memory_map.code ≤ p → c.memory_map.wait < p → p + length (code_bytes code) + 6 ≤ c.memory_map.code + code_room
    → Stands c p code

-- what each state of the run keeps, with I set or not: its memory is the image from $2000 on
pub record Lives (image : List ℕ) (masked : Bool) (s : State) : Type 0 where
  pub temps : s.temps ≡ Free
  pub size : length s.mem ≡ 65536
  pub bytes : AreBytes s.mem
  pub fits : FitsRegs s.regs
  pub stack : IsStackOfOneCall s.regs.sp
  pub mask : has s.regs.ccr interrupts_masked ≡ masked
  pub same : AgreeFrom stack_end image s.mem

abbrev pub Live : Setting → State → Type 0
Live c = Lives c.image false

-- Such a state may be interrupted, where its next instruction is the code's.
abbrev pub LiveIsInterruptible : Type 0
LiveIsInterruptible =
    (c : Setting) (s : State) → Live c s → c.memory_map.code ≤ s.regs.pc → s.regs.pc + 6 ≤ c.memory_map.code + code_room
    → IsInterruptible c.open_to c.image s

-- It is idle where the code waits, and READY is 0.
abbrev pub LiveIsIdle : Type 0
LiveIsIdle =
    (c : Setting) (s : State) → Live c s → s.regs.pc ≡ c.memory_map.wait
    → slice_index s.mem c.memory_map.sample_flag ≡ 0 → is_idle c.memory_map s ≡ true

-- It stays live where a sample is given.
abbrev pub GivenIsLive : Type 0
GivenIsLive =
    (c : Setting) (bytes : List ℕ) (s : State) → Live c s → All (λ v. v < 2 ^ 8) bytes
    → c.memory_map.samples + length bytes ≤ free_start → c.memory_map.sample_flag < free_start
    → Live c (given c.memory_map bytes s)

-- one instruction leads to an address
pub record Next (c : Setting) (s t : State) (q : ℕ) : Type 0 where
  pub step : IsInterruptibleStep c.open_to c.memory_map c.image c.flags 0 s t
  pub live : Live c t
  pub pc_is : t.regs.pc ≡ q

-- A plain instruction that stands in the image does, where what it reads is shown, what it writes lies below the free
-- bytes and is not open, and it leaves SP and what masks interrupts.
abbrev pub InstructionGoesOn : Type 0
InstructionGoesOn =
    (c : Setting) (s : State) (p q : ℕ) (i : Instr) → Live c s → s.regs.pc ≡ p → Here c p i → is_plain i ≡ true
    → AllShown (is_hidden c.open_to s.regs.sp) (read_by (plain_act c.flags i s.regs) s.mem)
    → Each (λ at. at < free_start) (addresses (effect c.flags i s.regs s.mem).writes)
    → AllShown c.open_to (addresses (effect c.flags i s.regs s.mem).writes)
    → (effect c.flags i s.regs s.mem).regs.sp ≡ s.regs.sp
    → interrupt_masks (effect c.flags i s.regs s.mem).regs.ccr ≡ interrupt_masks s.regs.ccr
    → (effect c.flags i s.regs s.mem).regs.pc ≡ q → Next c s (after_plain c.flags i s) q

-- one plain instruction leads to an address, where I is set or not
pub record Went (c : Setting) (masked : Bool) (i : Instr) (s t : State) (q : ℕ) : Type 0 where
  pub shown : IsShownPlain c.open_to c.flags i s t
  pub lives : Lives c.image masked t
  pub pc_is : t.regs.pc ≡ q

-- So does one wherever the code waits, and whether I is set before and behind it.
abbrev pub MaskedGoesOn : Type 0
MaskedGoesOn =
    (c : Setting) (masked later : Bool) (s : State) (p q : ℕ) (i : Instr) → Lives c.image masked s → s.regs.pc ≡ p
    → c.memory_map.code ≤ p → p + 6 ≤ c.memory_map.code + code_room → decode_at c.image p ≡ Ok i → is_plain i ≡ true
    → FitsOperands i → AllShown (is_hidden c.open_to s.regs.sp) (read_by (plain_act c.flags i s.regs) s.mem)
    → Each (λ at. at < free_start) (addresses (effect c.flags i s.regs s.mem).writes)
    → AllShown c.open_to (addresses (effect c.flags i s.regs s.mem).writes)
    → (effect c.flags i s.regs s.mem).regs.sp ≡ s.regs.sp
    → has (effect c.flags i s.regs s.mem).regs.ccr interrupts_masked ≡ later
    → (effect c.flags i s.regs s.mem).regs.pc ≡ q → Went c later i s (after_plain c.flags i s) q

-- JSR leads where it calls, from an empty stack.
abbrev pub CallGoesOn : Type 0
CallGoesOn =
    (c : Setting) (s : State) (p to : ℕ) → Live c s → s.regs.pc ≡ p → Here c p (JsrExtended to)
    → s.regs.sp ≡ stack_end → Next c s (after_plain c.flags (JsrExtended to) s) to

-- One that goes straight on leads to what stands behind it.
abbrev pub StraightInstructionGoesOn : Type 0
StraightInstructionGoesOn =
    (c : Setting) (s : State) (p : ℕ) (i : Instr) → Live c s → s.regs.pc ≡ p → Here c p i → is_straight i ≡ true
    → AllShown (is_hidden c.open_to s.regs.sp) (read_by (plain_act c.flags i s.regs) s.mem)
    → Each (λ at. at < free_start) (addresses (effect c.flags i s.regs s.mem).writes)
    → AllShown c.open_to (addresses (effect c.flags i s.regs s.mem).writes)
    → Next c s (after_plain c.flags i s) (p + length (encode_of i))

-- the return address that a call has put on the empty stack
abbrev pub return_address : List ℕ → ℕ
return_address mem = word_of (slice_index mem (stack_end - 2)) (slice_index mem (stack_end - 1))

-- RTS leads there.
abbrev pub ReturnGoesOn : Type 0
ReturnGoesOn =
    (c : Setting) (s : State) (p back : ℕ) → Live c s → s.regs.pc ≡ p → Here c p Rts → s.regs.sp ≡ stack_end - 2
    → return_address s.mem ≡ back → Next c s (after_plain c.flags Rts s) back
