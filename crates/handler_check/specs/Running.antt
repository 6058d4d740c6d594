-- A handler that runs: steps up to its RTI.
-- Beside the promise.
use Rattle.std.specs.Prelude.{◌≡◌, ℕ, zero, suc, ◌+◌, ◌≤◌, ◌==◌, Bool, true, false, if◌then◌else◌, Result, Ok, Err}
use Rattle.std.specs.Prelude.{Some, List, length, slice_index}
use Rattle.cpu12_isa.specs.{declared.instr.Instr.Instr, declared.instr.Write.Write, Fits.FitsRegs}
use Rattle.cpu12_isa.specs.Regions.{is_free, stack_start, stack_end, vector_word}
use Rattle.cpu12_asm.specs.Bytes.{byte_at}
use Rattle.cpu12_parts.specs.{State.State, Parts.suspended, Parts.wav, Laws.IsOff}
use Rattle.cpu12_emul.specs.{Step.Next, Step.next_of, Simulation.AreOpen, Simulation.OnStackOnly, Simulation.Same}
use Rattle.cpu12_emul.specs.Take.{pushed, written, vectored, framed, entered, taken}
use Rattle.run_law.specs.Soundness.{Begins, Quiet}
use Rattle.handler_check.specs.{Cut.code_start, Cut.HasCode, Accepted.IsAccepted, Images.IsHandler}

-- the state after RTI, the steps to it, and whether it was done
pub record Returned : Type 0 where
  pub state : State
  pub steps : ℕ
  pub done : Bool

abbrev pub one_step : Returned → Returned
one_step r = record { state = r.state; steps = suc r.steps; done = r.done }

abbrev pub then_back : Bool → (State → Returned) → State → Result Next ℕ → Returned
then_back rti rest s (Ok next) =
    if rti then record { state = next.state; steps = 1; done = true } else one_step (rest next.state)
then_back rti rest s (Err byte) = record { state = s; steps = 0; done = false }

-- at most n steps, up to the first of an RTI, whose byte is $0B
unfoldable pub until_rti : ℕ → ℕ → State → Returned
until_rti flags zero s = record { state = s; steps = 0; done = false }
until_rti flags (suc n) s = then_back (slice_index s.mem s.regs.pc == 0x0B) (until_rti flags n) s (next_of flags s)

-- The steps that any code is given to its RTI, whatever the code is: as many as there are bytes from $4000 to $4FFF.
abbrev pub step_limit : ℕ
step_limit = 0x1000

-- the first instruction of code that is entered where no sums run: the nine bytes, I, the request's writes, and PC from
-- the vector
abbrev pub at_code : List Write → State → State
at_code ws v = vectored (written ws (pushed v))

-- An interrupt whose handler is code: sums that run go on the stack, the nine bytes are pushed, I is set, the request's
-- writes are done, and from the vector on steps are done up to an RTI, or up to the limit.
abbrev pub code_taken : ℕ → List Write → State → Returned
code_taken flags ws s = until_rti flags step_limit (entered ws s)

-- a memory with code, and its address in the interrupt's vector
pub record HasHandler (is : List Instr) (mem : List ℕ) : Type 0 where
  pub vector : vector_word mem ≡ code_start
  pub code : HasCode is mem

-- a memory with a handler's bytes, and $4000 in the interrupt's vector
pub record HasImage (image : List (ℕ × ℕ)) (mem : List ℕ) : Type 0 where
  pub vector : vector_word mem ≡ code_start
  pub bytes : (at byte : ℕ) → byte_at image at ≡ Some byte → slice_index mem at ≡ byte

-- a state in which code can begin where sums were pushed or none run: 9 bytes of a frame and 15 of the handler below SP
pub record CanBegin (v : State) : Type 0 where
  pub temps : IsOff v.temps
  pub size : length v.mem ≡ 65536
  pub fits : FitsRegs v.regs
  pub low : stack_start + 24 ≤ v.regs.sp
  pub high : v.regs.sp ≤ stack_end

-- From v, code does its RTI, after at most so many steps with it, and leaves what some writes to free bytes leave: the
-- same registers and sums, and the same bytes but below SP on the stack.
pub record IsTake (flags most : ℕ) (ws : List Write) (v : State) : Type 0 where
  pub writes : List Write
  pub free : AreOpen is_free writes
  pub back : (until_rti flags step_limit (at_code ws v)).done ≡ true
  pub steps : (until_rti flags step_limit (at_code ws v)).steps ≤ most
  pub same : Same (λ at. false) (until_rti flags step_limit (at_code ws v)).state (framed writes v)

abbrev pub AcceptedIsTake : Type 0
AcceptedIsTake = (is : List Instr) (instrs flags : ℕ) → IsAccepted is instrs → (ws : List Write) (v : State)
    → AreOpen is_free ws → HasHandler is v.mem → CanBegin v → IsTake flags instrs ws v

-- An interrupt in s whose handler is code: its RTI is done after at most so many steps with it, and it is an interrupt
-- that does some writes to free bytes: the same registers and sums, and the same bytes but below SP on the stack.
pub record IsCodeTake (flags most : ℕ) (ws : List Write) (s : State) : Type 0 where
  pub writes : List Write
  pub free : AreOpen is_free writes
  pub back : (code_taken flags ws s).done ≡ true
  pub steps : (code_taken flags ws s).steps ≤ most
  pub same : Same (λ at. false) (code_taken flags ws s).state (taken writes s)

-- Wherever SP leaves room behind sums that run, and an image's bytes stand with $4000 in the interrupt's vector,
-- interrupts run as such, the second at a boundary inside WAV as the first.
abbrev pub RunsAsTakes : List (ℕ × ℕ) → ℕ → Type 0
RunsAsTakes image most = (flags : ℕ) (ws : List Write) (s : State) → AreOpen is_free ws → HasImage image s.mem
    → CanBegin (suspended wav s) → IsCodeTake flags most ws s

-- The interrupts of an accepted handler are interrupts that do some writes to free bytes.
abbrev pub HandlersRunAsTakes : Type 0
HandlersRunAsTakes = (image : List (ℕ × ℕ)) (instrs : ℕ) → IsHandler image instrs → RunsAsTakes image instrs

-- from v, where the run without interrupts is in s, code does its RTI after at most so many steps with it, and leaves
-- what a handler may leave that runs no WAV
pub record IsQuietCode (flags most : ℕ) (ws : List Write) (v s : State) : Type 0 where
  pub quiet : Quiet OnStackOnly is_free (until_rti flags step_limit (at_code ws v)).state v s
  pub back : (until_rti flags step_limit (at_code ws v)).done ≡ true
  pub steps : (until_rti flags step_limit (at_code ws v)).steps ≤ most

-- An accepted handler is quiet where its bytes stand, whatever is open beside the run without interrupts.
abbrev pub HandlersAreQuiet : Type 0
HandlersAreQuiet =
    (open_to : ℕ → Bool) (image : List (ℕ × ℕ)) (instrs flags : ℕ) (ws : List Write) (v s : State)
    → IsHandler image instrs → AreOpen is_free ws → HasImage image v.mem → CanBegin v → Begins open_to v s
    → IsQuietCode flags instrs ws v s

-- No path of a handler has more instructions than the limit.
abbrev pub HandlersAreShort : Type 0
HandlersAreShort = (image : List (ℕ × ℕ)) (instrs : ℕ) → IsHandler image instrs → instrs ≤ step_limit
