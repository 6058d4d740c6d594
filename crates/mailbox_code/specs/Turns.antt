-- A turn of the mailbox form: the code looks at POSTED, copies MAIL while I is 1, and evaluates the copy.
-- Beside the promise.
use Rattle.std.specs.Prelude.{◌≡◌, ◌≢◌, ℕ, ◌+◌, ◌*◌, ◌^◌, ◌<◌, ◌≤◌, ◌⊎◌, ◌==◌, true, false, List, length}
use Rattle.std.specs.Prelude.{if◌then◌else◌, slice_index}
use Rattle.fuzzy_meaning.specs.{declared.block.Block.Block, Blocks.IsValid}
use Rattle.rule_layout.specs.Layouts.{IsWithinLimits}
use Rattle.cpu12_isa.specs.{declared.instr.Instr.Instr, Flags.has, Flags.zero_result, Regions.is_free}
use Rattle.cpu12_isa.specs.Regions.{stack_end}
use Rattle.cpu12_isa.specs.declared.instr.Instr.TheVariants.{LdaaExtended, Beq, Orcc}
use Rattle.cpu12_parts.specs.{State.State, Whole.PlainExecution, Executions.Execution, Executions.all_steps}
use Rattle.cpu12_emul.specs.{Image.image_memory, Step.reset_with}
use Rattle.firmware_code.specs.{declared.firmware.Firmware.Firmware, Uninterrupted.AnswersUninterrupted}
use Rattle.firmware_code.specs.Interruptible.{IsSteady, IsShownPlain, IsInterruptibleStep}
use Rattle.mailbox_code.specs.Mailboxes.{is_mail, is_postable, IsMailboxOf}
use Rattle.eval_code.specs.{declared.memory_map.MemoryMap.MemoryMap, Widths.answer, Bounds.steps_by}
use Rattle.eval_code.specs.{Firing.AreInputBytes, Evaluation.HasBytes, Evaluation.HasAnswers}
use Rattle.byte_scaling.specs.declared.width.Width.{Width}

-- PC is at an address before EVAL, nothing is on the stack, and I is 0
pub record IsAt (image : List ℕ) (at : ℕ) (s : State) : Type 0 where
  pub steady : IsSteady is_postable false image s
  pub pc : s.regs.pc ≡ at
  pub sp : s.regs.sp ≡ stack_end

-- Up to the copy's end what is read and written is neither free nor below SP on the stack. POSTED is read where the
-- code waits.
pub record IsLook (l : MemoryMap) (image : List ℕ) (flags : ℕ) (s t : State) : Type 0 where
  pub step : IsShownPlain is_free flags (LdaaExtended l.sample_flag) s t
  pub at : IsAt image (l.wait + 3) t
  pub found : has t.regs.ccr zero_result ≡ (slice_index s.mem l.sample_flag == 0)
  pub mem : t.mem ≡ s.mem

-- Where it was 0 the code waits again.
pub record IsChoice (l : MemoryMap) (image : List ℕ) (flags : ℕ) (s t : State) : Type 0 where
  pub step : IsShownPlain is_free flags (Beq 0xFB) s t
  pub at : IsAt image (if has s.regs.ccr zero_result then l.wait else l.wait + 5) t
  pub mem : t.mem ≡ s.mem

-- a plain instruction while I is 1, so that no interrupt comes before it, away from where the code waits
pub record IsMaskedStep (l : MemoryMap) (image : List ℕ) (flags d : ℕ) (s t : State) : Type 0 where
  pub away : s.regs.pc ≢ l.wait
  pub steady : IsSteady is_postable true image s
  pub instruction : Instr
  pub shown : IsShownPlain is_free flags instruction s t
  pub single : d ≡ 0

-- where EVAL is called, behind n copies
abbrev pub call_of : MemoryMap → ℕ → ℕ
call_of l n = l.wait + 12 + 6 * n

-- Else I is set, MAIL copied to the n inputs and POSTED cleared, and I is 0 again; memory is as it was elsewhere.
pub record IsCopied (l : MemoryMap) (n : ℕ) (image : List ℕ) (flags : ℕ) (s t : State) : Type 0 where
  pub masked : State
  pub sets : IsShownPlain is_free flags (Orcc 0x10) s masked
  pub ds : List ℕ
  pub copies : Execution (IsMaskedStep l image flags) ds masked t
  pub count : length ds ≡ n + 2
  pub at : IsAt image (call_of l n) t
  pub inputs : (k : ℕ) → k < n → slice_index t.mem (l.inputs + k) ≡ slice_index s.mem (l.samples + k)
  pub cleared : slice_index t.mem l.sample_flag ≡ 0
  pub elsewhere : (at : ℕ) → (at < l.inputs) ⊎ (l.inputs + n ≤ at) → at ≢ l.sample_flag
      → slice_index t.mem at ≡ slice_index s.mem at

-- From there whole instructions lead to where the code waits again, with the answers after those before. None reads
-- or writes the mailbox, which stays as it is. The n + 5 instructions up to the call have room in the bound.
pub record IsTurned (l : MemoryMap) (b : Block) (w : Width) (most : ℕ) (image : List ℕ) (flags : ℕ) (before : ℕ → ℕ)
    (bytes : List ℕ) (s t : State) : Type 0 where
  pub ds : List ℕ
  pub execution : Execution (IsInterruptibleStep is_postable l image flags) ds s t
  pub at : IsAt image l.wait t
  pub answers : HasAnswers l b w (λ o. answer w b o bytes (before o)) t.mem
  pub mail : (at : ℕ) → is_mail at ≡ true → slice_index t.mem at ≡ slice_index s.mem at
  pub instructions : length ds + length b.inputs + 5 ≤ most
  pub steps : all_steps ds + length b.inputs + 5 ≤ steps_by b most

-- the first arrival where the code waits, by three plain instructions from reset: no sample is posted, and the outputs
-- are 0
pub record IsReady (l : MemoryMap) (b : Block) (w : Width) (image : List ℕ) (flags : ℕ) (s : State) : Type 0 where
  pub execution : PlainExecution flags l.wait 3 (reset_with image) s
  pub at : IsAt image l.wait s
  pub cleared : slice_index s.mem l.sample_flag ≡ 0
  pub outputs : HasAnswers l b w (λ o. 0) s.mem

-- A firmware takes its turns so, from whatever states interrupts leave before the copy.
pub record TakesTurns (l : MemoryMap) (b : Block) (w : Width) (most : ℕ) (image : List ℕ) (flags : ℕ) : Type 0 where
  pub arrives : (s : State) × IsReady l b w image flags s
  pub looks : (s : State) → IsAt image l.wait s → (t : State) × IsLook l image flags s t
  pub chooses : (s : State) → IsAt image (l.wait + 3) s → (t : State) × IsChoice l image flags s t
  pub copies : (s : State) → IsAt image (l.wait + 5) s → (t : State) × IsCopied l (length b.inputs) image flags s t
  pub evaluates : (bytes : List ℕ) (before : ℕ → ℕ) (s : State) → AreInputBytes b bytes
      → IsAt image (call_of l (length b.inputs)) s
      → HasBytes s.mem l.inputs bytes → HasAnswers l b w before s.mem
      → (t : State) × IsTurned l b w most image flags before bytes s t

-- whatever the open flags are
abbrev pub TakesPosts : Block → Firmware → Type 0
TakesPosts b f =
    (flags : ℕ) → flags < 2 ^ 8
    → TakesTurns f.memory_map b f.width f.instr_bound (image_memory f.image.bytes) flags

-- The mailbox firmware of a block does.
abbrev pub MailboxTakesPosts : Type 0
MailboxTakesPosts = (b : Block) (f : Firmware) → IsValid b → IsWithinLimits b → IsMailboxOf b f → TakesPosts b f

-- Its uninterrupted answers exist, and are the block's over bytes.
abbrev pub MailboxIsUninterrupted : Type 0
MailboxIsUninterrupted =
    (b : Block) (f : Firmware) → IsValid b → IsWithinLimits b → IsMailboxOf b f → AnswersUninterrupted b f
