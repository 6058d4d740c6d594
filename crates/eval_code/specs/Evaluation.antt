-- EVAL by what it owns, at the addresses of any memory map.
-- Beside the promise.
use Rattle.std.specs.Prelude.{◌≡◌, ℕ, ◌+◌, ◌-◌, ◌*◌, ◌^◌, ◌<◌, ◌≤◌, ◌⊎◌, List, [], ◌∷◌, length, slice_index, slice_set}
use Rattle.fuzzy_meaning.specs.{declared.block.Block.Block, Blocks.IsValid}
use Rattle.rule_layout.specs.{Slots.slots_of, Layouts.IsWithinLimits}
use Rattle.cpu12_parts.specs.{State.State, Executions.all_steps, Touching.IsInOne, Touching.IsBetween}
use Rattle.eval_code.specs.{declared.memory_map.MemoryMap.MemoryMap, Widths.bytes_of, Widths.answer}
use Rattle.eval_code.specs.Data.{table_bytes, singleton_bytes, weight_bytes, rule_bytes}
use Rattle.byte_scaling.specs.{declared.width.Width.Width, Widths.places}
use Rattle.cpu12_isa.specs.Code.{code_bytes}
use Rattle.eval_code.specs.{Bounds.instruction_bound, Bounds.step_bound, Code.eval_code}
use Rattle.eval_code.specs.{Items.IsApart, Firing.AreInputBytes, Frames.Frame, Frames.IsRunIn}

-- what a memory map keeps for a block's evaluation: its code, and what that reads and writes
abbrev pub eval_frame : MemoryMap → Frame
eval_frame l = record {
  code = (l.eval, 2432);
  reads = (l.inputs, 8) ∷ (l.slots, 300) ∷ (l.tables, 480) ∷ (l.singletons, 60) ∷ (l.weights, 512)
      ∷ (l.rules, 9984) ∷ [];
  writes = (l.outputs, 8) ∷ (l.slots, 300) ∷ [];
}

abbrev pub Writes : MemoryMap → ℕ → Type 0
Writes l = IsInOne (eval_frame l).writes

abbrev pub Reads : MemoryMap → ℕ → Type 0
Reads l = IsInOne (eval_frame l).reads

abbrev pub eval_bytes : MemoryMap → Block → Width → List ℕ
eval_bytes l b w = code_bytes (eval_code l b w)

-- these bytes stand from an address on
abbrev pub HasBytes : List ℕ → ℕ → List ℕ → Type 0
HasBytes mem at [] = Unit {0}
HasBytes mem at (v ∷ vs) = (slice_index mem at ≡ v) × HasBytes mem (at + 1) vs

-- bytes put into memory one after another
abbrev pub put : List ℕ → ℕ → List ℕ → List ℕ
put mem at [] = mem
put mem at (v ∷ vs) = put (slice_set mem at v) (at + 1) vs

-- EVAL stands in memory with its data
pub record HasEval (l : MemoryMap) (b : Block) (w : Width) (mem : List ℕ) : Type 0 where
  pub code : HasBytes mem l.eval (eval_bytes l b w)
  pub tables : HasBytes mem l.tables (table_bytes b)
  pub singletons : HasBytes mem l.singletons (singleton_bytes b)
  pub weights : HasBytes mem l.weights (weight_bytes b)
  pub rules : HasBytes mem l.rules (rule_bytes l.slots b)

-- an answer for each output stands where the outputs are
abbrev pub HasAnswers : MemoryMap → Block → Width → (ℕ → ℕ) → List ℕ → Type 0
HasAnswers l b w answers mem =
    (o : ℕ) → 1 ≤ o → o ≤ length b.outputs → HasBytes mem (l.outputs + places w * (o - 1)) (bytes_of w (answers o))

-- at EVAL's first instruction, with these bytes of inputs and these answers before
pub record IsAtEval (l : MemoryMap) (b : Block) (w : Width) (bytes : List ℕ) (before : ℕ → ℕ) (s : State) : Type 0 where
  pub between : IsBetween s
  pub pc : s.regs.pc ≡ l.eval
  pub eval : HasEval l b w s.mem
  pub inputs : HasBytes s.mem l.inputs bytes
  pub outputs : HasAnswers l b w before s.mem

-- EVAL leads behind its code with the answers. Outside their bytes and the slots memory is as it was. Around it, from
-- a call to the return and what follows, six instructions have room in the bounds.
pub record IsEvaluated (l : MemoryMap) (b : Block) (w : Width) (flags : ℕ) (bytes : List ℕ) (before : ℕ → ℕ)
    (s t : State) : Type 0 where
  pub ds : List ℕ
  pub run : IsRunIn (eval_frame l) flags ds s t
  pub between : IsBetween t
  pub pc : t.regs.pc ≡ l.eval + length (eval_bytes l b w)
  pub answers : HasAnswers l b w (λ o. answer w b o bytes (before o)) t.mem
  pub elsewhere : (at : ℕ) → (at < l.outputs) ⊎ (l.outputs + places w * length b.outputs ≤ at)
      → (at < l.slots) ⊎ (l.slots + length (slots_of b) ≤ at) → slice_index t.mem at ≡ slice_index s.mem at
  pub instructions : length ds + 6 ≤ instruction_bound w b
  pub steps : all_steps ds + 6 ≤ step_bound w b

-- EVAL answers a block over bytes wherever its regions are apart, wherever SP is and whether or not interrupts are
-- masked.
abbrev pub EvalAnswers : Type 0
EvalAnswers =
    (l : MemoryMap) (b : Block) (w : Width) (flags : ℕ) (bytes : List ℕ) (before : ℕ → ℕ) (s : State) → IsApart l
    → IsValid b → IsWithinLimits b → flags < 2 ^ 8 → AreInputBytes b bytes
    → IsAtEval l b w bytes before s → (t : State) × IsEvaluated l b w flags bytes before s t
