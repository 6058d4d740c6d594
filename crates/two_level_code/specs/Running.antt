-- The fast code from where an interrupt enters it up to its return.
-- Beside the promise.
use Rattle.std.specs.Prelude.{◌≡◌, ℕ, ◌+◌, ◌^◌, ◌<◌, ◌≤◌, true, Ok, List}
use Rattle.fuzzy_meaning.specs.{declared.block.Block.Block, Blocks.IsValid}
use Rattle.rule_layout.specs.Layouts.{IsWithinLimits}
use Rattle.cpu12_isa.specs.declared.instr.Instr.TheVariants.{Andcc, Rti}
use Rattle.cpu12_isa.specs.Flags.{has, interrupts_masked}
use Rattle.cpu12_isa.specs.{Agreement.AgreeBetween, Code.decode_at, Code.six_from, Regions.stack_start}
use Rattle.cpu12_isa.specs.{Regions.stack_end}
use Rattle.cpu12_parts.specs.{State.State, Whole.after_plain, Touching.IsIn, Touching.Each, Touching.IsBetween}
use Rattle.byte_scaling.specs.declared.width.Width.TheVariants.{Byte}
use Rattle.eval_code.specs.{Firing.AreInputBytes, Evaluation.HasBytes, Evaluation.HasAnswers, Evaluation.IsEvaluated}
use Rattle.two_level_code.specs.declared.two.Two.{Two}
use Rattle.two_level_code.specs.{MemoryMaps.fast_map, MemoryMaps.fast_rom_end, Images.joint_memory}
use Rattle.two_level_code.specs.Images.{IsTwoOf}

-- the bytes of the fast block's ROM are an image's, and 0 where it has none
abbrev pub HasFastRom : List ℕ → List ℕ → Type 0
HasFastRom = AgreeBetween fast_map.code fast_rom_end

-- an image whose fast code lets interrupts in at once
abbrev pub LetsIn : List ℕ → Type 0
LetsIn image = decode_at image fast_map.code ≡ Ok (Andcc 0xEF)

-- SP in the fast code: the nine bytes of its interrupt's frame stand from there on, and one more interrupt has room
abbrev pub IsFastStack : ℕ → Type 0
IsFastStack sp = (stack_start + 15 ≤ sp) × (sp + 9 ≤ stack_end)

-- where the fast code stands, with what is fetched behind it
abbrev pub fast_code : ℕ × ℕ
fast_code = (fast_map.code, 2434)

-- what each state in it keeps
pub record IsInFast (image : List ℕ) (s : State) : Type 0 where
  pub between : IsBetween s
  pub rom : HasFastRom image s.mem
  pub stack : IsFastStack s.regs.sp
  pub code : Each (IsIn fast_code) (six_from s.regs.pc)

-- An interrupt enters it with these bytes of inputs, after these answers: I is set, and the sums are none or on the
-- stack, whose they may be.
pub record IsEntered (b : Block) (image bytes : List ℕ) (before : ℕ → ℕ) (s : State) : Type 0 where
  pub inside : IsInFast image s
  pub pc : s.regs.pc ≡ fast_map.code
  pub masked : has s.regs.ccr interrupts_masked ≡ true
  pub inputs : HasBytes s.mem fast_map.inputs bytes
  pub outputs : HasAnswers fast_map b Byte before s.mem

-- It lets interrupts in at once, whatever X is, and EVAL leads on to its return, with the answers after those before.
pub record IsFastAnswered (b : Block) (image : List ℕ) (flags : ℕ) (bytes : List ℕ) (before : ℕ → ℕ) (s t : State)
    : Type 0 where
  pub lets_in : decode_at s.mem s.regs.pc ≡ Ok (Andcc 0xEF)
  pub evaluated : IsEvaluated fast_map b Byte flags bytes before (after_plain flags (Andcc 0xEF) s) t
  pub inside : IsInFast image t
  pub returns : decode_at t.mem t.regs.pc ≡ Ok Rti

-- From wherever an interrupt enters it the fast code answers so, whatever the open flags are.
abbrev pub AnswersEntered : Block → Two → Type 0
AnswersEntered b two =
    (flags : ℕ) (bytes : List ℕ) (before : ℕ → ℕ) (s : State) → flags < 2 ^ 8 → AreInputBytes b bytes
    → IsEntered b (joint_memory two) bytes before s
    → (t : State) × IsFastAnswered b (joint_memory two) flags bytes before s t

-- That of two blocks does.
abbrev pub FastAnswersEntered : Type 0
FastAnswersEntered =
    (slow fast : Block) (two : Two) → IsValid slow → IsWithinLimits slow → IsValid fast → IsWithinLimits fast
    → IsTwoOf slow fast two → AnswersEntered fast two
