-- How a firmware is given samples, and where its answers are read.
-- Reached by the promise.
use Rattle.std.specs.Prelude.{◌≡◌, ℕ, zero, suc, ◌+◌, ◌*◌, ◌≤◌, List, [], ◌∷◌, ◌++◌, length}
use Rattle.std.specs.Prelude.{slice_index}
use Rattle.byte_scaling.specs.declared.width.{Width.Width, Width.TheVariants.Byte, Width.TheVariants.Word}
use Rattle.byte_scaling.specs.Widths.{places}
use Rattle.cpu12_isa.specs.{Act.write_all, Memory.plus, Memory.placed, Memory.word_of}
use Rattle.cpu12_parts.specs.State.{State}
use Rattle.firmware_code.specs.Arrivals as arrivals
use Rattle.firmware_code.specs.{Uninterrupted.values_in, declared.firmware.Firmware.Firmware}
use Rattle.eval_code.specs.declared.memory_map.MemoryMap.{MemoryMap}

-- the input bytes are written, and READY 1
abbrev pub given : MemoryMap → List ℕ → State → State
given l bytes s = record s { mem = write_all (placed l.samples bytes ++ (l.sample_flag, 1) ∷ []) s.mem }

-- an answer has one byte, or two, and the high one is the first
abbrev pub answer_at : Width → ℕ → List ℕ → ℕ
answer_at Byte at mem = slice_index mem at
answer_at Word at mem = word_of (slice_index mem at) (slice_index mem (plus at 1))

-- n answers, one after the other
abbrev pub answers_at : Width → ℕ → ℕ → List ℕ → List ℕ
answers_at w zero at mem = []
answers_at w (suc n) at mem = answer_at w at mem ∷ answers_at w n (plus at (places w)) mem

abbrev pub answers_in : Firmware → State → List ℕ
answers_in f s = answers_at f.width f.outputs f.memory_map.outputs s.mem

-- Bytes that end in memory are given as whole instructions are.
abbrev pub GivenIsPut : Type 0
GivenIsPut = (l : MemoryMap) (bytes : List ℕ) (s : State) → l.samples + length bytes ≤ 65535
    → given l bytes s ≡ arrivals.given l bytes s

-- Answers, each of two bytes at most, that end in memory are the values of the outputs.
abbrev pub AnswersAreValues : Type 0
AnswersAreValues =
    (f : Firmware) (s : State) → f.memory_map.outputs + 2 * f.outputs ≤ 65535 → answers_in f s ≡ values_in f s
