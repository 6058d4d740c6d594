-- What posts leave in the mailbox.
-- Beside the promise.
use Rattle.std.specs.Prelude.{◌≡◌, ℕ, ◌≤◌, ◌==◌, if◌then◌else◌, List, length, slice_set}
use Rattle.cpu12_parts.specs.State.{State}
use Rattle.eval_code.specs.{declared.memory_map.MemoryMap.MemoryMap, Evaluation.put}
use Rattle.alone_runs.specs.Rows.{bytes_of}

-- a memory with sample w posted, or none
abbrev pub mailed : MemoryMap → List (List ℕ) → ℕ → List ℕ → List ℕ
mailed l samples w m = if w == 0 then m else slice_set (put m l.samples (bytes_of samples w)) l.sample_flag 1

abbrev pub posted : MemoryMap → List (List ℕ) → ℕ → State → State
posted l samples w s = record s { mem = mailed l samples w s.mem }

-- the last of two samples, where 0 is none
abbrev pub last_of : ℕ → ℕ → ℕ
last_of a w = if w == 0 then a else w

-- a mailbox for n inputs, and samples of so many bytes
pub record IsBox (l : MemoryMap) (n : ℕ) : Type 0 where
  pub few : n ≤ 8
  pub samples : l.samples ≡ 0x1020
  pub ready : l.sample_flag ≡ 0x1028

abbrev pub AreOfSize : ℕ → List (List ℕ) → Type 0
AreOfSize n samples = (k : ℕ) → 1 ≤ k → k ≤ length samples → length (bytes_of samples k) ≡ n
