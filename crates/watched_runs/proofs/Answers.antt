-- Answers in memory, with FAULT behind them.
use Rattle.std.proofs.Common.{◌≡◌, ℕ, zero, suc, ◌+◌, ◌<◌, ◌≤◌, List, [], ◌∷◌, ◌++◌, length, take, refl}
use Rattle.std.proofs.Common.{ap, ◌∙◌, arith}
use Rattle.std.specs.Prelude.{slice_index}
use Rattle.cpu12_isa.specs.Memory.{plus}
use Rattle.firmware_runs.specs.Ports.{answer_at, answers_at}
use Rattle.byte_scaling.specs.{declared.width.Width.Width, declared.width.Width.TheVariants.Byte, Widths.places}

pub length_answers : (w : Width) (n at : ℕ) (m : List ℕ) → length (answers_at w n at m) ≡ n
length_answers w zero at m = refl
length_answers w (suc n) at m = ap suc (length_answers w n (plus at (places w)) m)

pub take_answers : (w : Width) (n at : ℕ) (m : List ℕ) (v : ℕ)
    → take n (answers_at w n at m ++ v ∷ []) ≡ answers_at w n at m
take_answers w zero at m v = refl
take_answers w (suc n) at m v =
    ap (λ (xs : List ℕ). answer_at w at m ∷ xs) (take_answers w n (plus at (places w)) m v)

pub fault_behind : (w : Width) (n at : ℕ) (m : List ℕ) (v : ℕ)
    → slice_index (answers_at w n at m ++ v ∷ []) n ≡ v
fault_behind w zero at m v = refl
fault_behind w (suc n) at m v = fault_behind w n (plus at (places w)) m v

pub answer_there : (n at : ℕ) (m : List ℕ) (k : ℕ) → k < n → at + n ≤ 65535
    → slice_index (answers_at Byte n at m) k ≡ slice_index m (at + k)
answer_there zero at m k lt l = absurd (omega arith)
answer_there (suc n) at m zero lt l = let e : at ≡ at + 0 = omega arith in ap (λ (i : ℕ). slice_index m i) e
answer_there (suc n) at m (suc k) lt l =
    let e : plus at 1 + k ≡ at + suc k = omega arith in
    answer_there n (plus at 1) m k (omega arith) (omega arith) ∙ ap (λ (i : ℕ). slice_index m i) e
