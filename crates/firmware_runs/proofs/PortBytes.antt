-- What is written and read through a firmware's ports.
use Rattle.std.proofs.Common.{◌≡◌, ℕ, zero, suc, ◌+◌, ◌-◌, ◌*◌, ◌<◌, ◌≤◌, List, [], ◌∷◌, ◌++◌}
use Rattle.std.proofs.Common.{length, get_or, refl, ap, ap₂, ◌∙◌, arith, append_assoc}
use Rattle.std.proofs.Math.ListN.{set}
use Rattle.cpu12_isa.specs.{Act.write_all, Memory.plus, Memory.placed, Memory.word_of}
use Rattle.cpu12_parts.specs.State.{State}
use Rattle.eval_code.specs.Evaluation as evaluation
use Rattle.byte_scaling.specs.declared.width.{Width.Width, Width.TheVariants.Byte, Width.TheVariants.Word}
use Rattle.byte_scaling.specs.Widths.{places}
use Rattle.firmware_code.specs.Uninterrupted.{values_from}
use Rattle.firmware_runs.specs.Ports.{answer_at, answers_at, AnswersAreValues, GivenIsPut}

pub write_last : (ws : List (ℕ × ℕ)) (at v : ℕ) (m : List ℕ)
    → write_all (ws ++ (at, v) ∷ []) m ≡ set (write_all ws m) at v
write_last [] at v m = refl
write_last (w ∷ ws) at v m = write_last ws at v (set m w.0 w.1)

-- one answer more before the others
pub answer_more : (w : Width) (m : List ℕ) (at n : ℕ) (vs : List ℕ) → 0 < n
    → (vs ++ answer_at w at m ∷ []) ++ answers_at w (n - 1) (plus at (places w)) m ≡ vs
    ++ answers_at w n at m
answer_more w m at zero vs h = absurd (omega arith)
answer_more w m at (suc n) vs h = let e : suc n - 1 ≡ n = omega arith in
    rw e (append_assoc vs (answer_at w at m ∷ []) (answers_at w n (plus at (places w)) m))

same_put : (at : ℕ) (bytes m : List ℕ) → at + length bytes ≤ 65535
    → write_all (placed at bytes) m ≡ evaluation.put m at bytes
same_put at [] m l = refl
same_put at (v ∷ bytes) m l =
    let e : plus at 1 ≡ at + 1 = omega arith in
    ap (λ (k : ℕ). write_all (placed k bytes) (set m at v)) e ∙ same_put (at + 1) bytes (set m at v) (omega arith)

-- a sample is given alike
pub given_is_put : GivenIsPut
given_is_put memory_map bytes s l =
    let last = write_last (placed memory_map.samples bytes) memory_map.sample_flag 1 s.mem in
    ap by (last ∙ ap (λ (m : List ℕ). set m memory_map.sample_flag 1) (same_put memory_map.samples bytes s.mem l))
  where
    by : List ℕ → State
    by m = record { regs = s.regs; temps = s.temps; mem = m }

-- answers are read alike
same_answers : (w : Width) (m : List ℕ) (at n : ℕ) → at + 2 * n ≤ 65535
    → answers_at w n at m ≡ values_from w m at n
same_answers w m at zero l = refl
same_answers Byte m at (suc n) l =
    let e : plus at 1 ≡ at + 1 = omega arith in
    ap (λ (xs : List ℕ). get_or m at 0 ∷ xs)
    (ap (λ (k : ℕ). answers_at Byte n k m) e ∙ same_answers Byte m (at + 1) n (omega arith))
same_answers Word m at (suc n) l =
    let e : plus at 1 ≡ at + 1 = omega arith in
    let f : plus at 2 ≡ at + 2 = omega arith in
    ap₂ (λ (x : ℕ) (xs : List ℕ). x ∷ xs) (ap (λ (k : ℕ). word_of (get_or m at 0) (get_or m k 0)) e)
    (ap (λ (k : ℕ). answers_at Word n k m) f ∙ same_answers Word m (at + 2) n (omega arith))

pub answers_are_values : AnswersAreValues
answers_are_values f s l = same_answers f.width s.mem f.memory_map.outputs f.outputs l
