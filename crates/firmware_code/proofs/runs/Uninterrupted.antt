-- The uninterrupted answers of a firmware.
use Rattle.firmware_code.proofs.Words.{[], ℕ, ◌*◌, ◌+◌, ◌<◌, ◌∙◌, ◌∷◌, ◌≡◌, ◌≢◌, ap, ap₂, arith, Bool, Byte, bytes_of}
use Rattle.firmware_code.proofs.Words.{Execution, false, Firmware, get_or, HasBytes, image_memory, inl, inr, is_idle}
use Rattle.firmware_code.proofs.Words.{IsInterruptibleStep, IsShownInstruction, length, List, MemoryMap, nat_tests}
use Rattle.firmware_code.proofs.Words.{places, PlainExecution, refl, reset_with, State, subst, sym, true, Width, Word}
use Rattle.std.proofs.Common.{replicate, suc, zero}
use Rattle.cpu12_parts.specs.Executions.{IsStepBefore}
use Rattle.firmware_code.specs.Arrivals.{given}
use Rattle.firmware_code.specs.Uninterrupted.{Answer, AreAnswersTo, values_in}
use Rattle.firmware_code.specs.Uninterrupted.{value_at, values_from, is_waiting, UninterruptedAreOne}
use Rattle.cpu12_isa.specs.{Memory.word_of}
use Rattle.cpu12_parts.specs.{Whole.IsWholeStep, Executions.ExecutionsAreOne}

-- They have one value.
answer_is : (a b : Answer) → a.values ≡ b.values → a.instructions ≡ b.instructions → a ≡ b
answer_is a b v n = ap₂ (λ (x : List ℕ) (k : ℕ). let r : Answer = record { values = x; instructions = k } in r) v n

answers_are_one : ExecutionsAreOne
    → (f : Firmware) (flags : ℕ) (samples : List (List ℕ)) (xs ys : List Answer) (s : State)
    → AreAnswersTo f flags samples xs s
    → AreAnswersTo f flags samples ys s → xs ≡ ys
answers_are_one one f flags [] [] [] s a b = refl
answers_are_one one f flags [] [] (y ∷ ys) s a b = absurd b
answers_are_one one f flags [] (x ∷ xs) ys s a b = absurd a
answers_are_one one f flags (bytes ∷ samples) [] ys s a b = absurd a
answers_are_one one f flags (bytes ∷ samples) (x ∷ xs) [] s a b = absurd b
answers_are_one one f flags (bytes ∷ samples) (x ∷ xs) (y ∷ ys) s a b =
    let g = given f.memory_map bytes s in
    let same = one (is_idle f.memory_map) flags a.1.0.ds b.1.0.ds g a.0 b.0 a.1.0.until b.1.0.until in
    let values : x.values ≡ y.values = a.1.0.values ∙ ap (values_in f) same.1 ∙ sym b.1.0.values in
    let count : x.instructions ≡ y.instructions = a.1.0.instructions ∙ ap length same.0 ∙ sym b.1.0.instructions in
    let rest = answers_are_one one f flags samples xs ys a.0 a.1.1
    (subst (AreAnswersTo f flags samples ys) (sym same.1) b.1.1) in
    ap₂ (λ (k : Answer) (ks : List Answer). k ∷ ks) (answer_is x y values count) rest

pub uninterrupted_are_one : ExecutionsAreOne → UninterruptedAreOne
uninterrupted_are_one one f flags samples xs ys a b =
    let same = one (is_waiting f.memory_map) flags a.ds b.ds (reset_with (image_memory f.image.bytes)) a.first b.first
    a.arrived b.arrived in
    answers_are_one one f flags samples xs ys a.first a.each
    (subst (AreAnswersTo f flags samples ys) (sym same.1) b.each)

-- a step on which an interrupt may come is a whole instruction
whole : (open_to : ℕ → Bool) (wait flags d : ℕ) (s t : State) → IsShownInstruction open_to wait flags d s t
    → IsWholeStep flags d s t
whole open_to wait flags d s t (inl p) = inl (p.0, (p.1.0.step, p.1.1))
whole open_to wait flags d s t (inr (inl p)) = inr (inl (p.0, p.1, p.2.step))
whole open_to wait flags d s t (inr (inr (inl p))) = inr (inr (inl (p.0, p.1, p.2.step)))
whole open_to wait flags d s t (inr (inr (inr p))) = inr (inr (inr p.step))

pub uninterrupted : (open_to : ℕ → Bool) (l : MemoryMap) (image : List ℕ) (flags : ℕ) (ds : List ℕ) (s t : State)
    → Execution (IsInterruptibleStep open_to l image flags) ds s t
    → Execution (IsStepBefore (is_idle l) flags) ds s t
uninterrupted open_to l image flags [] s t e = e
uninterrupted open_to l image flags (d ∷ ds) s t e = (
  e.0,
  (
    record { on = e.1.0.busy; step = whole open_to l.wait flags d s e.0 e.1.0.instruction },
    uninterrupted open_to l image flags ds e.0 t e.1.1,
  ),
)

-- so is the way to the first arrival
pub waits : (l : MemoryMap) (s : State) → s.regs.pc ≡ l.wait → is_waiting l s ≡ true
waits l s h = grind (arith, nat_tests)

off : (l : MemoryMap) (s : State) → s.regs.pc ≢ l.wait → is_waiting l s ≡ false
off l s h = grind (arith, nat_tests)

pub arrival : (l : MemoryMap) (flags n : ℕ) (s t : State) → PlainExecution flags l.wait n s t
    → Execution (IsStepBefore (is_waiting l) flags) (replicate n 0) s t
arrival l flags zero s t h = h
arrival l flags (suc n) s t h =
    (h.0, (record { on = off l s h.1.0; step = inl (h.1.1.0, (h.1.1.1, refl)) }, arrival l flags n h.0 t h.1.2))

-- the values, one by one
value_is : (w : Width) (m : List ℕ) (at v : ℕ) → HasBytes m at (bytes_of w v) → value_at w m at ≡ v
value_is Byte m at v h = h.0
value_is Word m at v h = ap₂ (λ (a b : ℕ). word_of a b) h.0 h.1.0 ∙ omega arith

pub count_from : (w : Width) (m : List ℕ) (at n : ℕ) → length (values_from w m at n) ≡ n
count_from w m at zero = refl
count_from w m at (suc n) = ap suc (count_from w m (at + places w) n)

pub value_from : (w : Width) (m : List ℕ) (at n k v : ℕ) → k < n → HasBytes m (at + places w * k) (bytes_of w v)
    → get_or (values_from w m at n) k 0 ≡ v
value_from w m at zero k v lt h = absurd (omega arith)
value_from w m at (suc n) zero v lt h = let e : at + places w * 0 ≡ at = omega arith in
    value_is w m at v (subst (λ p. HasBytes m p (bytes_of w v)) e h)
value_from w m at (suc n) (suc k) v lt h =
    let more : places w * suc k ≡ places w + places w * k = omega arith in
    let e : at + places w * suc k ≡ at + places w + places w * k = omega arith in
    value_from w m (at + places w) n k v (omega arith) (subst (λ p. HasBytes m p (bytes_of w v)) e h)
