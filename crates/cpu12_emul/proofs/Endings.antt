-- A run has one end.
use Rattle.std.proofs.Common.{◌≡◌, ℕ, zero, suc, ◌+◌, ◌<◌, ◌≤◌, true, false, Result, Ok, Err, refl, sym, ap, subst, ◌∙◌}
use Rattle.std.proofs.Common.{arith}
use Rattle.cpu12_parts.specs.State.{State}
use Rattle.cpu12_emul.specs.declared.ends.RunEnd.{RunEnd}
use Rattle.cpu12_emul.specs.declared.ends.RunEnd.TheVariants.{Arrived, Trap, Budget}
use Rattle.cpu12_emul.specs.{Run.EndsRun, Run.StepsTo, Run.is_at_rest, Step.Next, Step.next_of}

-- of two runs from one state one goes on from where the other is, or they are at one place
data Meet (flags j k : ℕ) (t u : State) : Type 0 where
  together : j ≡ k → t ≡ u → Meet flags j k t u
  first_behind : (d : ℕ) → j + suc d ≡ k → StepsTo flags (suc d) t u → Meet flags j k t u
  second_behind : (d : ℕ) → k + suc d ≡ j → StepsTo flags (suc d) u t → Meet flags j k t u

one_more : (flags j k : ℕ) (t u : State) → Meet flags j k t u → Meet flags (suc j) (suc k) t u
one_more flags j k t u (together count same) = together (omega (arith, count)) same
one_more flags j k t u (first_behind d count steps) = first_behind d (omega (arith, count)) steps
one_more flags j k t u (second_behind d count steps) = second_behind d (omega (arith, count)) steps

next_same : (a b : Next) → ◌≡◌ {A = Result Next ℕ} (Ok a) (Ok b) → a ≡ b
next_same a b same = cc

meet : (flags j k : ℕ) (s t u : State) → StepsTo flags j s t → StepsTo flags k s u → Meet flags j k t u
meet flags zero zero s t u one other = together refl (sym one ∙ other)
meet flags zero (suc k) s t u one other =
    first_behind k (omega arith) (subst (λ (x : State). StepsTo flags (suc k) x u) one other)
meet flags (suc j) zero s t u one other =
    second_behind j (omega arith) (subst (λ (x : State). StepsTo flags (suc j) x t) other one)
meet flags (suc j) (suc k) s t u one other =
    let same : one.1.0 ≡ other.1.0 = next_same one.1.0 other.1.0 (sym one.1.1.0 ∙ other.1.1.0) in
    one_more flags j k t u
    (meet flags j k one.1.0.state t u one.1.1.1
    (subst (λ (n : Next). StepsTo flags k n.state u) (sym same) other.1.1.1))

-- how far a run came, and that it goes no further
record Stops (flags n : ℕ) (s t : State) : Type 0 where
  count : ℕ
  within : count ≤ n
  steps : StepsTo flags count s t
  stays : count < n → is_at_rest t ≡ false → (next : Next) → next_of flags t ≡ Ok next → ⊥

no_next : (r : Result Next ℕ) (byte : ℕ) (next : Next) → r ≡ Err byte → r ≡ Ok next → ⊥
no_next r byte next err ok = cc

stops : (flags n : ℕ) (s t : State) (e : RunEnd) → EndsRun flags n s e t → Stops flags n s t
stops flags n s t (Arrived k) ends =
    record { count = k; within = ends.0; steps = ends.1; stays = λ lt moves next is. (let rest = ends.2 in cc) }
stops flags n s t (Budget k) ends =
    record {
      count = k;
      within = omega (arith, ends.0);
      steps = ends.1;
      stays =
          λ lt moves next is. omega (arith, ends.0);
    }
stops flags n s t (Trap pc byte) ends = record {
  count = ends.0;
  within = omega (arith, ends.1.0);
  steps = ends.1.1;
  stays = λ lt moves next is. no_next (next_of flags t) byte next ends.1.4 is;
}

same_stop : (flags n : ℕ) (s t u : State) (a : Stops flags n s t) (b : Stops flags n s u)
    → Meet flags a.count b.count t u → (a.count ≡ b.count) × (t ≡ u)
same_stop flags n s t u a b (together count same) = (count, same)
same_stop flags n s t u a b (first_behind d count steps) =
    absurd (a.stays (omega (arith, count, b.within)) steps.0 steps.1.0 steps.1.1.0)
same_stop flags n s t u a b (second_behind d count steps) =
    absurd (b.stays (omega (arith, count, a.within)) steps.0 steps.1.0 steps.1.1.0)

err_same : (a b : ℕ) → ◌≡◌ {A = Result Next ℕ} (Err a) (Err b) → a ≡ b
err_same a b same = cc

-- what a run shows of where it stopped
abbrev Shows : ℕ → ℕ → State → RunEnd → ℕ → State → Type 0
Shows flags n s (Arrived k) count t = (k ≡ count) × (is_at_rest t ≡ true)
Shows flags n s (Budget k) count t = (k ≡ count) × (count ≡ n) × (is_at_rest t ≡ false)
Shows flags n s (Trap pc byte) count t =
    (count < n) × (is_at_rest t ≡ false) × (t.regs.pc ≡ pc) × (next_of flags t ≡ Err byte)

shows : (flags n : ℕ) (s t : State) (e : RunEnd) (a : EndsRun flags n s e t)
    → Shows flags n s e (stops flags n s t e a).count t
unfolding stops
shows flags n s t (Arrived k) a = (refl, a.2)
shows flags n s t (Budget k) a = (refl, a.0, a.2)
shows flags n s t (Trap pc byte) a = (a.1.0, a.1.2, a.1.3, a.1.4)

end_same : (flags n : ℕ) (s t : State) (count : ℕ) (e f : RunEnd) → Shows flags n s e count t
    → Shows flags n s f count t → e ≡ f
end_same flags n s t count (Arrived j) (Arrived k) a b = ap Arrived (a.0 ∙ sym b.0)
end_same flags n s t count (Arrived j) (Budget k) a b = (let yes = a.1 in let no = b.2 in absurd (cc))
end_same flags n s t count (Arrived j) (Trap pc byte) a b = (let yes = a.1 in let no = b.1 in absurd (cc))
end_same flags n s t count (Budget j) (Arrived k) a b = (let yes = b.1 in let no = a.2 in absurd (cc))
end_same flags n s t count (Budget j) (Budget k) a b = ap Budget (a.0 ∙ sym b.0)
end_same flags n s t count (Budget j) (Trap pc byte) a b = absurd (omega (arith, a.1, b.0))
end_same flags n s t count (Trap pc byte) (Arrived k) a b = (let yes = b.1 in let no = a.1 in absurd (cc))
end_same flags n s t count (Trap pc byte) (Budget k) a b = absurd (omega (arith, b.1, a.0))
end_same flags n s t count (Trap p x) (Trap q y) a b =
    ap (λ (pc : ℕ). Trap pc x) (sym a.2 ∙ b.2) ∙ ap (Trap q) (err_same x y (sym a.3 ∙ b.3))

pub run_ends_once : (flags n : ℕ) (s t u : State) (e f : RunEnd) → EndsRun flags n s e t → EndsRun flags n s f u
    → (e ≡ f) × (t ≡ u)
run_ends_once flags n s t u e f one other =
    let a = stops flags n s t e one in
    let b = stops flags n s u f other in
    let same = same_stop flags n s t u a b (meet flags a.count b.count s t u a.steps b.steps) in
    let there : Shows flags n s f a.count t =
    subst (λ (c : ℕ). Shows flags n s f c t) (sym same.0)
    (subst (Shows flags n s f b.count) (sym same.1) (shows flags n s u f other)) in
    (end_same flags n s t a.count e f (shows flags n s t e one) there, same.1)
