-- What holds of each of some addresses.
use Rattle.std.proofs.Common.{◌≡◌, inl, inr, ℕ, ◌+◌, ◌<◌, ◌≤◌, Bool, true, false, List, [], ◌∷◌, ◌++◌, ap, sym, ◌∙◌}
use Rattle.std.proofs.Common.{subst, arith}
use Rattle.std.proofs.lemmas.Bool.{true≢false}
use Rattle.cpu12_isa.specs.{Agreement.AllShown, Agreement.IsWritten, Code.six_from, Memory.plus}
use Rattle.cpu12_parts.specs.{Laws.addresses, Touching.Each}

pub each_more : (P Q : ℕ → Type 0) → ((at : ℕ) → P at → Q at) → (ats : List ℕ) → Each P ats → Each Q ats
each_more P Q more [] e = tt
each_more P Q more (at ∷ ats) e = (more at e.0, each_more P Q more ats e.1)

pub shown_each : (hidden : ℕ → Bool) (P : ℕ → Type 0) → ((at : ℕ) → P at → hidden at ≡ false) → (ats : List ℕ)
    → Each P ats → AllShown hidden ats
shown_each hidden P shown [] e = tt
shown_each hidden P shown (at ∷ ats) e = (shown at e.0, shown_each hidden P shown ats e.1)

pub all_shown : (hidden : ℕ → Bool) (ats : List ℕ) → Each (λ at. hidden at ≡ false) ats → AllShown hidden ats
all_shown hidden = shown_each hidden (λ at. hidden at ≡ false) (λ at h. h)

pub each_of_both : (P : ℕ → Type 0) (xs ys : List ℕ) → Each P (xs ++ ys) → Each P xs × Each P ys
each_of_both P [] ys h = (tt, h)
each_of_both P (x ∷ xs) ys h = let rest = each_of_both P xs ys h.1 in ((h.0, rest.0), rest.1)

-- those that a fetch looks at
pub six_each : (P : ℕ → Type 0) (pc : ℕ) → pc + 6 < 65536 → ((at : ℕ) → pc ≤ at → at < pc + 6 → P at)
    → Each P (six_from pc)
six_each P pc high e =
    let at : (k : ℕ) → k ≤ 5 → P (plus pc k) = λ k le. e (plus pc k) (omega arith) (omega arith) in (
      e pc (omega arith) (omega arith),
      (
        at 1 (omega arith),
        (at 2 (omega arith), (at 3 (omega arith), (at 4 (omega arith), (at 5 (omega arith), tt)))),
      ),
    )

-- an address is not written where each that is written is of another kind, or not hidden
pub not_written : (W : ℕ → Type 0) (ws : List (ℕ × ℕ)) (at : ℕ) → (W at → ⊥) → Each W (addresses ws) → IsWritten ws at → ⊥
not_written W [] at out e w = w
not_written W (x ∷ ws) at out e (inl q) = out (subst W (sym q) e.0)
not_written W (x ∷ ws) at out e (inr w) = not_written W ws at out e.1 w

pub written_shown : (hidden : ℕ → Bool) (ws : List (ℕ × ℕ)) (at : ℕ) → AllShown hidden (addresses ws) → IsWritten ws at
    → hidden at ≡ false
written_shown hidden [] at a w = absurd w
written_shown hidden (x ∷ ws) at a (inl e) = ap hidden e ∙ a.0
written_shown hidden (x ∷ ws) at a (inr w) = written_shown hidden ws at a.1 w

pub hidden_unwritten : (hidden : ℕ → Bool) (ws : List (ℕ × ℕ)) (at : ℕ) → AllShown hidden (addresses ws)
    → hidden at ≡ true → IsWritten ws at → ⊥
hidden_unwritten hidden ws at a h w = true≢false (sym h ∙ written_shown hidden ws at a w)
