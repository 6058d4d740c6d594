-- A pass over the lines of a source.
use Rattle.std.proofs.Common.{◌≡◌, ℕ, ◌+◌, List, [], ◌∷◌, ◌++◌, Result, Ok, Err, refl, ◌∙◌}
use Rattle.cpu12_asm.specs.declared.{faults.LineFault.LineFault, items.AsmFault.AsmFault}
use Rattle.cpu12_asm.specs.Faults.{on_line, through}
use Rattle.cpu12_asm.proofs.Steps.{through-ok}

-- what is known behind the first line, and behind the others
pub record Continues (S : Type 0) (step : S → List ℕ → Result S LineFault) (s t : S) (line : List ℕ)
    (lines : List (List ℕ)) (n : ℕ) : Type 0 where
  pub m : S
  pub first : step s line ≡ Ok m
  pub rest : through step m (n + 1) lines ≡ Ok t

-- what is known behind the first lines, and behind the others
pub record Splits (S : Type 0) (step : S → List ℕ → Result S LineFault) (s t : S) (before rest : List (List ℕ))
    (n : ℕ) : Type 0 where
  pub m : S
  pub number : ℕ
  pub first : through step s n before ≡ Ok m
  pub then : through step m number rest ≡ Ok t

module _ (S : Type 0) where
  pub ended : (s t : S) → ◌≡◌ {A = Result S AsmFault} (Ok s) (Ok t) → s ≡ t
  ended s t same = cc

module _ (S : Type 0) (step : S → List ℕ → Result S LineFault) where
  continues_with : (s t : S) (line : List ℕ) (lines : List (List ℕ)) (n : ℕ) (r : Result S LineFault) → step s line ≡ r
      → on_line n r (λ (m : S). through step m (n + 1) lines) ≡ Ok t → Continues S step s t line lines n
  continues_with s t line lines n (Err f) is all = absurd (cc)
  continues_with s t line lines n (Ok m) is all = record { m = m; first = is; rest = all }

  pub continues : (s t : S) (line : List ℕ) (lines : List (List ℕ)) (n : ℕ) → through step s n (line ∷ lines) ≡ Ok t
      → Continues S step s t line lines n
  continues s t line lines n all = continues_with s t line lines n (step s line) refl all

  pub splits : (before rest : List (List ℕ)) (s t : S) (n : ℕ) → through step s n (before ++ rest) ≡ Ok t
      → Splits S step s t before rest n
  splits [] rest s t n all = record { m = s; number = n; first = refl; then = all }
  splits (line ∷ before) rest s t n all =
      let c = continues s t line (before ++ rest) n all in
      let p = splits before rest c.m t (n + 1) c.rest in
      record {
        m = p.m;
        number = p.number;
        first = through-ok step s c.m n line before c.first
            ∙ p.first;
        then = p.then;
      }
