-- Values before others.
use Rattle.std.proofs.Common.{◌≡◌, ℕ, List, [], ◌∷◌, ◌++◌, Result, Ok, Err, refl, ap, append_assoc, append-nil}
use Rattle.cpu12_asm.specs.{declared.faults.LineFault.LineFault, Giving.before}

abbrev pub all_before : List ℕ → Result (List ℕ) LineFault → Result (List ℕ) LineFault
all_before vs (Ok ws) = Ok (vs ++ ws)
all_before vs (Err f) = Err f

pub all_before-push : (vs : List ℕ) (v : ℕ) (r : Result (List ℕ) LineFault)
    → all_before (vs ++ v ∷ []) r ≡ all_before vs (before v r)
all_before-push vs v (Ok ws) = ap (λ (l : List ℕ). Ok l) (append_assoc vs (v ∷ []) ws)
all_before-push vs v (Err f) = refl

pub all_before-nil : (vs : List ℕ) → all_before vs (Ok []) ≡ Ok vs
all_before-nil vs = ap (λ (l : List ℕ). Ok l) (append-nil vs)

pub all_before-none : (r : Result (List ℕ) LineFault) → all_before [] r ≡ r
all_before-none (Ok ws) = refl
all_before-none (Err f) = refl

pub ruleset valuing = (all_before-push, all_before-nil, all_before-none)
