-- The positions of a run: the states at its boundaries, sample by sample.
-- Beside the promise.
use Rattle.std.specs.Prelude.{ℕ, suc, List, [], ◌∷◌, ◌++◌}
use Rattle.cpu12_parts.specs.State.{State}
use Rattle.run_law.specs.Forms.{Rows}

-- a sample's number, a boundary in it, and the state there after what was taken
pub record Position : Type 0 where
  pub sample : ℕ
  pub moment : ℕ
  pub state : State

abbrev pub numbered : ℕ → ℕ → List State → List Position
numbered k m [] = []
numbered k m (w ∷ ws) = record { sample = k; moment = m; state = w } ∷ numbered k (suc m) ws

abbrev pub all_numbered : ℕ → List (List State) → List Position
all_numbered k [] = []
all_numbered k (ws ∷ wss) = numbered k 0 ws ++ all_numbered (suc k) wss

-- the positions of a run over samples from number 1 on, or the one before any sample where there is none
abbrev pub positions_or : State → List Position → List Position
positions_or first [] = record { sample = 0; moment = 0; state = first } ∷ []
positions_or first (p ∷ ps) = p ∷ ps

abbrev pub positions : {S A B : Type 0} → State → Rows S A B → List Position
positions first all = positions_or first (all_numbered 1 all.states)
