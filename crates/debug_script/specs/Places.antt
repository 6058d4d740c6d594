-- Where a run stands among its positions: what is left of them from there on, that one first.
-- Beside the promise.
use Rattle.std.specs.Prelude.{◌+◌, ◌-◌, ℕ, Bool, min, List, [], ◌∷◌, drop, length}
use Rattle.std.specs.List.{position_or_len}

-- n positions on, or at the last
abbrev pub on : {X : Type 0} → ℕ → List X → List X
on n place = drop (min n (length place - 1)) place

-- which of the positions behind `here` stop the run, each behind the one before it
abbrev pub stops_behind : {X : Type 0} → (X → X → Bool) → X → List X → List Bool
stops_behind stops here [] = []
stops_behind stops here (next ∷ later) = stops here next ∷ stops_behind stops next later

-- how many positions it is to the first that stops the run, or past the last where none does
abbrev pub distance : {X : Type 0} → (X → X → Bool) → List X → ℕ
distance stops [] = 0
distance stops (here ∷ later) = 1 + position_or_len (λ stop. stop) (stops_behind stops here later)
