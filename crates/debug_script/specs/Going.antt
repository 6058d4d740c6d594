-- How far a session has gone.
-- Beside the promise.
use Rattle.std.specs.Prelude.{◌≡◌, ◌≤◌, List, [], ◌∷◌}
use Rattle.run_forms.specs.{RunRests.from_here, Positions.Position}
use Rattle.alone_runs.specs.Sessions.{SessionSeen}

-- the positions from where a session stands on
abbrev pub place_of : SessionSeen → List Position
place_of s = (from_here s.rest).left

-- the rows of the whole run and its last state are the same
pub record Leads (old new : SessionSeen) : Type 0 where
  pub rows : new.rest.rows ≡ old.rest.rows
  pub state : new.rest.state ≡ old.rest.state

-- each sample's number is one of 32 bits
abbrev pub AreTold : List Position → Type 0
AreTold [] = Unit {0}
AreTold (p ∷ ps) = (p.sample ≤ 4294967295) × AreTold ps
