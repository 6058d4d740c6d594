-- The boundary at which a request is taken.
-- Beside the promise.
use Rattle.std.specs.Prelude.{◌≡◌, ℕ, ◌-◌, ◌<◌, ◌≤◌, true, false}
use Rattle.cpu12_parts.specs.State.{State}
use Rattle.cpu12_emul.specs.Take.{may_interrupt}
use Rattle.run_law.specs.Uninterrupted.{uninterrupted, first_open}

-- t is the least boundary from a on at which I is 0 without interrupts, or no such boundary comes before n
pub record IsFirstOpen (flags n : ℕ) (s : State) (a t : ℕ) : Type 0 where
  pub from : a ≤ t
  pub opens : t < n → may_interrupt (uninterrupted flags t s) ≡ true
  pub least : (j : ℕ) → a ≤ j → j < t → j < n → may_interrupt (uninterrupted flags j s) ≡ false

-- A request of moment a is taken at the least boundary from a on at which I is 0.
abbrev pub TakenAtFirstOpen : Type 0
TakenAtFirstOpen = (flags n : ℕ) (s : State) (a : ℕ) → IsFirstOpen flags n s a (first_open flags s (n - a) a)

-- Where I is 0 at each boundary before n, a request of moment a is taken at its moment.
abbrev pub TakenAtOnce : Type 0
TakenAtOnce = (flags n : ℕ) (s : State) (a : ℕ)
    → ((j : ℕ) → j < n → may_interrupt (uninterrupted flags j s) ≡ true) → first_open flags s (n - a) a ≡ a
