-- The draws of a number.
-- Beside the promise.
use Rattle.std.specs.Prelude.{ℕ, zero, suc, ◌+◌, ◌*◌, ◌/◌, ◌%◌, ◌^◌}

-- the state of the linear congruential generator behind a state
abbrev pub next_state : ℕ → ℕ
next_state state = (state * 6364136223846793005 + 1442695040888963407) % 2 ^ 64

-- the state after so many draws from a number. It does not unfold, since at a numeral each state would be made
unfoldable pub state_after : ℕ → ℕ → ℕ
state_after number zero = number
state_after number (suc n) = next_state (state_after number n)

-- what a state draws below a bound
abbrev pub drawn_below : ℕ → ℕ → ℕ
drawn_below bound state = state / 2 ^ 33 % bound

-- the draw behind the first n, below a bound
abbrev pub draw : ℕ → ℕ → ℕ → ℕ
draw number n bound = drawn_below bound (state_after number (n + 1))
