-- States one after the other.
use Rattle.std.proofs.Common.{arith, ◌≡◌, ◌+◌, ℕ, suc, refl, sym, ap, ◌∙◌}
use Rattle.workload.specs.Draws.{draw, drawn_below, next_state, state_after}

plus_one : (n : ℕ) → n + 1 ≡ suc n
plus_one n = omega arith

pub state_after_none : (number : ℕ) → number ≡ state_after number 0
unfolding state_after
state_after_none number = refl

pub state_after_one : (number n s t : ℕ) → s ≡ state_after number n → t ≡ next_state s → t ≡ state_after number (n + 1)
unfolding state_after
state_after_one number n s t here next = next ∙ ap next_state here ∙ sym (ap (state_after number) (plus_one n))

pub state_after_two : (number n s t u : ℕ) → s ≡ state_after number n → t ≡ next_state s → u ≡ next_state t
    → u ≡ state_after number (n + 2)
state_after_two number n s t u here next then_next =
    let one : t ≡ state_after number (n + 1) = state_after_one number n s t here next in
    state_after_one number (n + 1) t u one then_next
    ∙ ap (state_after number) (let e : n + 1 + 1 ≡ n + 2 = omega arith in e)

pub state_after_three : (number n s t u v : ℕ) → s ≡ state_after number n → t ≡ next_state s → u ≡ next_state t
    → v ≡ next_state u
    → v ≡ state_after number (n + 3)
state_after_three number n s t u v here next second third =
    let two : u ≡ state_after number (n + 2) = state_after_two number n s t u here next second in
    state_after_one number (n + 2) u v two third
    ∙ ap (state_after number) (let e : n + 2 + 1 ≡ n + 3 = omega arith in e)

pub draw_at : (number n bound s t r : ℕ) → s ≡ state_after number n → t ≡ next_state s → r ≡ drawn_below bound t
    → r ≡ draw number n bound
draw_at number n bound s t r here next drawn = drawn ∙ ap (drawn_below bound) (state_after_one number n s t here next)
