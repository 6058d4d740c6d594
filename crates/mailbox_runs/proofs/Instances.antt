-- The turns of a firmware with one input and turns of 39 steps, so that posts meet the definition.
use Rattle.mailbox_runs.proofs.Words.{[], ◌∷◌, answers, AreTurns, arith, idle, List, over, Post, refl, Turn, ℕ}

abbrev steps : List ℕ → ℕ
steps samples = 39

abbrev post : ℕ → ℕ → Post
post moment sample = record { moment = moment; sample = sample; writes = [] }

abbrev turn : ℕ → ℕ → ℕ → List (ℕ × Post) → Turn
turn begin sample steps taken = record { begin = begin; sample = sample; steps = steps; taken = taken }

-- The second sample comes while the first is copied: it is taken behind the copy, and answered in a turn of its own.
abbrev two : List Turn
two = turn 0 1 39 ((0, post 0 1) ∷ (6, post 3 2) ∷ []) ∷ turn 39 2 39 [] ∷ turn 78 0 0 [] ∷ []

pub while_copied : AreTurns 1 steps 0 0 [] (post 0 1 ∷ post 3 2 ∷ []) two
while_copied =
    answers 0 0 [] (post 0 1 ∷ post 3 2 ∷ []) two (turn 39 2 39 [] ∷ turn 78 0 0 [] ∷ []) 1 39
    (λ e. omega arith) refl refl
    (answers 39 2 (1 ∷ []) [] (turn 39 2 39 [] ∷ turn 78 0 0 [] ∷ []) (turn 78 0 0 [] ∷ []) 2 78
    (λ e. omega arith) refl refl
    (over 78 0 (1 ∷ 2 ∷ []) [] (turn 78 0 0 [] ∷ []) refl refl refl) refl) refl

-- The second sample comes before the copy, in place of the first.
abbrev one : List Turn
one = turn 0 2 39 ((0, post 0 1) ∷ (2, post 2 2) ∷ []) ∷ turn 39 0 0 [] ∷ []

pub before_copy : AreTurns 1 steps 0 0 [] (post 0 1 ∷ post 2 2 ∷ []) one
before_copy =
    answers 0 0 [] (post 0 1 ∷ post 2 2 ∷ []) one (turn 39 0 0 [] ∷ []) 2 39 (λ e. omega arith) refl refl
    (over 39 0 (2 ∷ []) [] (turn 39 0 0 [] ∷ []) refl refl refl) refl

-- A sample that is posted at the second boundary waits for the next turn.
abbrev waits : List Turn
waits = turn 0 0 2 ((1, post 1 1) ∷ []) ∷ turn 2 1 39 [] ∷ turn 41 0 0 [] ∷ []

pub behind_a_look : AreTurns 1 steps 0 0 [] (post 1 1 ∷ []) waits
behind_a_look =
    idle 0 0 [] (post 1 1 ∷ []) waits (turn 2 1 39 [] ∷ turn 41 0 0 [] ∷ []) refl (λ e. absurd cc)
    (answers 2 1 [] [] (turn 2 1 39 [] ∷ turn 41 0 0 [] ∷ []) (turn 41 0 0 [] ∷ []) 1 41 (λ e. omega arith) refl refl
    (over 41 0 (1 ∷ []) [] (turn 41 0 0 [] ∷ []) refl refl refl) refl) refl

-- no posts
pub none : AreTurns 1 steps 0 0 [] [] (turn 0 0 0 [] ∷ [])
none = over 0 0 [] [] (turn 0 0 0 [] ∷ []) refl refl refl
