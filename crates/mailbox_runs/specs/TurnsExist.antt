-- Good posts have turns.
-- Beside the promise.
use Rattle.std.specs.Prelude.{ℕ, List, []}
use Rattle.interrupt_plan.specs.{declared.Post.Post, Posts.AreGoodPosts}
use Rattle.mailbox_runs.specs.Turns.{Turn, AreTurns}

-- Good posts have a list of turns, however many steps these take.
abbrev pub PostsHaveTurns : Type 0
PostsHaveTurns =
    (n samples : ℕ) (steps : List ℕ → ℕ) (posts : List Post) → AreGoodPosts samples posts
    → (turns : List Turn) × AreTurns n steps 0 0 [] posts turns
