-- The turns of the mailbox form under posts, by their lengths alone.
-- Beside the promise.
use Rattle.std.specs.Prelude.{◌≡◌, ◌≢◌, ℕ, ◌+◌, ◌-◌, ◌==◌, max, nat_le, if◌then◌else◌}
use Rattle.std.specs.Prelude.{List, [], ◌∷◌, ◌++◌, map, flat_map}
use Rattle.interrupt_plan.specs.declared.Post.{Post}

-- the first posts whose moments are at most m, and those behind them
abbrev pub up_to : ℕ → List Post → List Post
up_to m [] = []
up_to m (p ∷ ps) = if nat_le p.moment m then p ∷ up_to m ps else []

abbrev pub behind : ℕ → List Post → List Post
behind m [] = []
behind m (p ∷ ps) = if nat_le p.moment m then behind m ps else p ∷ ps

-- the sample that waits behind posts, of which the last counts that posts one, where w waited before; 0 is none
abbrev pub waiting : ℕ → List Post → ℕ
waiting w [] = w
waiting w (p ∷ ps) = waiting (if p.sample == 0 then w else p.sample) ps

-- posts taken at their moments, but not before a boundary
abbrev pub taken_from : ℕ → List Post → List (ℕ × Post)
taken_from m posts = map (λ p. (max m p.moment, p)) posts

-- A turn: the boundary where it begins, counted over the whole run; the sample that it answers, 0 where it answers
-- none; how many steps it takes; and the posts that are taken in it, each with its boundary.
pub record Turn : Type 0 where
  pub begin : ℕ
  pub sample : ℕ
  pub steps : ℕ
  pub taken : List (ℕ × Post)

-- A turn begins at boundary g, where sample w waits, or none, after those that are done; the code has n inputs, and a
-- turn that answers takes as many steps as `steps` says of the samples up to its own. A turn looks at POSTED at its
-- first boundary, so what is posted up to there decides it.
pub data AreTurns (n : ℕ) (steps : List ℕ → ℕ) : ℕ → ℕ → List ℕ → List Post → List Turn → Type 0 where
  -- no sample waits and no post is left: the run ends where it stands
  over : (g w : ℕ) (done : List ℕ) (posts : List Post) (turns : List Turn)
      → waiting w (up_to g posts) ≡ 0 → behind g posts ≡ []
      → turns ≡ record { begin = g; sample = 0; steps = 0; taken = taken_from g posts } ∷ []
      → AreTurns n steps g w done posts turns
  -- no sample waits, and the code waits again two boundaries later
  idle : (g w : ℕ) (done : List ℕ) (posts : List Post) (turns later : List Turn)
      → waiting w (up_to g posts) ≡ 0 → behind g posts ≢ []
      → AreTurns n steps (g + 2) (waiting w (up_to (g + 1) posts)) done (behind (g + 1) posts) later
      → turns ≡ record { begin = g; sample = 0; steps = 2; taken = taken_from g (up_to (g + 1) posts) } ∷ later
      → AreTurns n steps g w done posts turns
  -- The sample posted last up to boundary g + 2 is answered. From there on I is 1 up to boundary g + 5 + n, behind the
  -- copy.
  answers : (g w : ℕ) (done : List ℕ) (posts : List Post) (turns later : List Turn) (s end : ℕ)
      → waiting w (up_to g posts) ≢ 0 → s ≡ waiting w (up_to (g + 2) posts) → end ≡ g + steps (done ++ s ∷ [])
      → AreTurns n steps end (waiting 0 (up_to (end - 1) (behind (g + 2) posts))) (done ++ s ∷ [])
      (behind (end - 1) (behind (g + 2) posts)) later
      → turns ≡ record {
        begin = g;
        sample = s;
        steps = steps (done ++ s ∷ []);
        taken = taken_from g (up_to (g + 2) posts) ++ taken_from (g + 5 + n) (up_to (end - 1) (behind (g + 2) posts));
      } ∷ later
      → AreTurns n steps g w done posts turns

-- the samples that turns answer, in their order
abbrev pub samples_of : List Turn → List ℕ
samples_of [] = []
samples_of (t ∷ ts) = if t.sample == 0 then samples_of ts else t.sample ∷ samples_of ts

-- Posts have one list of turns.
abbrev pub TurnsAreOne : Type 0
TurnsAreOne =
    (n : ℕ) (steps : List ℕ → ℕ) (g w : ℕ) (done : List ℕ) (posts : List Post) (ts us : List Turn)
    → AreTurns n steps g w done posts ts → AreTurns n steps g w done posts us → ts ≡ us

-- The sample that is posted last is answered last, where one is.
abbrev pub LastIsAnswered : Type 0
LastIsAnswered =
    (n : ℕ) (steps : List ℕ → ℕ) (g w : ℕ) (done : List ℕ) (posts : List Post) (turns : List Turn)
    → AreTurns n steps g w done posts turns → waiting w posts ≢ 0
    → (before : List ℕ) × (samples_of turns ≡ before ++ waiting w posts ∷ [])

-- Each post is taken once, in their order.
abbrev pub AllAreTaken : Type 0
AllAreTaken =
    (n : ℕ) (steps : List ℕ → ℕ) (g w : ℕ) (done : List ℕ) (posts : List Post) (turns : List Turn)
    → AreTurns n steps g w done posts turns → flat_map (λ t. map (λ p. p.1) t.taken) turns ≡ posts
