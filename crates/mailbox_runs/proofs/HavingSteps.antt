-- The turns of good posts answer samples that there are, in as many steps as is said.
use Rattle.mailbox_runs.proofs.Words.{[], ◌++◌, ◌+◌, ◌-◌, ◌==◌, ◌∷◌, ◌≡◌, ◌≤◌, All, answers, AreTurns, arith, behind}
use Rattle.mailbox_runs.proofs.Words.{false, HasSteps, HaveSteps, idle, inl, inr, IsGoodPost, length, List, nat_tests}
use Rattle.mailbox_runs.proofs.Words.{over, Post, refl, subst, sym, Turn, TurnsHaveSteps, up_to, waiting, ℕ}
use Rattle.mailbox_runs.proofs.{OneList.answering, LastOnes.some_answered}
use Rattle.mailbox_runs.proofs.Postings.{first_within, posts_behind, all_drop}

good_behind : (n k : ℕ) (ps : List Post) → All (IsGoodPost n) ps → All (IsGoodPost n) (behind k ps)
good_behind n k ps all = subst (All (IsGoodPost n)) (posts_behind k ps) (all_drop n (length (up_to k ps)) ps all)

-- where the first turn answers
answers_first : (m : ℕ) (steps : List ℕ → ℕ) (done : List ℕ) (t : Turn) (ts : List Turn) → 1 ≤ t.sample
    → HasSteps m steps done t
    → HaveSteps m steps (done ++ t.sample ∷ []) ts → HaveSteps m steps done (t ∷ ts)
answers_first m steps done t ts some h rest = let e : (t.sample == 0) ≡ false = grind (arith, nat_tests) in
    (h, rw e rest)

from_turns : (n m : ℕ) (steps : List ℕ → ℕ) (g w : ℕ) (done : List ℕ) (posts : List Post) (turns : List Turn) → w ≤ m
    → All (IsGoodPost m) posts
    → AreTurns n steps g w done posts turns → HaveSteps m steps done turns
from_turns n m steps g w done posts turns le all (over g1 w1 d1 p1 t1 none left is) =
    subst (HaveSteps m steps done) (sym is)
    (record { within = omega arith; rests = λ z. inl refl; answers = λ ne. absurd (ne refl) }, tt)
from_turns n m steps g w done posts turns le all (idle g1 w1 d1 p1 t1 l1 none some rest is) =
    let r = from_turns n m steps (g + 2) (waiting w (up_to (g + 1) posts)) done (behind (g + 1) posts) l1
    (first_within m w (g + 1) posts le all) (good_behind m (g + 1) posts all) rest in
    subst (HaveSteps m steps done) (sym is)
    (record { within = omega arith; rests = λ z. inr refl; answers = λ ne. absurd (ne refl) }, r)
from_turns n m steps g w done posts turns le all (answers g1 w1 d1 p1 t1 l1 s1 e1 waits s_is end_is rest is) =
    let late = behind (g + 2) posts in
    let good = good_behind m (g + 2) posts all in
    let some = some_answered w g s1 posts waits s_is in
    let within = first_within m w (g + 2) posts le all in
    let r = from_turns n m steps e1 (waiting 0 (up_to (e1 - 1) late)) (done ++ s1 ∷ []) (behind (e1 - 1) late) l1
    (first_within m 0 (e1 - 1) late (omega arith) good) (good_behind m (e1 - 1) late good) rest in
    subst (HaveSteps m steps done) (sym is)
    (answers_first m steps done (answering n g e1 s1 steps done posts) l1 some
    (record {
      within = omega (arith, s_is, within);
      rests = λ z. absurd (omega (arith, z, some));
      answers =
          λ ne. refl;
    }) r)

pub turns_have_steps : TurnsHaveSteps
turns_have_steps n m steps posts turns good are =
    from_turns n m steps 0 0 [] posts turns (omega arith) good.posts_are are
