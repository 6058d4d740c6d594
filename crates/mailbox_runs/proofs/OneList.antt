-- Posts have one list of turns.
use Rattle.mailbox_runs.proofs.Words.{[], ◌++◌, ◌+◌, ◌-◌, ◌∙◌, ◌∷◌, ◌≡◌, answers, ap, ap₂, AreTurns, behind, idle}
use Rattle.mailbox_runs.proofs.Words.{List, over, Post, subst, sym, taken_from, Turn, up_to, waiting, ℕ}
use Rattle.mailbox_runs.specs.{Turns.TurnsAreOne}

-- a turn that answers sample s up to boundary e
abbrev pub answering : (n g e s : ℕ) (steps : List ℕ → ℕ) (done : List ℕ) (posts : List Post) → Turn
answering n g e s steps done posts = record {
  begin = g;
  sample = s;
  steps = steps (done ++ s ∷ []);
  taken = taken_from g (up_to (g + 2) posts) ++ taken_from (g + 5 + n) (up_to (e - 1) (behind (g + 2) posts));
}

pub one_list : TurnsAreOne
one_list n steps g w done posts xs ys (over g1 w1 d1 p1 t1 none left turns) (over g2 w2 d2 p2 t2 none' left' turns') =
    turns ∙ sym turns'
one_list n steps g w done posts xs ys (over g1 w1 d1 p1 t1 none left turns)
    (idle g2 w2 d2 p2 t2 l2 none' some' rest' turns') = absurd (some' left)
one_list n steps g w done posts xs ys (over g1 w1 d1 p1 t1 none left turns)
    (answers g2 w2 d2 p2 t2 l2 s2 e2 waits' s_is' end_is' rest' turns') = absurd (waits' none)
one_list n steps g w done posts xs ys (idle g1 w1 d1 p1 t1 l1 none some rest turns)
    (over g2 w2 d2 p2 t2 none' left' turns') = absurd (some left')
one_list n steps g w done posts xs ys (idle g1 w1 d1 p1 t1 l1 none some rest turns)
    (idle g2 w2 d2 p2 t2 l2 none' some' rest' turns') =
    let more = one_list n steps (g + 2) (waiting w (up_to (g + 1) posts)) done
    (behind (g + 1) posts) l1 l2 rest rest' in
    turns ∙ ap (λ (l : List Turn). record
    { begin = g; sample = 0; steps = 2; taken = taken_from g (up_to (g + 1) posts) } ∷ l) more ∙ sym turns'
one_list n steps g w done posts xs ys (idle g1 w1 d1 p1 t1 l1 none some rest turns)
    (answers g2 w2 d2 p2 t2 l2 s2 e2 waits' s_is' end_is' rest' turns') = absurd (waits' none)
one_list n steps g w done posts xs ys (answers g1 w1 d1 p1 t1 l1 s1 e1 waits s_is end_is rest turns)
    (over g2 w2 d2 p2 t2 none' left' turns') = absurd (waits none')
one_list n steps g w done posts xs ys (answers g1 w1 d1 p1 t1 l1 s1 e1 waits s_is end_is rest turns)
    (idle g2 w2 d2 p2 t2 l2 none' some' rest' turns') = absurd (waits none')
one_list n steps g w done posts xs ys (answers g1 w1 d1 p1 t1 l1 s1 e1 waits s_is end_is rest turns)
    (answers g2 w2 d2 p2 t2 l2 s2 e2 waits' s_is' end_is' rest' turns') =
    let left = behind (g + 2) posts in
    let sample : s2 ≡ s1 = s_is' ∙ sym s_is in
    let end : e2 ≡ e1 = end_is' ∙ ap (λ (k : ℕ). g + steps (done ++ k ∷ [])) sample ∙ sym end_is in
    let there : AreTurns n steps e1 (waiting 0 (up_to (e1 - 1) left)) (done ++ s1 ∷ []) (behind (e1 - 1) left) l2 =
    subst (λ (e : ℕ). AreTurns n steps e (waiting 0 (up_to (e - 1) left)) (done ++ s1 ∷ []) (behind (e - 1) left) l2)
    end
    (subst (λ (s : ℕ). AreTurns n steps e2 (waiting 0 (up_to (e2 - 1) left)) (done ++ s ∷ []) (behind (e2 - 1) left) l2)
    sample rest') in
    let more = one_list n steps e1 (waiting 0 (up_to (e1 - 1) left)) (done ++ s1 ∷ [])
    (behind (e1 - 1) left) l1 l2 rest there in
    let first : answering n g e1 s1 steps done posts ≡ answering n g e2 s2 steps done posts =
    ap₂ (λ (e s : ℕ). answering n g e s steps done posts) (sym end) (sym sample) in
    turns ∙ ap₂ (λ (t : Turn) (l : List Turn). t ∷ l) first more ∙ sym turns'
