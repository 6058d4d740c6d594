-- An idle turn, under posts.
use Rattle.mailbox_runs.proofs.Words.{[], ◌++◌, ◌+◌, ◌-◌, ◌∙◌, ◌≡◌, Agree, ap, append-nil, arith, behind, false}
use Rattle.mailbox_runs.proofs.Words.{FrameSeen, image_memory, is_free, is_hidden, List, mailed, map, plain_frame}
use Rattle.mailbox_runs.proofs.Words.{PlainStepLaws, Post, posted, refl, Regs, run_from, Same, State, subst, suc, sym}
use Rattle.mailbox_runs.proofs.Words.{TakingLaws, turn_form, TurnEnds, TurnForm, up_to, waiting, ℕ}
use Rattle.mailbox_runs.specs.{PostedTurns.IdleTurnsFollow}
use Rattle.mailbox_runs.proofs.Passing.{ends_there, at_once, pass_end}
use Rattle.mailbox_runs.proofs.TwoSteps.{here_at, two_steps}

pub idle_turns_follow : PlainStepLaws → TakingLaws → IdleTurnsFollow
idle_turns_follow steps taking flags f samples n g most s v qs box size fuel at end good none l run =
    let image = image_memory f.image.bytes in
    let form : TurnForm = turn_form flags f samples g in
    let here = here_at image f.memory_map.wait s at in
    let r = here.ready in
    let look = run.look in
    let choice = run.choice in
    let p = two_steps steps taking flags f samples n g image box size s.mem r.size s run.looked run.chosen v 0 0 qs here
    run.look run.choice (omega arith) (omega arith) refl refl good none
    (record { regs = l.regs; temps = l.temps; mem = l.mem }) in
    let st = p.stands in
    let w = waiting 0 (up_to (g + 1) qs) in
    let chosen : State = run.chosen in
    let pc : p.next.regs.pc ≡ f.memory_map.wait = ap (λ (x : Regs). x.pc) st.regs
    ∙ ap (λ (x : State). x.regs.pc) (sym run.second) ∙ end.pc in
    let e = pass_end form (most - 2) (suc (suc g)) (behind (g + 1) qs) p.next
    (ends_there g (suc (suc g)) p.next.regs.pc f.memory_map.wait (omega arith) pc) in
    let fs = map (λ q. (g + 1, plain_frame (let t : State = run.looked in t.regs))) (up_to (g + 1) qs) in
    let ended = at_once p.next in
    let all = p.on (most - 2) 0 0 0 [] (behind (g + 1) qs) [] ended e in
    let k : suc (suc (most - 2)) ≡ most = omega arith in
    let there : chosen.mem ≡ s.mem = choice.mem ∙ look.mem in
    let mailed_there : Same is_free p.next (posted f.memory_map samples w chosen) =
    record {
      regs = st.regs;
      temps = st.temps;
      mem =
          subst (λ (m : List ℕ). Agree (is_hidden is_free chosen.regs.sp) p.next.mem (mailed f.memory_map samples w m))
          (sym there) st.mem;
    } in
    record {
      last = p.next;
      ends = subst (λ (x : ℕ). TurnEnds (run_from form x g false qs v) 2 2 0 fs (up_to (g + 1) qs)
          (behind (g + 1) qs) ended) k
          (subst (λ (xs : List (ℕ × FrameSeen)). TurnEnds (run_from form (suc (suc (most - 2))) g false qs v) 2 2 0 xs
          (up_to (g + 1) qs) (behind (g + 1) qs) ended) (append-nil fs)
          (subst (λ (xs : List Post). TurnEnds (run_from form (suc (suc (most - 2))) g false qs v) 2 2 0 (fs ++ []) xs
          (behind (g + 1) qs) ended) (append-nil (up_to (g + 1) qs)) all));
      mailed = subst (λ (x : State). Same is_free p.next (posted f.memory_map samples w x)) (sym run.second)
          mailed_there;
    }
