use Rattle.form_commands.proofs.Words.{[], ◌++◌, ◌∷◌, ◌≡◌, answer_line, answer_seen, counted, take}
use Rattle.form_commands.proofs.mailbox_lines.push_answers.Given as goal

abbrev pub invariant-loop-at : goal.invariant-loop-at
invariant-loop-at l = l.lines.items
    ≡ l.initial.lines.items ++ counted (λ k a. answer_line k (answer_seen a) ∷ []) 1 (take l.at l.answers)
