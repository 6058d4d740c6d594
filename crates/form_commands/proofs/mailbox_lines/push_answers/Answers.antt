use Rattle.form_commands.proofs.Words.{[], ◌++◌, ◌+◌, ◌∙◌, ◌∷◌, answer_line, answer_seen, ap, lines_more}
use Rattle.mailbox_runs.specs.declared.run.Answer as declared
use Rattle.form_commands.proofs.mailbox_lines.push_answers.Goals as goal

pub loop-at-preserved : goal.loop-at-preserved
loop-at-preserved c =
    let own = λ (a : declared.Answer). answer_line (c.loop-at.at + 1) (answer_seen a) in
    lines_more (λ k a. answer_line k (answer_seen a) ∷ []) c.args.answers.now c.loop-at.at
    c.index-answers-at.result _ _ _
    c.loop-at-test.true c.loop-at.invariant (c.in_ok-push.ensures.items
    ∙ ap (λ l. c.loop-at.lines.items ++ l ∷ []) (c.in_ok-line_of_answer.ensures ∙ ap own c.index-answers-at.is))
