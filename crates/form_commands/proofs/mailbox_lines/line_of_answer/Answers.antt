use Rattle.form_commands.proofs.Words.{◌++◌, ◌∙◌, ◌≡◌, ap, bare-append, bare-decimal, codes, decimal, List, made_with}
use Rattle.form_commands.proofs.Words.{string_bytes, ℕ}
use Rattle.std.proofs.{Common.append_assoc}
use Rattle.run_reports.proofs.Algebra.{bare-answered}
use Rattle.run_reports.specs.RowLines.{answered}
use Rattle.form_commands.proofs.mailbox_lines.line_of_answer.Goals as goal

pub of-requires : goal.of-requires
of-requires c = rw (c.in_ok-push_answered.ensures, c.in_ok-write.ensures.bytes, c.in_ok-text.ensures.ok)
    (search (bare-append, bare-decimal, bare-answered))

pub returns : goal.returns
returns c =
    let a = c.args.answer.now in
    let own = answered a.bytes.items a.answers.items a.instrs in
    let at = codes " at " ++ decimal a.at in
    let sample = codes " sample " ++ (decimal a.sample ++ at) in
    let told : string_bytes c.push_answered.new.text ≡ codes "answer " ++ (decimal c.args.k ++ (codes " sample "
    ++ (decimal a.sample ++ (codes " at " ++ (decimal a.at ++ own))))) =
    (rw (c.as_slice.ensures.value, c.as_slice-2.ensures.value) at c.in_ok-push_answered.ensures)
    ∙ made_with (string_bytes c.in_ok-text.text) (decimal c.args.k ++ sample) own _ c.in_ok-write.ensures.bytes
    ∙ ap (λ (l : List ℕ). l ++ ((decimal c.args.k ++ sample) ++ own)) c.in_ok-text.ensures.ok
    ∙ ap (λ (l : List ℕ). codes "answer " ++ l) (append_assoc (decimal c.args.k) sample own
    ∙ ap (λ (l : List ℕ). decimal c.args.k ++ (codes " sample " ++ l)) (append_assoc (decimal a.sample) at own)) in
    rw told at c.of.ensures
