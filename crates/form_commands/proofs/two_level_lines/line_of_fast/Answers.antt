use Rattle.form_commands.proofs.TwoLevelLines.{bare-fast, fast_written}
use Rattle.form_commands.proofs.two_level_lines.line_of_fast.Goals as goal

pub of-requires : goal.of-requires
of-requires c =
    rw (fast_written _ _ _ _ _ c.in_ok-text.ensures.ok c.in_ok-write.ensures.bytes c.in_ok-push_answers.ensures
    c.in_ok-push_count.ensures c.in_ok-push_count-2.ensures) (bare-fast _ _ _ _ _)

pub returns : goal.returns
returns c =
    let told = fast_written _ _ _ _ _ c.in_ok-text.ensures.ok c.in_ok-write.ensures.bytes
    (rw c.as_slice.ensures.value at c.in_ok-push_answers.ensures) c.in_ok-push_count.ensures
    c.in_ok-push_count-2.ensures in
    rw told at c.of.ensures
