use Rattle.form_commands.proofs.Words.{◌∙◌, ap, fast_most, two_level_report, List, lrun_lines, only_lines}
use Rattle.two_level_runs.specs.Rows.{TwoLevelSeen}
use Rattle.form_commands.proofs.lrun.Accepted.output.Goals as goal

pub returns : goal.returns
returns c =
    let a = c.args.self.now in
    let two = c.args.compiled.now.two in
    let rows = rw (c.deref.ensures.value, c.deref-2.ensures.value) at c.in_ok-rows.ensures.rows in
    let told = rw (c.deref-3.ensures.value, c.deref-4.ensures.value, c.deref-5.ensures.value) at
    c.in_ok-lines.ensures in
    ap only_lines (told ∙ ap (λ (rs : List TwoLevelSeen). lrun_lines (two_level_report a.errors.items a.fast_errors.items
    two.firmware.instr_bound (fast_most two.fast.instr_bound) rs)) rows)
