use Rattle.form_commands.proofs.Words.{◌++◌, ◌∙◌, ap, begun_lines, counted, counted-map, only_lines, sym}
use Rattle.form_commands.proofs.Words.{watched_row_lines}
use Rattle.watched_runs.specs.Rows.{row_seen}
use Rattle.form_commands.proofs.srun.Accepted.output.Goals as goal

pub returns : goal.returns
returns c =
    let a = c.args.self.now in
    let rows = rw c.deref.ensures.value at c.in_ok-rows.ensures.rows in
    let told = rw (c.deref-2.ensures.value, c.deref-3.ensures.value) at c.in_ok-lines.ensures in
    ap only_lines (told ∙ ap (λ ls. begun_lines a.inputs.errors.items a.compiled.firmware.instr_bound ++ ls)
    (sym (counted-map watched_row_lines row_seen 1 c.in_ok-rows.rows.items) ∙ ap (counted watched_row_lines 1) rows))
