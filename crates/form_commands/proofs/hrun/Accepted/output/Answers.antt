use Rattle.form_commands.proofs.Words.{◌++◌, ◌∙◌, ap, begun_lines, counted, counted-map, handled_row_lines, only_lines}
use Rattle.form_commands.proofs.Words.{sym}
use Rattle.handled_runs.specs.Forms.{row_seen}
use Rattle.form_commands.proofs.hrun.Accepted.output.Goals as goal

pub returns : goal.returns
returns c =
    let a = c.args.self.now in
    let rows = rw c.deref.ensures.value at c.in_ok-rows.ensures.rows in
    let told = rw (c.deref-2.ensures.value, c.deref-3.ensures.value) at c.in_ok-lines.ensures in
    ap only_lines (told ∙ ap (λ ls. begun_lines a.inputs.errors.items a.compiled.firmware.instr_bound ++ ls)
    (sym (counted-map handled_row_lines row_seen 1 c.in_ok-rows.rows.items) ∙ ap (counted handled_row_lines 1) rows))
