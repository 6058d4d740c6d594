use Rattle.run_commands.proofs.Words.{◌∙◌, ap, left_of, only_lines, report_of, run_lines}
use Rattle.run_commands.proofs.run.Accepted.output.Goals as goal

pub returns : goal.returns
returns c =
    let a = c.args.self.now in
    let rows = rw c.deref.ensures.value at c.in_ok-rows.ensures.rows in
    let memory = rw c.deref.ensures.value at c.in_ok-rows.ensures.memory in
    let left = c.left_in-left.ensures ∙ ap left_of memory in
    ap only_lines ((rw (c.deref-2.ensures.value, c.deref-3.ensures.value) at c.in_ok-lines.ensures)
    ∙ (λ i. run_lines (report_of a.inputs.errors.items a.compiled.firmware.instr_bound (rows i)) (left i)))
