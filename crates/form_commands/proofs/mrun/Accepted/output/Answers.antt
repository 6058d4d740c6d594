use Rattle.form_commands.proofs.Words.{◌∙◌, ap, mrun_lines, only_lines, mailbox_report}
use Rattle.form_commands.proofs.mrun.Accepted.output.Goals as goal

pub returns : goal.returns
returns c =
    let a = c.args.self.now in
    let answers = rw c.deref.ensures.value at c.in_ok-told.ensures.answers in
    let frames = rw c.deref.ensures.value at c.in_ok-told.ensures.frames in
    let resumed = rw c.deref.ensures.value at c.in_ok-told.ensures.resumed in
    ap only_lines ((rw c.deref-2.ensures.value at c.in_ok-lines.ensures)
    ∙ (λ i. mrun_lines (mailbox_report a.errors.items a.compiled.firmware.instr_bound (answers i) (frames i)
    (resumed i))))
