use Rattle.run_commands.proofs.Words.{ap, arith, debug_lines, length, only_lines, Sample, ◌∙◌}
use Rattle.std.specs.Prelude.{List}
use Rattle.run_commands.proofs.debug.Accepted.output.Goals as goal

pub debug-requires-clause-samples : goal.debug-requires-clause-samples
debug-requires-clause-samples c =
    omega (arith, c.requires.samples, ap (λ (ss : List Sample). length ss) c.deref.ensures.value)

pub returns : goal.returns
returns c =
    let items = rw (c.deref.ensures.value, c.as_slice.ensures) at c.in_ok-shown.ensures.shown in
    let rows = rw c.deref.ensures.value at c.in_ok-shown.ensures.rows in
    ap only_lines ((rw (c.deref-2.ensures.value, c.deref-3.ensures.value) at c.in_ok-lines.ensures)
    ∙ (λ i. debug_lines (items i) (rows i)))
