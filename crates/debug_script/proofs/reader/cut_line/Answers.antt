use Rattle.std.proofs.Common.{arith}
use Rattle.debug_script.proofs.ScriptLemmas.{first_piece, whole_piece}
use Rattle.debug_script.proofs.reader.cut_line.Goals as goal

pub returns-then-n-text-clause-line : goal.returns-then-n-text-clause-line
returns-then-n-text-clause-line c =
    first_piece c.args.text.now c.len_before-n.result c.len_before-n.ensures.value (omega arith)

pub returns-else-n-text-clause-line : goal.returns-else-n-text-clause-line
returns-else-n-text-clause-line c = whole_piece c.args.text.now (omega (arith, c.len_before-n.ensures.value))
