use Rattle.std.proofs.Common.{arith}
use Rattle.srecord.proofs.LineLemmas.{lines_cut, lines_whole}
use Rattle.srecord.proofs.lines.cut_line.Goals as goal

pub returns-then-n-text-clause-lines : goal.returns-then-n-text-clause-lines
returns-then-n-text-clause-lines c =
    rw c.without_return.ensures (lines_cut c.args.text.now c.line_len-n.result c.line_len-n.ensures.value (omega arith))

pub returns-else-n-text-clause-lines : goal.returns-else-n-text-clause-lines
returns-else-n-text-clause-lines c =
    lines_whole c.args.text.now (omega arith) (omega (arith, c.line_len-n.ensures.value))
