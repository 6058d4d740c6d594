use Rattle.std.proofs.Common.{arith}
use Rattle.cpu12_asm.proofs.Pieces.{pieces-cut, pieces-whole}
use Rattle.cpu12_asm.proofs.lines.cut.Goals as goal

pub returns-then-n-text-clause-pieces : goal.returns-then-n-text-clause-pieces
returns-then-n-text-clause-pieces c =
    pieces-cut c.args.c c.args.text.now c.piece_len-n.result c.piece_len-n.ensures.value (omega arith)

pub returns-else-n-text-clause-pieces : goal.returns-else-n-text-clause-pieces
returns-else-n-text-clause-pieces c = pieces-whole c.args.c c.args.text.now (omega (arith, c.piece_len-n.ensures.value))
