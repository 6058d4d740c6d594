use Rattle.std.proofs.Common.{sym, subst}
use Rattle.error_bound.specs.Reaches.{IsReachOfLiteral}
use Rattle.error_bound.proofs.TableLemmas.{literal_reach}
use Rattle.error_bound.proofs.reaches.reach_of_literal.Goals as goal

pub returns : goal.returns
returns c =
    let b = c.args.table.now.table.now.block.now in
    let t = c.requires.table in
    let box = c.args.table.now.bytes.0.items in
    let found = literal_reach b box c.args.table.now.rows c.args.input c.args.term _ _ c.requires.term t.box_is.count
    t.rows in
    subst (IsReachOfLiteral b box c.args.input c.args.term) (sym found.1) found.2
