use Rattle.std.proofs.Common.{sym, ◌∙◌, arith}
use Rattle.fz_list.proofs.Algebra.{some_at}
use Rattle.error_bound.proofs.MattersLemmas.{matters_there, matters_not_yet}
use Rattle.error_bound.proofs.tables.BoxTable.matters.Goals as goal

pub returns-then-rule_asks_for : goal.returns-then-rule_asks_for
returns-then-rule_asks_for c =
    let b = c.args.self.now.table.now.block.now in
    let r = some_at b.rules c.loop-n.n (omega (arith, c.loop-n-test.true, c.len-n-end.ensures)) in
    sym (matters_there b c.args.self.now.bytes.0.items c.args.input c.loop-n.n r.0 r.1
    (sym (c.rule_asks_for.ensures r.0 r.1) ∙ c.if-rule_asks_for.true))

pub loop-n-preserved : goal.loop-n-preserved
loop-n-preserved c =
    let b = c.args.self.now.table.now.block.now in
    let r = some_at b.rules c.loop-n.n (omega (arith, c.loop-n-test.true, c.len-n-end.ensures)) in
    matters_not_yet b c.args.self.now.bytes.0.items c.args.input c.loop-n.n r.0 r.1
    (sym (c.rule_asks_for.ensures r.0 r.1) ∙ c.if-rule_asks_for.false) c.loop-n.invariant
