use Rattle.error_bound.proofs.{ListLemmas.slice_get-slice, TightLemmas.nowhere_part}
use Rattle.std.proofs.Common.{refl}
use Rattle.error_bound.proofs.nowhere.some_is_nowhere.Goals as goal

pub returns-then-term_is_nowhere : goal.returns-then-term_is_nowhere
returns-then-term_is_nowhere c _ =
    let parts = c.args.parts.now in
    let part = c.index-parts-k.result in
    nowhere_part c.args.table.now.table.now.block.now c.args.table.now.bytes.0.items parts c.loop-k.k part
    (slice_get-slice parts parts c.loop-k.k part refl c.loop-k-test.true c.index-parts-k.is)
    (c.term_is_nowhere.ensures c.if-term_is_nowhere.true)
