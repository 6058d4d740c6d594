use Rattle.std.proofs.Common.{◌≤◌, ◌+◌, arith}
use Rattle.fuzzy_meaning.specs.Blocks.{output_at}
use Rattle.byte_scaling.specs.Widths.{parts}
use Rattle.cell_bounds.proofs.WalkLemmas.{more_output, raised_same, raised_count}
use Rattle.cell_bounds.proofs.walks.Walk.raised.Goals as goal

pub returns-in-None-clause-raised : goal.returns-in-None-clause-raised
returns-in-None-clause-raised c =
    let w = c.args.self.now in
    let t = c.args.table.now in
    let b = t.table.now.block.now in
    let h = parts t.table.now.width in
    more_output (output_at b (c.args.place + 1))
    (λ x p. raised_same b t.bytes.0.items c.requires.cell h (c.args.place + 1) x
    c.args.so_far p) c.in-None.ensures.within

pub returns-else-count-self-clause-raised : goal.returns-else-count-self-clause-raised
returns-else-count-self-clause-raised c =
    let w = c.args.self.now in
    let t = c.args.table.now in
    let b = t.table.now.block.now in
    let h = parts t.table.now.width in
    let le = c.if-count-self.false in
    let limit = c.requires.walk.limits c.args.place in
    let small : c.in-Some.count ≤ 1000000 = omega arith in
    more_output (output_at b (c.args.place + 1))
    (λ x p. raised_count b t.bytes.0.items c.requires.cell h
    c.requires.table.is_table.box_is.intervals (c.args.place + 1) x c.args.so_far c.in-Some.count c.max.result c.max.ensures
    small p) c.in-Some.ensures.count
