use Rattle.std.proofs.Common.{ℕ, ◌+◌, List, ◌∙◌, arith}
use Rattle.std.proofs.lemmas.Result.{err_from_is_err_and}
use Rattle.byte_scaling.specs.Widths.{parts}
use Rattle.cell_bounds.proofs.WalkLemmas.{more_ok, more_err, left_part, right_part, raised_of_parts, above_in_left}
use Rattle.cell_bounds.proofs.WalkLemmas.{above_in_right}
use Rattle.cell_bounds.proofs.walks.Walk.+over.Goals as goal

pub over-requires : goal.over-requires
over-requires t c =
    let s = c.args.self.now in
    let p = c.parted-left in
    let part = left_part s.table.now.block.now (parts s.table.now.width) c.args.bytes.0.items c.in-Some.place c.requires.bytes.intervals
    c.in-Some.ensures.there c.in-Some.ensures.wide p.result.0.0.items p.result.1.0.items p.ensures.left
    p.ensures.right in
    let count = part.1 ∙ c.requires.bytes.count in (
      omega (arith, c.decreases, part.0),
      (c.requires.walk, (c.requires.table, (record { count = count; intervals = part.2 }, c.requires.so_far))),
    )

pub over-requires-2 : goal.over-requires-2
over-requires-2 t c =
    let s = c.args.self.now in
    let p = c.parted-left in
    let part = right_part s.table.now.block.now (parts s.table.now.width) c.args.bytes.0.items c.in-Some.place c.requires.bytes.intervals
    c.in-Some.ensures.there c.in-Some.ensures.wide p.result.0.0.items p.result.1.0.items p.ensures.left
    p.ensures.right in
    let count = part.1 ∙ c.requires.bytes.count in
    let so_far = c.in_ok-raised.ensures.within in (
      omega (arith, c.decreases, part.0),
      (c.requires.walk, (c.over.ensures.table, (record { count = count; intervals = part.2 }, so_far))),
    )

pub returns-in_err-raised-clause-above : goal.returns-in_err-raised-clause-above
returns-in_err-raised-clause-above t c =
    let s = c.args.self.now in
    let p = c.parted-left in
    let a = c.in_err-raised.field-0.0 in
    let err = err_from_is_err_and c.from_residual.result c.from_residual.ensures.1 in
    rw (err.1, err.2) (above_in_left s.table.now.block.now (parts s.table.now.width) c.args.bytes.0.items c.in-Some.place
    c.requires.bytes.intervals c.in-Some.ensures.there c.in-Some.ensures.wide p.result.0.0.items p.result.1.0.items
    p.ensures.left p.ensures.right s.limits.now (s.first + 1) s.end a.bytes.items a.out a.bound c.in-Some.ensures.first
    c.in_err-raised.ensures.above)

pub returns : goal.returns
returns t c =
    let s = c.args.self.now in
    let p = c.parted-left in
    let box = c.args.bytes.0.items in
    let few = c.requires.walk.all in
    record {
      table = c.over-2.ensures.table;
      raised = more_ok c.over-2.result (λ (news : List ℕ) r. raised_of_parts s.table.now.block.now (parts s.table.now.width) box c.in-Some.place
          c.requires.bytes.intervals c.in-Some.ensures.there c.in-Some.ensures.wide p.result.0.0.items
          p.result.1.0.items p.ensures.left p.ensures.right s.first s.end c.args.so_far c.in_ok-raised.raised news
          c.in_ok-raised.ensures.raised r) c.over-2.ensures.raised;
      within = c.over-2.ensures.within;
      above = more_err c.over-2.result (λ a r. above_in_right s.table.now.block.now (parts s.table.now.width) box c.in-Some.place
          c.requires.bytes.intervals c.in-Some.ensures.there c.in-Some.ensures.wide p.result.0.0.items
          p.result.1.0.items p.ensures.left p.ensures.right s.limits.now s.first s.end c.args.so_far c.in_ok-raised.raised
          a.bytes.items a.out a.bound few c.in_ok-raised.ensures.raised c.in_ok-raised.ensures.within r)
          c.over-2.ensures.above;
    }
