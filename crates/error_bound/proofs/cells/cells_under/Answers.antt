use Rattle.std.proofs.Common.{ℕ, ◌<◌, ◌≤◌, arith}
use Rattle.error_bound.proofs.CellErrors.{AreCellsBefore-none, AreCellsBefore-more}
use Rattle.error_bound.proofs.cells.cells_under.Goals as goal

pub loop-b-init : goal.loop-b-init
loop-b-init c =
    AreCellsBefore-none c.args.input.now c.args.term.now c.args.table c.args.bytes.from c.from-b.result c.from-b.ensures

pub loop-b-preserved : goal.loop-b-preserved
loop-b-preserved c =
    let e = c.deviation_of_cell-deviation.ensures in
    AreCellsBefore-more c.args.input.now c.args.term.now c.args.table c.args.bytes.from c.loop-b.b c.loop-b.cells
    c.grade.result c.deviation_of_cell-deviation.result c.loop-b.invariant
    (omega (arith, c.loop-b-test.true, c.from-b-end.ensures)) c.grade.ensures
    (record { rise = e.rise; fall = e.fall; rise_small = e.rise_small; fall_small = e.fall_small })

pub returns : goal.returns
returns c =
    let i = c.loop-b.invariant in
    let passed : (n : ℕ) → n ≤ c.args.bytes.to → n < c.loop-b.b =
    λ n u. omega (arith, c.loop-b-test.false, c.from-b-end.ensures) in
    record {
      grades = λ n l u. i.grades n l (passed n u);
      rises = λ n l u. i.rises n l (passed n u);
      falls = λ n l u. i.falls n l (passed n u);
      rises_small = λ n l u. i.rises_small n l (passed n u);
      falls_small = λ n l u. i.falls_small n l (passed n u);
    }
