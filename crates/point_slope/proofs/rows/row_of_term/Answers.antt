use Rattle.std.proofs.Common.{◌≤◌, arith}
use Rattle.std.proofs.lemmas.Int.{ints}
use Rattle.byte_scaling.specs.Cells.{byte_of}
use Rattle.point_slope.proofs.rows.row_of_term.Goals as goal

pub overflow_sub-byte_within : goal.overflow_sub-byte_within
overflow_sub-byte_within c =
    let i = c.args.input.now in
    let a_in = rw c.in-Some.is at c.requires.term.a_in in
    let le : byte_of i c.in-Some.a ≤ byte_of i c.args.term.now.b =
    c.bytes_ascend.ensures i c.in-Some.a c.args.term.now.b c.requires.input.range a_in.0 a_in.1 in
    omega (arith, c.byte_within-first.ensures.byte, c.byte_within.ensures.byte)

pub overflow_sub-last : goal.overflow_sub-last
overflow_sub-last c =
    let i = c.args.input.now in
    let d_in = rw c.in-Some-d.is at c.requires.term.d_in in
    let le : byte_of i c.args.term.now.c ≤ byte_of i c.in-Some-d.d =
    c.bytes_ascend.ensures i c.args.term.now.c c.in-Some-d.d c.requires.input.range
    (let b = c.requires.term.b_in in let p = c.requires.term.peak in omega (arith, ints)) d_in.0 in
    omega (arith, c.byte_within-last.ensures.byte, c.byte_within-in-Some-d.ensures.byte)
