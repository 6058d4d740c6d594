use Rattle.std.proofs.Common.{◌≤◌, ◌*◌, arith}
use Rattle.std.proofs.lemmas.Nat.{mul-le}
use Rattle.cell_error.proofs.MeanLemmas.{num_small}
use Rattle.cell_error.proofs.means.Scale.millionths.Goals as goal

pub overflow_add-num-2 : goal.overflow_add-num-2
overflow_add-num-2 c =
    let s = c.args.self in
    let h = c.requires.scale in
    let p = c.requires.pull in
    let a : s.offset * s.parts ≤ 510002550000 * 256 = mul-le s.offset s.parts 510002550000 256 h.offset_to h.parts_to in
    let b : c.args.floors * s.width ≤ 1 * 2000010000 =
    mul-le c.args.floors s.width 1 2000010000 c.requires.floors h.width_to in
    let d : 255 * s.parts * s.width ≤ 65280 * 2000010000 =
    mul-le (255 * s.parts) s.width 65280 2000010000 (omega arith) h.width_to in
    let n = num_small c.from-2.result c.args.pull.pull c.from-ends.result c.from.result c.args.pull.mass c.from-3.result
    (omega (arith, c.from-2.ensures)) p.pull_to (omega (arith, c.from-ends.ensures)) (omega (arith, c.from.ensures))
    p.mass_to (omega (arith, c.from-3.ensures)) in
    omega (arith, n)
