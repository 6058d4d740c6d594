use Rattle.run_commands.proofs.Words.{ap, arith, length, length-map, row_seen, sum}
use Rattle.run_forms.specs.Rows.{boundary_seen}
use Rattle.run_commands.proofs.SumLemmas.{seen_more}
use Rattle.run_commands.proofs.generate.Sums.over.Goals as goal

pub loop-row-preserved : goal.loop-row-preserved
loop-row-preserved c =
    let n = c.loop-row.row-index in
    let row = c.row-item.result in
    let inside = c.loop-row-test.true in
    let so_far = c.loop-row.invariant in
    let frames = seen_more row_seen (λ r. length r.frames) c.args.rows.now n row inside c.row-item.is in
    let resumed = seen_more row_seen (λ r. r.resumed) c.args.rows.now n row inside c.row-item.is in
    let answers = seen_more row_seen (λ r. sum r.answers) c.args.rows.now n row inside c.row-item.is in
    let told = length-map row.frames boundary_seen in
    record {
      frames = omega (arith, frames, so_far.frames, c.len.ensures, told);
      resumed = omega (arith, resumed, so_far.resumed, c.from-resumed.ensures, c.from.ensures);
      answers = omega (
        arith,
        answers,
        so_far.answers,
        c.sum_of.ensures,
        ap sum c.as_slice.ensures.value,
        c.from-in-loop-row.ensures,
      );
      few_frames = omega (arith, so_far.few_frames, c.len.type_inv);
      few_resumed = omega (arith, so_far.few_resumed, c.from-resumed.type_inv, c.from.ensures);
      few_answers = omega (arith, so_far.few_answers, c.sum_of.type_inv, c.from-in-loop-row.ensures);
    }
