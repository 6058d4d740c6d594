use Rattle.std.proofs.Common.{arith}
use Rattle.srecord.proofs.WrittenLemmas.{few_records}
use Rattle.srecord.proofs.writer.text_of.Goals as goal

pub overflow_cast-count : goal.overflow_cast-count
overflow_cast-count c =
    let few = few_records c.args.bytes.now c.in_ok-count.ensures.0 c.requires c.in_ok-count.ensures.1 in
    omega (arith, few, c.in_ok-count.ensures.3)
