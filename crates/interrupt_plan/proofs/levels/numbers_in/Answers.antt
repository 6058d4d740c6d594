use Rattle.std.proofs.Common.{arith}
use Rattle.csv.specs.Records.{fields_of}
use Rattle.interrupt_plan.proofs.LevelLemmas.{no_number}
use Rattle.interrupt_plan.proofs.levels.numbers_in.Goals as goal

pub returns-in_err-count_in : goal.returns-in_err-count_in
returns-in_err-count_in c = rw c.from_residual.ensures (λ ns are few.
    no_number (fields_of c.args.row.now) c.loop-at.at c.field_at.result.now ns
    (omega (arith, c.loop-at-test.true, c.len-at-end.ensures))
    c.field_at.ensures c.in_err-count_in.ensures are)
