use Rattle.two_level_runs.proofs.Words.{◌<◌, arith}
use Rattle.two_level_runs.proofs.FastRows.{sample_got}
use Rattle.two_level_runs.proofs.serve.sample_of.Goals as goal

pub returns-else-number-eq0 : goal.returns-else-number-eq0
returns-else-number-eq0 c =
    let some : 0 < c.args.number = (let n = c.if-number-eq0.false in omega (arith, n)) in
    sample_got c.args.samples.now c.args.number c.get.result some c.get.ensures.lookup
