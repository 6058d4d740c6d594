use Rattle.run_commands.proofs.Words.{◌-◌, ◌∙◌, ◌≡◌, ap, arith, drop, free_start, stack_end, sum, take, ℕ}
use Rattle.run_commands.proofs.SumLemmas.{next_sum}
use Rattle.run_commands.proofs.run.left_in.Goals as goal

pub loop-at-preserved : goal.loop-at-preserved
loop-at-preserved g c =
    let so_far = c.loop-at.invariant in
    let size = g.met.M.Mem.size c.args.memory.now in
    record {
      low = omega (arith, so_far.low);
      high = omega (arith, c.loop-at-test.true);
      sum_is =
          next_sum (g.M.Mem.bytes c.args.memory.now) free_start c.loop-at.at c.loop-at.sum c.from-sum.result so_far.low
          (omega (arith, c.loop-at-test.true, size)) (c.from-sum.ensures ∙ c.read.ensures) so_far.sum_is;
      small = omega (arith, so_far.low, so_far.small, c.from-sum.ensures, c.read.type_inv);
    }

pub returns : goal.returns
returns g c =
    let end : c.loop-at.at ≡ stack_end = omega (arith, c.loop-at.invariant.high, c.loop-at-test.false) in
    c.loop-at.invariant.sum_is
    ∙ ap (λ (n : ℕ). sum (take (n - free_start) (drop free_start (g.M.Mem.bytes c.args.memory.now)))) end
