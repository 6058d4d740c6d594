use Rattle.std.proofs.Common.{◌≡◌, arith}
use Rattle.error_bound.specs.{CellErrors.term_errors, Errors.rule_rise, Errors.rule_fall}
use Rattle.error_bound.proofs.TightLawLemmas.{AreGreatest-raised, AreGreatest-skipped}
use Rattle.error_bound.proofs.{ListLemmas.step_back, TightLemmas.still_moves}
use Rattle.error_bound.proofs.tables.BoxTable.deviations.Goals as goal

pub loop-n-preserved-then-may_fire : goal.loop-n-preserved-then-may_fire
loop-n-preserved-then-may_fire c =
    let step = step_back c.as_slice-rules.ensures c.loop-n-test.true c.loop-n.auto.n c.index-rules-n.is in
    let m = c.moving_deviation-deviation.ensures in
    let before = c.loop-n.invariant in
    record {
      rises_count = c.raise_terms.array_long;
      falls_count = c.raise_terms-then-may_fire.array_long;
      rises = AreGreatest-raised step.0 (m.rise _ step.1) m.small.rise_to before.rises c.raise_terms.ensures;
      falls = AreGreatest-raised step.0 (m.fall _ step.1) m.small.fall_to before.falls
          c.raise_terms-then-may_fire.ensures;
    }

pub loop-n-preserved : goal.loop-n-preserved
loop-n-preserved c =
    let b = c.args.self.now.table.now.block.now in
    let box = c.args.self.now.bytes.0.items in
    let e = term_errors b box in
    let r = c.index-rules-n.result in
    let step = step_back c.as_slice-rules.ensures c.loop-n-test.true c.loop-n.auto.n c.index-rules-n.is in
    let still = c.may_fire.ensures.still c.if-may_fire.false r step.1 in
    let before = c.loop-n.invariant in
    record {
      rises_count = before.rises_count;
      falls_count = before.falls_count;
      rises = AreGreatest-skipped step.0 (λ one. still_moves b box r (rule_rise e r) (still one)) before.rises;
      falls = AreGreatest-skipped step.0 (λ one. still_moves b box r (rule_fall e r) (still one)) before.falls;
    }

pub returns : goal.returns
returns c =
    let i = c.loop-n.invariant in
    let none : c.loop-n.n ≡ 0 = omega (arith, c.loop-n-test.false) in
    let read = c.as_slice-rules.ensures in
    record { rises = rw (none, read) at i.rises; falls = rw (none, read) at i.falls }
