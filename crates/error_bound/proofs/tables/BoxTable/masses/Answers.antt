use Rattle.std.proofs.Common.{◌≡◌, true, ◌+◌, drop, arith}
use Rattle.error_bound.specs.{Leaves.concludes_some}
use Rattle.error_bound.proofs.TightLawLemmas.{AreGreatest-raised, AreGreatest-skipped, AreGreatest-within}
use Rattle.error_bound.proofs.StillLemmas.{still_parts}
use Rattle.error_bound.proofs.{ListLemmas.step_back, TightLemmas.ends_ordered}
use Rattle.error_bound.proofs.tables.BoxTable.masses.Goals as goal

pub loop-n-preserved-in-Some : goal.loop-n-preserved-in-Some
loop-n-preserved-in-Some c =
    let step = step_back c.as_slice-rules.ensures c.loop-n-test.true c.loop-n.auto.n c.index-rules-n.is in
    let m = c.in-Some.ensures.mass _ step.1 in
    let before = c.loop-n.invariant in
    record {
      lows_count = c.raise_terms.array_long;
      highs_count = c.raise_terms-in-Some.array_long;
      byte_lows_count = c.raise_terms-in-Some-2.array_long;
      byte_highs_count = c.raise_terms-in-Some-3.array_long;
      lows = AreGreatest-raised step.0 m.low m.low_small before.lows c.raise_terms.ensures;
      highs = AreGreatest-raised step.0 m.high m.high_small before.highs c.raise_terms-in-Some.ensures;
      byte_lows = AreGreatest-raised step.0 m.byte_low m.byte_low_small before.byte_lows
          c.raise_terms-in-Some-2.ensures;
      byte_highs = AreGreatest-raised step.0 m.byte_high m.byte_high_small before.byte_highs
          c.raise_terms-in-Some-3.ensures;
    }

pub loop-n-preserved-in_default : goal.loop-n-preserved-in_default
loop-n-preserved-in_default c =
    let step = step_back c.as_slice-rules.ensures c.loop-n-test.true c.loop-n.auto.n c.index-rules-n.is in
    let m = c.in_default.ensures.within _ step.1 in
    let so_far = c.least_masses-so_far.ensures in
    let before = c.loop-n.invariant in
    record {
      lows_count = before.lows_count;
      highs_count = before.highs_count;
      byte_lows_count = before.byte_lows_count;
      byte_highs_count = before.byte_highs_count;
      lows = AreGreatest-within step.0 (λ t few one. omega (arith, m.low, so_far.low t few one)) before.lows;
      highs = AreGreatest-within step.0 (λ t few one. omega (arith, m.high, so_far.high t few one)) before.highs;
      byte_lows = AreGreatest-within step.0 (λ t few one. omega (arith, m.byte_low, so_far.byte_low t few one))
          before.byte_lows;
      byte_highs = AreGreatest-within step.0 (λ t few one. omega (arith, m.byte_high, so_far.byte_high t few one))
          before.byte_highs;
    }

pub loop-n-preserved : goal.loop-n-preserved
loop-n-preserved c =
    let r = c.index-rules-n.result in
    let step = step_back c.as_slice-rules.ensures c.loop-n-test.true c.loop-n.auto.n c.index-rules-n.is in
    let table = c.requires.table in
    let none = λ (one : concludes_some r c.args.out ≡ true).
    still_parts _ _ table.table.valid table.box_is.count table.box_is.intervals r
    (c.still_rules-still.ensures _ r (c.is_needed.ensures c.if-is_needed.false one) step.1) in
    let before = c.loop-n.invariant in
    record {
      lows_count = before.lows_count;
      highs_count = before.highs_count;
      byte_lows_count = before.byte_lows_count;
      byte_highs_count = before.byte_highs_count;
      lows = AreGreatest-skipped step.0 (λ one. (none one).0) before.lows;
      highs = AreGreatest-skipped step.0 (λ one. (none one).1) before.highs;
      byte_lows = AreGreatest-skipped step.0 (λ one. (none one).2) before.byte_lows;
      byte_highs = AreGreatest-skipped step.0 (λ one. (none one).3) before.byte_highs;
    }

pub returns : goal.returns
returns c =
    let b = c.args.self.now.table.now.block.now in
    let box = c.args.self.now.bytes.0.items in
    let i = c.loop-n.invariant in
    let none : c.loop-n.n ≡ 0 = omega (arith, c.loop-n-test.false) in
    let table = c.requires.table.box_is in
    record {
      masses = record {
        lows = rw (none, c.as_slice-rules.ensures) at i.lows;
        highs = rw (none, c.as_slice-rules.ensures) at i.highs;
        byte_lows = rw (none, c.as_slice-rules.ensures) at i.byte_lows;
        byte_highs = rw (none, c.as_slice-rules.ensures) at i.byte_highs;
      };
      ordered = λ t few. omega (
        arith,
        i.lows.each t few,
        i.highs.each t few,
        ends_ordered b box c.requires.table.table.valid
            table.count table.intervals c.args.out (t + 1) (drop c.loop-n.n c.as_slice-rules.result.now),
      );
    }
