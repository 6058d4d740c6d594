use Rattle.std.proofs.Common.{◌≡◌, ◌+◌, arith, refl, rules}
use Rattle.std.specs.Prelude.{Err}
use Rattle.trace_io.proofs.TraceLemmas.{fault_at, samples_more, spelled_bytes, spelled_few, too_many}
use Rattle.trace_io.proofs.trace.samples_in.Goals as goal

pub returns-then-at-eq-MOST_SAMPLES-clause-fault :
    goal.returns-then-at-eq-MOST_SAMPLES-clause-fault
returns-then-at-eq-MOST_SAMPLES-clause-fault c = λ _.
    too_many c.args.inputs.now c.args.rows.now c.loop-at.at c.index-rows-at.result c.loop-at-test.true
    c.index-rows-at.is _
    c.loop-at.invariant.spelled c.if-at-eq-MOST_SAMPLES.true

pub returns-in_err-sample-clause-fault : goal.returns-in_err-sample-clause-fault
returns-in_err-sample-clause-fault c =
    let passed : c.from_residual.result ≡ Err c.in_err-sample.field-0.0 = search rules in
    rw passed (λ want. fault_at c.args.inputs.now c.args.rows.now c.loop-at.at c.index-rows-at.result c.loop-at-test.true
    c.index-rows-at.is _ c.loop-at.invariant.spelled
    c.in_err-sample.field-0.0 (c.loop-at.at + 1) refl (omega arith) (c.in_err-sample.ensures.fault want))

pub loop-at-preserved : goal.loop-at-preserved
loop-at-preserved c = record {
  few = omega arith;
  spelled = samples_more c.args.inputs.now c.args.rows.now c.loop-at.at c.index-rows-at.result c.loop-at-test.true
      c.index-rows-at.is _
      c.loop-at.invariant.spelled c.in_ok-sample.sample _ c.in_ok-sample.ensures.sample c.in-Ok.ensures.items;
}

pub returns-clause-few : goal.returns-clause-few
returns-clause-few c =
    spelled_few c.args.inputs.now c.args.rows.now c.loop-at.at _ c.loop-at.invariant.spelled c.loop-at.invariant.few

pub returns-clause-bytes : goal.returns-clause-bytes
returns-clause-bytes c = spelled_bytes c.args.inputs.now _ _ c.loop-at.invariant.spelled
