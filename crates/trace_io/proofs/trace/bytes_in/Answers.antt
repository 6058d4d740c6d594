use Rattle.std.proofs.Common.{◌≡◌, arith, refl, true, false}
use Rattle.trace_io.proofs.TraceLemmas.{bytes_more, first_outside, within_more}
use Rattle.trace_io.proofs.trace.bytes_in.Goals as goal

pub returns-in-Err-clause-outside : goal.returns-in-Err-clause-outside
returns-in-Err-clause-outside c =
    first_outside c.args.inputs.now c.args.values.now c.loop-i.i c.index-inputs-i.result _ c.loop-i-test.true
    c.requires.count c.index-inputs-i.is
    c.loop-i.invariant.within _ refl
    (λ here. let bad : false ≡ true = c.in-Err.ensures.inside.1 here in cc)

pub loop-i-preserved : goal.loop-i-preserved
loop-i-preserved c = record {
  within = within_more c.args.inputs.now c.args.values.now c.loop-i.i c.index-inputs-i.result _ c.loop-i-test.true
      c.requires.count
      c.index-inputs-i.is c.loop-i.invariant.within (c.in-Ok.ensures.inside.0 refl);
  bytes = bytes_more c.args.inputs.now c.args.values.now c.loop-i.i c.index-inputs-i.result _ c.loop-i-test.true
      c.requires.count c.index-inputs-i.is
      c.loop-i.invariant.within _ _ c.in-Ok.byte c.loop-i.invariant.bytes c.in-Ok.ensures.byte c.push.ensures.items;
  size = omega (arith, c.push.ensures.len);
}
