use Rattle.std.proofs.Common.{◌∙◌, sym, arith}
use Rattle.debug_script.proofs.ScriptLemmas.{line_fails, line_more, text_begins}
use Rattle.debug_script.proofs.reader.read_script.Goals as goal

pub loop-rest-init : goal.loop-rest-init
loop-rest-init c = record {
  short = omega arith;
  small = c.requires;
  so_far = rw c.new-orders.ensures.items (text_begins c.args.text.now);
}

pub loop-rest-preserved : goal.loop-rest-preserved
loop-rest-preserved c = record {
  short = omega (arith, c.in-Some.ensures.shorter, c.loop-rest.invariant.short);
  small = c.loop-rest.invariant.small;
  so_far = rw c.in-Ok.ensures.items (line_more _ _ _ c.loop-rest.rest.now c.in-Some.line.now c.in-Some.behind.now _
      c.loop-rest.invariant.so_far c.in-Some.ensures.line (sym c.in-Some-order_in.is ∙ c.order_in.ensures));
}

pub returns-in_default-order_in-clause-fault : goal.returns-in_default-order_in-clause-fault
returns-in_default-order_in-clause-fault c = λ _.
    line_fails _ _ c.loop-rest.rest.now c.in-Some.line.now c.in-Some.behind.now _
    c.loop-rest.invariant.so_far c.in-Some.ensures.line (sym c.in_default-order_in.is ∙ c.order_in.ensures)
