use Rattle.fcl_check.proofs.Words.{◌≡◌, arith, Err, Input, Output, rules, take}
use Rattle.std.proofs.{Common.length-take}
use Rattle.fcl_check.proofs.DeclaredNames.{count_bound, variables_more, counts_more, variables_once, variables_twice}
use Rattle.fcl_check.proofs.names.variables.Goals as goal

pub next-requires : goal.next-requires
next-requires c =
    let before = take c.loop-direction.direction-index c.args.declared.now in
    let short = length-take c.loop-direction.direction-index c.args.declared.now in
    record {
      inputs = omega (arith, c.loop-direction.invariant.counts Input, count_bound Input before, short);
      outputs = omega (arith, c.loop-direction.invariant.counts Output, count_bound Output before, short);
    }

pub returns-in_err-add-clause-fault : goal.returns-in_err-add-clause-fault
returns-in_err-add-clause-fault c =
    let passed : c.from_residual.result ≡ Err c.in_err-add.field-0.0 = search rules in
    rw passed (variables_twice c.args.tree.now.text.items c.args.tree.now.block c.args.declared.now
    c.loop-direction.direction-index _ c.loop-direction.variables
    c.in_err-add.field-0.0 c.loop-direction-test.true c.loop-direction.invariant.variables c.loop-direction.invariant.once c.in_err-add.ensures.fault)

pub loop-direction-preserved : goal.loop-direction-preserved
loop-direction-preserved c =
    let text = c.args.tree.now.text.items in
    let b = c.args.tree.now.block in
    let ds = c.args.declared.now in
    let i = c.loop-direction.direction-index in
    record {
      variables = variables_more text b ds i _ c.loop-direction.variables c.add.new.values c.loop-direction.counts c.next.result
          c.loop-direction-test.true
          c.loop-direction.invariant.variables c.loop-direction.invariant.counts c.next.ensures.number c.in_ok-add.ensures.added;
      counts = counts_more text b ds i _ c.loop-direction.counts c.next.new.self c.loop-direction-test.true c.loop-direction.invariant.counts
          c.next.ensures.counts;
      once = variables_once text b ds i _ c.loop-direction.variables c.loop-direction-test.true c.loop-direction.invariant.variables
          c.loop-direction.invariant.once c.in_ok-add.ensures.fault;
    }
