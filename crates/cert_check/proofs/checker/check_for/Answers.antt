use Rattle.std.proofs.Common.{ap, ◌∙◌}
use Rattle.byte_scaling.specs.Widths.{parts as parts_of}
use Rattle.cert_check.proofs.DriverLemmas.{still_over, AreFirst-next, HasTaken-next, IsAccepted-all}
use Rattle.cert_check.proofs.DriverLemmas.{HasCheckFault-all}
use Rattle.cert_check.proofs.checker.check_for.Goals as goal

pub loop-node-init : goal.loop-node-init
loop-node-init c =
    let i = c.in-Ok.ensures in
    record {
      over = record { block = i.block; claims_are = i.claims ∙ c.as_slice.ensures; parts = ap parts_of i.width };
      taken = i.begun;
    }

pub take-requires : goal.take-requires
take-requires c =
    let i = c.loop-node.invariant in
    let next = AreFirst-next c.args.block.now (parts_of c.args.width) c.args.cert.now c.loop-node.walk i.over c.requires.cert
    c.loop-node.node-index c.as_slice-node-items.result.now c.node-item.result c.as_slice-node-items.ensures
    c.loop-node-test.true c.node-item.is in
    (_, i.taken, next)

pub loop-node-preserved : goal.loop-node-preserved
loop-node-preserved c =
    let i = c.loop-node.invariant in
    record {
      over = still_over c.args.block.now c.args.cert.now.claims (parts_of c.args.width) c.loop-node.walk c.take.new.self i.over
          c.take.ensures.same;
      taken = HasTaken-next c.args.block.now (parts_of c.args.width) c.args.cert.now c.loop-node.walk i.over c.requires.cert
          c.loop-node.node-index c.as_slice-node-items.result.now c.node-item.result c.as_slice-node-items.ensures
          c.loop-node-test.true c.node-item.is c.take.new.self i.taken c.take.ensures.taken;
    }

pub finish-requires : goal.finish-requires
finish-requires c = (_, c.loop-node.invariant.taken)

pub returns-clause-accepted : goal.returns-clause-accepted
returns-clause-accepted c =
    IsAccepted-all c.args.block.now (parts_of c.args.width) c.args.cert.now c.loop-node.walk c.loop-node.invariant.over
    c.requires.cert c.loop-node.node-index c.as_slice-node-items.result.now c.as_slice-node-items.ensures
    c.loop-node-test.false c.loop-node.invariant.taken c.finish.result c.finish.ensures.accepted

pub returns-clause-fault : goal.returns-clause-fault
returns-clause-fault c =
    HasCheckFault-all c.args.block.now (parts_of c.args.width) c.args.cert.now c.loop-node.walk c.loop-node.invariant.over
    c.requires.cert c.loop-node.node-index c.as_slice-node-items.result.now c.as_slice-node-items.ensures
    c.loop-node-test.false c.loop-node.invariant.taken c.finish.result c.finish.ensures.fault
