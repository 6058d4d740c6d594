use Rattle.std.proofs.Common.{length, ap, arith}
use Rattle.fz_list.proofs.Algebra.{some_at}
use Rattle.error_bound.proofs.LeafLemmas.{IsStill-end, HasLeafFault-firing, AreStillBefore-next, AreStillBefore-all}
use Rattle.error_bound.proofs.tables.BoxTable.silent_fault.Goals.{then-may_fire+in_default, else-may_fire}
use Rattle.error_bound.proofs.tables.BoxTable.silent_fault.Goals as goal

pub firing_fault-requires : goal.firing_fault-requires
firing_fault-requires c =
    let r = some_at c.args.self.now.table.now.block.now.rules c.loop-n.n
    (let lens = ap length c.as_slice-rules.ensures in omega (arith, c.loop-n-test.true)) in
    (c.end_of_rule-high.ensures r.0 r.1).small

pub returns-in-Some-clause-fault : goal.returns-in-Some-clause-fault
returns-in-Some-clause-fault c =
    let b = c.args.self.now.table.now.block.now in
    let r = some_at b.rules c.loop-n.n
    (let lens = ap length c.as_slice-rules.ensures in omega (arith, c.loop-n-test.true)) in
    HasLeafFault-firing b c.args.self.now.bytes.0.items c.args.out c.loop-n.n r.0 r.1 c.loop-n.invariant
    c.end_of_rule-high.result c.in-Some.fault (c.end_of_rule-high.ensures r.0 r.1)
    (c.may_fire.ensures.concludes_it c.if-may_fire.true r.0 r.1) c.in-Some.ensures.fault

pub loop-n-preserved : goal.loop-n-preserved
loop-n-preserved c =
    let b = c.args.self.now.table.now.block.now in
    let box = c.args.self.now.bytes.0.items in
    let r = some_at b.rules c.loop-n.n
    (let lens = ap length c.as_slice-rules.ensures in omega (arith, c.loop-n-test.true)) in
    AreStillBefore-next b box c.args.out c.loop-n.n r.0 r.1 c.loop-n.invariant (λ one. elim c.if-may_fire.branch [
      | then-may_fire+in_default w ↦ IsStill-end b box r.0 w.end_of_rule-high.result
          (w.end_of_rule-high.ensures r.0 r.1) w.in_default.ensures.high w.in_default.ensures.byte_high
      | else-may_fire w ↦ c.may_fire.ensures.still w.if-may_fire.false r.0 r.1 one
    ])

pub returns-clause-still : goal.returns-clause-still
returns-clause-still c =
    AreStillBefore-all c.args.self.now.table.now.block.now c.args.self.now.bytes.0.items c.args.out c.loop-n.n c.loop-n.invariant
    (omega (arith, c.loop-n-test.false, ap length c.as_slice-rules.ensures))
