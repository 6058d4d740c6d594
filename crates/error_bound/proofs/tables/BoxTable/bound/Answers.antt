use Rattle.std.proofs.Common.{◌≡◌}
use Rattle.error_bound.specs.Leaves.{silent}
use Rattle.error_bound.proofs.LeafLemmas.{HasLeafFault-silent, rule-within, IsRatio-low, Holds-strong}
use Rattle.error_bound.proofs.LeafLemmas.{HasLeafFault-strong, IsBound-silent, IsBound-strong}
use Rattle.error_bound.proofs.tables.BoxTable.bound.Goals as goal

pub returns-in-Some-clause-fault : goal.returns-in-Some-clause-fault
returns-in-Some-clause-fault c =
    HasLeafFault-silent c.args.self.now.table.now.block.now c.args.self.now.bytes.0.items c.args.out c.args.leaf.now c.in-Some.fault
    c.if-leaf-eq0.true c.in-Some.ensures.fault

pub returns-in-None : goal.returns-in-None
returns-in-None c =
    let x = c.output_of-output in
    let k : c.args.leaf.now.k ≡ 0 = c.if-leaf-eq0.true in
    record {
      holds = silent (c.requires.pair.silent k) k c.in-None.ensures.still;
      bound = IsBound-silent c.args.self.now.table.now.block.now c.args.self.now.bytes.0.items c.args.out x.result.now
          _ c.args.leaf.now c.silent_bound.result c.requires.table.table.valid c.requires.table.box_is.intervals
          x.ensures.found k c.silent_bound.ensures;
      fault = tt;
    }

pub end_of_rule-low-requires-clause-place : goal.end_of_rule-low-requires-clause-place
end_of_rule-low-requires-clause-place c =
    rule-within c.args.self.now.table.now.block.now c.args.out c.args.leaf.now c.requires.pair c.if-leaf-eq0.false

pub strong_fault-requires : goal.strong_fault-requires
strong_fault-requires c = IsRatio-low c.args.self.now.table.now.block.now c.args.out c.args.leaf.now c.requires.pair c.if-leaf-eq0.false
    c.args.self.now.bytes.0.items c.end_of_rule-low.result c.end_of_rule-low.ensures

pub returns-in-Some-strong_fault-clause-fault : goal.returns-in-Some-strong_fault-clause-fault
returns-in-Some-strong_fault-clause-fault c =
    HasLeafFault-strong c.args.self.now.table.now.block.now c.args.out c.args.leaf.now c.requires.pair c.if-leaf-eq0.false
    c.args.self.now.bytes.0.items c.end_of_rule-low.result c.end_of_rule-low.ensures c.in-Some-strong_fault.fault
    c.in-Some-strong_fault.ensures.fault

pub returns : goal.returns
returns c =
    let x = c.output_of-output in
    let some = c.if-leaf-eq0.false in
    record {
      holds = Holds-strong c.args.self.now.table.now.block.now c.args.out c.args.leaf.now c.requires.pair some
          c.args.self.now.bytes.0.items
          c.end_of_rule-low.result c.end_of_rule-low.ensures c.in_default.ensures.low c.in_default.ensures.byte_low;
      bound = IsBound-strong c.args.self.now.table.now.block.now c.args.self.now.bytes.0.items c.args.out x.result.now
          _ c.args.leaf.now c.strong_bound.result c.requires.table.table.valid c.requires.table.box_is.intervals
          x.ensures.found c.sum_of_errors-sum.result some
          c.sum_of_errors-sum.ensures.value c.strong_bound.ensures;
      fault = tt;
    }
