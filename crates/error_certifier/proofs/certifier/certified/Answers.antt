use Rattle.std.proofs.Common.{◌≤◌, ap, ◌∙◌, replicate, arith}
use Rattle.byte_scaling.specs.Widths.{parts as parts_of}
use Rattle.byte_scaling.specs.declared.{width.Width.Width, width.Width.TheVariants.Byte, width.Width.TheVariants.Word}
use Rattle.error_certifier.proofs.HalveLemmas.{box_for, tree_for, grows_for}
use Rattle.error_certifier.proofs.CertLemmas.{is_halving}
use Rattle.error_certifier.proofs.TargetLists.{stops_for, says}
use Rattle.error_certifier.proofs.certifier.certified.Goals as goal

some_parts : (width : Width) → 1 ≤ parts_of width
some_parts Byte = omega arith
some_parts Word = omega arith

pub over-table-requires-clause-bytes : goal.over-table-requires-clause-bytes
over-table-requires-clause-bytes c =
    box_for c.in-Ok.task.table.block.now c.args.block.now c.whole_box.result.0.items c.in-Ok.ensures.block
    c.whole_box.ensures

pub halve-requires : goal.halve-requires
halve-requires c =
    let e = c.in-Ok.ensures in
    record {
      task = e.task;
      bytes = box_for c.in-Ok.task.table.block.now c.args.block.now c.whole_box-2.result.0.items e.block
          c.whole_box-2.ensures;
      table = record { is_table = c.over-table.ensures.table; over = c.over-table.ensures.over };
      tree = tree_for c.in-Ok.task.table.block.now c.args.block.now c.in-Ok-new.tree c.len.result e.block
          c.in-Ok-new.ensures.errors c.len.ensures c.in-Ok-new.ensures.leaves;
    }

pub returns-in-Ok-halve : goal.returns-in-Ok-halve
returns-in-Ok-halve c =
    let b = c.args.block.now in
    let old = c.in-Ok-new.tree in
    let new = c.halve.new.tree in
    let e = c.in-Ok.ensures in
    let nodes = c.in-Ok-new.ensures.nodes in
    let errors = c.in-Ok-new.ensures.errors ∙ ap (λ n. replicate n 0) c.len.ensures in
    let leaves = c.in-Ok-new.ensures.leaves in
    let grows = grows_for c.in-Ok.task.kind c.args.kind c.in-Ok.task.table.block.now b (parts_of c.in-Ok.task.table.width) (parts_of c.args.width)
    c.in-Ok.task.targets.items c.args.targets.items
    c.whole_box-2.result.0.items old new
    e.kind e.block (ap parts_of e.width) e.targets c.whole_box-2.ensures c.in-Ok-halve.ensures.grows in
    let claims = c.into_cert.ensures.claims in
    let made = c.into_cert.ensures.nodes in
    let halved = is_halving c.args.kind b (parts_of c.args.width) c.args.targets.items old new c.into_cert.result
    c.requires.block c.requires.targets nodes errors leaves grows claims made in
    let within = c.halvings_are_within_their_targets.ensures c.args.kind b (parts_of c.args.width) c.args.targets.items
    c.into_cert.result c.requires.block halved in
    record { halved = halved; within = within.1; cert = within.0; stops = tt; out_of_reach = tt }

pub returns-clause-stops : goal.returns-clause-stops
returns-clause-stops c = λ other.
    let e = c.in-Ok.ensures in
    stops_for c.in-Ok.task.kind c.args.kind c.in-Ok.task.table.block.now c.args.block.now (parts_of c.in-Ok.task.table.width) (parts_of c.args.width)
    c.in-Ok.task.targets.items c.args.targets.items c.whole_box-2.result.0.items c.in-Ok-new.tree.leaves c.in-Err.stop
    e.kind e.block (ap parts_of e.width) e.targets c.whole_box-2.ensures c.in-Ok-new.ensures.leaves c.requires.targets
    (c.in-Err.ensures.stops other)

pub returns-clause-out_of_reach : goal.returns-clause-out_of_reach
returns-clause-out_of_reach c =
    let e = c.in-Ok.ensures in
    says c.args.kind c.args.block.now (parts_of c.args.width) c.args.targets.items c.in-Err.stop c.cells_are_out_of_reach.ensures
    c.requires.block (some_parts c.args.width) (λ other.
    stops_for c.in-Ok.task.kind c.args.kind c.in-Ok.task.table.block.now c.args.block.now (parts_of c.in-Ok.task.table.width) (parts_of c.args.width)
    c.in-Ok.task.targets.items c.args.targets.items c.whole_box-2.result.0.items c.in-Ok-new.tree.leaves c.in-Err.stop
    e.kind e.block (ap parts_of e.width) e.targets c.whole_box-2.ensures c.in-Ok-new.ensures.leaves c.requires.targets
    (c.in-Err.ensures.stops other))
