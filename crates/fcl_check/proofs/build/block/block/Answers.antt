use Rattle.fcl_check.proofs.Faultless.{input_sections, output_sections}
use Rattle.fcl_check.proofs.build.block.block.Goals as goal

pub variables-requires : goal.variables-requires
variables-requires c =
    let source = c.args.source.now in
    input_sections source.names.now.tree.now.text.items source.names.now.tree.now.block source.well_formed

pub variables-requires-2 : goal.variables-requires-2
variables-requires-2 c =
    let source = c.args.source.now in
    output_sections source.names.now.tree.now.text.items source.names.now.tree.now.block source.well_formed

pub returns : goal.returns
returns c = record {
  inputs = rw c.new.ensures c.in_ok-inputs.ensures;
  outputs = rw c.new-2.ensures c.in_ok-outputs.ensures;
  rules = rw c.new-3.ensures c.in_ok-rules.ensures;
}
