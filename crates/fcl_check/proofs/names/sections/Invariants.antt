use Rattle.fcl_check.proofs.Words.{[], ◌≡◌, at_each, first, HoldsSections, None, repeated_section, take}
use Rattle.fcl_check.proofs.names.sections.Given as goal

abbrev pub invariant-loop-part : goal.invariant-loop-part
invariant-loop-part l = record {
  sections : HoldsSections l.tree.text.items (take l.part-index l.tree.block.parts) l.sections;
  once : first (at_each (repeated_section l.tree.text.items l.tree.block) []
      (take l.part-index l.tree.block.parts)) ≡ None;
}
