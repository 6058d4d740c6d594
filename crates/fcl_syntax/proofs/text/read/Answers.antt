use Rattle.fcl_syntax.proofs.Theorem.{kept_tree}
use Rattle.fcl_syntax.proofs.text.read.Goals as goal

pub invariant_of-result : goal.invariant_of-result
invariant_of-result c = record {
  spelled = ∣ kept_tree c.cuts_are_tokens.ensures c.args.text.now c.in-Ok-to_ascii_lowercase.text.items _ _
      c.in-Ok-function_block.block c.requires
      c.in-Ok-to_ascii_lowercase.ensures.ok c.in-Ok.ensures.found
      (rw c.deref.ensures.value at c.in-Ok-function_block.ensures) ∣₁;
}
