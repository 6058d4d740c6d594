-- The text and the block that a source is of. No public clause cites it.
-- Beside the promise.
use Rattle.std.specs.Prelude.{ℕ, List}
use Rattle.fcl_syntax.specs.declared.tree.FunctionBlock.{FunctionBlock}
use Rattle.fcl_check.specs.declared.build.source.Source.{Source}

abbrev pub text_of : Source → List ℕ
text_of s = s.names.now.tree.now.text.items

abbrev pub block_of : Source → FunctionBlock
block_of s = s.names.now.tree.now.block
