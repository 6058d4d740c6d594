-- The block of a tree, and of a text.
-- Beside the promise.
use Rattle.std.specs.Prelude.{◌≡◌, ℕ, List}
use Rattle.fuzzy_meaning.specs.declared.block.Block.{Block}
use Rattle.fcl_syntax.specs.declared.tree.FunctionBlock.{FunctionBlock}
use Rattle.fcl_check.specs.{Loaded.IsBlockOf, Texts.SpellsBlock}

-- A tree has at most one block.
abbrev pub BlocksAreOne : Type 0
BlocksAreOne =
    (text : List ℕ) (b : FunctionBlock) (p q : Block) → IsBlockOf text b p → IsBlockOf text b q → p ≡ q

-- A text spells at most one block.
abbrev pub SpelledBlocksAreOne : Type 0
SpelledBlocksAreOne = (text : List ℕ) (p q : Block) → SpellsBlock text p → SpellsBlock text q → p ≡ q
