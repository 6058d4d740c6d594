-- The block of a text, or the load fault that it has instead.
-- Reached by the promise.
use Rattle.std.specs.Prelude.{◌≡◌, ℕ, ◌≤◌, ◌⊎◌, List, length, Some, None}
use Rattle.std.specs.Str.{str_to_ascii_lowercase}
use Rattle.fuzzy_meaning.specs.{Blocks.IsValid, declared.block.Block.Block}
use Rattle.fcl_syntax.specs.{Text.IsFirstFault, Text.SpellsTree, View.view}
use Rattle.fcl_syntax.specs.declared.{text.SyntaxFault.SyntaxFault, tree.FunctionBlock.FunctionBlock}
use Rattle.fcl_check.specs.{Faults.first_fault, Loaded.IsBlockOf, declared.fault.LoadFault.LoadFault}

-- the text spells a tree without a load fault, and this is the tree's block
pub record SpellsBlock (text : List ℕ) (block : Block) : Type 0 where
  pub tree : FunctionBlock
  pub spelled : SpellsTree text (view tree)
  pub well_formed : first_fault (str_to_ascii_lowercase text) tree ≡ None
  pub loaded : IsBlockOf (str_to_ascii_lowercase text) tree block
  pub valid : IsValid block

-- the text spells a tree, and this is the tree's first load fault
pub record HasLoadFault (text : List ℕ) (fault : LoadFault) : Type 0 where
  pub tree : FunctionBlock
  pub spelled : SpellsTree text (view tree)
  pub first : first_fault (str_to_ascii_lowercase text) tree ≡ Some fault

-- A tree that a text of at most 1048576 bytes spells and that has no load fault has only valid blocks.
abbrev pub SpelledBlocksAreValid : Type 0
SpelledBlocksAreValid = (text : List ℕ) (b : FunctionBlock) (block : Block) → length text ≤ 1048576
    → SpellsTree text (view b) → first_fault (str_to_ascii_lowercase text) b ≡ None
    → IsBlockOf (str_to_ascii_lowercase text) b block → IsValid block

-- A tree that has no load fault has a block.
abbrev pub TreesHaveBlocks : Type 0
TreesHaveBlocks =
    (letters : List ℕ) (b : FunctionBlock) → first_fault letters b ≡ None → (block : Block) × IsBlockOf letters b block

-- A text has at most one load fault, and none where it spells a block.
abbrev pub LoadFaultsAreOne : Type 0
LoadFaultsAreOne = (text : List ℕ) → ((f g : LoadFault) → HasLoadFault text f → HasLoadFault text g → f ≡ g) ×
    ((f : LoadFault) (block : Block) → HasLoadFault text f → SpellsBlock text block → ⊥)

-- Each text of at most 1048576 bytes has a first fault, or a load fault, or spells a block.
abbrev pub EachTextIsJudged : Type 0
EachTextIsJudged = (text : List ℕ) → length text ≤ 1048576 → ((e : SyntaxFault) × IsFirstFault text e) ⊎
    (((f : LoadFault) × HasLoadFault text f) ⊎ ((block : Block) × SpellsBlock text block))
