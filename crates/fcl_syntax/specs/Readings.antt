-- What a text is: it spells one tree, or it has a first fault.
-- Beside the promise.
use Rattle.std.specs.Prelude.{◌≡◌, ℕ, ◌≤◌, ◌⊎◌, List, length}
use Rattle.fcl_syntax.specs.{Grammar.TBlock, Text.IsFirstFault, Text.SpellsTree, View.view}
use Rattle.fcl_syntax.specs.declared.{text.SyntaxFault.SyntaxFault, tree.FunctionBlock.FunctionBlock}

-- Each text of at most 1048576 bytes spells a tree of the program, or has a first fault.
abbrev pub EachTextIsRead : Type 0
EachTextIsRead = (text : List ℕ) → length text ≤ 1048576 → ((b : FunctionBlock) × SpellsTree text (view b)) ⊎
    ((e : SyntaxFault) × IsFirstFault text e)

-- A text spells at most one tree of the grammar, and at most one of the program.
abbrev pub TreesAreOne : Type 0
TreesAreOne = (text : List ℕ) → ((t u : TBlock) → SpellsTree text t → SpellsTree text u → t ≡ u) ×
    ((p q : FunctionBlock) → SpellsTree text (view p) → SpellsTree text (view q) → p ≡ q)

-- A text has at most one first fault, and none where it spells a tree.
abbrev pub FirstFaultsAreOne : Type 0
FirstFaultsAreOne = (text : List ℕ) → ((e f : SyntaxFault) → IsFirstFault text e → IsFirstFault text f → e ≡ f) ×
    ((e : SyntaxFault) (t : TBlock) → IsFirstFault text e → SpellsTree text t → ⊥)
