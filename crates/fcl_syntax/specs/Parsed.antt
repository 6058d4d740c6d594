-- What `parse` answers: the tree, or the fault.
-- Beside the promise.
use Rattle.std.specs.Prelude.{◌≡◌, Result, Ok, Err}
use Rattle.fcl_syntax.specs.declared.{text.SyntaxFault.SyntaxFault, tree.Tree.Tree}
use Rattle.fcl_syntax.specs.{Grammar.TBlock, Text.OrMemory, View.view}

-- what is answered is this tree, where memory was found
abbrev pub GivesTree : Result Tree SyntaxFault → TBlock → Type 0
GivesTree (Ok tree) t = view tree.block ≡ t
GivesTree (Err e) t = OrMemory (λ _. ⊥) e

-- what is answered is this fault, where memory was found
abbrev pub GivesFault : Result Tree SyntaxFault → SyntaxFault → Type 0
GivesFault (Ok tree) e = ⊥
GivesFault (Err d) e = OrMemory (λ d. d ≡ e) d
