-- The order of the places of faults.
-- Beside the promise.
use Rattle.std.specs.Prelude.{ℕ, List, length, All}
use Rattle.std.specs.Str.{str_to_ascii_lowercase}
use Rattle.fcl_tokens.specs.Offsets.{AscendWithin}
use Rattle.fcl_syntax.specs.{Text.SpellsTree, View.view}
use Rattle.fcl_syntax.specs.declared.tree.FunctionBlock.{FunctionBlock}
use Rattle.fcl_check.specs.{Faults.kinds, declared.fault.LoadFault.LoadFault}

-- In a tree that a text spells, the places of each kind ascend within the text: the first is the least
-- offset.
abbrev pub PlacesAscend : Type 0
PlacesAscend = (text : List ℕ) (b : FunctionBlock) → SpellsTree text (view b)
    → All (λ (k : (ℕ → LoadFault) × List ℕ). AscendWithin 0 (length text) k.1) (kinds (str_to_ascii_lowercase text) b)
