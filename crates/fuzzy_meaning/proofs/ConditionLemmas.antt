-- Conditions and their parts.
use Rattle.fuzzy_meaning.specs.{Blocks.PartsAreValid, Blocks.HasTerm, Conditions.conditions}
use Rattle.fuzzy_meaning.proofs.Algebra.{AllHaveLiterals-some, HasLiterals-part}

pub parts_valid : PartsAreValid
parts_valid b parts k c h e =
    HasLiterals-part (HasTerm b) parts k c (AllHaveLiterals-some (HasTerm b) (conditions parts) h) e
