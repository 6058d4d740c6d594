-- The faults of lines, and lines one after another.
-- Beside the promise.
use Rattle.std.specs.Prelude.{ℕ, ◌+◌, List, [], ◌∷◌, Result, Ok, Err}
use Rattle.cpu12_asm.specs.declared.faults.LineFault.{LineFault}
use Rattle.cpu12_asm.specs.declared.faults.LineFault.TheVariants as line
use Rattle.cpu12_asm.specs.declared.items.AsmFault.{AsmFault}
use Rattle.cpu12_asm.specs.declared.items.AsmFault.TheVariants as fault

abbrev pub at_line : LineFault → ℕ → AsmFault
at_line line.BadLine n = fault.BadLine n
at_line line.UnknownName n = fault.UnknownName n
at_line line.Twice n = fault.Twice n
at_line line.BranchFar n = fault.BranchFar n
at_line line.Range n = fault.Range n
at_line line.Overlap n = fault.Overlap n
at_line line.Memory n = fault.Memory

abbrev pub on_line : {S T : Type 0} → ℕ → Result S LineFault → (S → Result T AsmFault) → Result T AsmFault
on_line n (Ok s) rest = rest s
on_line n (Err f) rest = Err (at_line f n)

-- lines one after another, of which the first has number n: the first that is refused is refused with its number
abbrev pub through : {S : Type 0} → (S → List ℕ → Result S LineFault) → S → ℕ → List (List ℕ) → Result S AsmFault
through step s n [] = Ok s
through step s n (l ∷ ls) = on_line n (step s l) (λ t. through step t (n + 1) ls)
