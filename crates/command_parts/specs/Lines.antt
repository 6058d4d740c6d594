-- Lines on out.
-- Reached by the promise.
use Rattle.std.specs.Prelude.{ℕ, ◌+◌, List, [], ◌∷◌, ◌++◌, codes, decimal}
use Rattle.cpu12_isa.specs.declared.instr.Regs.{Regs}
use Rattle.fz_shelf.specs.Parts.{address_digits, byte_digits, ended}
use Rattle.fz_status.specs.Words.{Text}

-- the line of a label and a number
abbrev pub line : Text → ℕ → List ℕ
line label n = ended (label ++ decimal n)

-- the lines of items that are counted from k
abbrev pub counted : {X : Type 0} → (ℕ → X → List (List ℕ)) → ℕ → List X → List (List ℕ)
counted lines_of k [] = []
counted lines_of k (x ∷ xs) = lines_of k x ++ counted lines_of (k + 1) xs

-- the error of an output behind a label, in millionths of its range
abbrev pub error_line : Text → ℕ → ℕ → List ℕ
error_line label o e = ended (label ++ (decimal o ++ (codes " " ++ decimal e)))

-- that of each output
abbrev pub error_lines : Text → List ℕ → List (List ℕ)
error_lines label errors = counted (λ o e. error_line label o e ∷ []) 1 errors

-- registers
abbrev pub registers_told : Regs → List ℕ
registers_told r =
    codes "pc " ++ (address_digits r.pc ++ (codes " a " ++ (byte_digits r.a ++ (codes " b " ++ (byte_digits r.b
    ++ (codes " x " ++ (address_digits r.x ++ (codes " y " ++ (address_digits r.y
    ++ (codes " sp " ++ (address_digits r.sp ++ (codes " ccr " ++ byte_digits r.ccr.0))))))))))))
