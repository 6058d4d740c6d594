-- The handler of an image, or its first fault.
-- Beside the promise.
use Rattle.std.specs.Prelude.{◌≡◌, ℕ, ◌+◌, ◌<◌, ◌≤◌, ◌⊎◌, Bool, false, Some, None, is_some, IsSome, List, [], ◌∷◌}
use Rattle.cpu12_isa.specs.{Code.code_bytes, Code.encode_of, Code.FitCode, Code.FitsOperands}
use Rattle.cpu12_isa.specs.declared.instr.Instr.{Instr}
use Rattle.cpu12_asm.specs.Bytes.{byte_at}
use Rattle.handler_check.specs.{declared.faults.HandlerFault.HandlerFault, Accepted.IsAccepted, Faults.IsFirstFault}
use Rattle.handler_check.specs.declared.faults.HandlerFault.TheVariants.{Empty, Outside, Memory}
use Rattle.handler_check.specs.Cut.{code_start, code_limit, code_end}

-- an image gives these bytes, one after the other from a place on
abbrev pub Gives : List (ℕ × ℕ) → ℕ → List ℕ → Type 0
Gives image at [] = Unit {0}
Gives image at (v ∷ vs) = (byte_at image at ≡ Some v) × Gives image (at + 1) vs

-- The cut of an image's bytes from $4000 on: instructions one after the other, behind which none stands whole.
pub record IsCut (image : List (ℕ × ℕ)) (is : List Instr) : Type 0 where
  pub fits : FitCode is
  pub stands : Gives image code_start (code_bytes is)
  pub ends : (i : Instr) → FitsOperands i → Gives image (code_end is) (encode_of i) → ⊥

-- whether a byte stands behind the cut, with which no instruction begins
abbrev pub is_trapped : List (ℕ × ℕ) → List Instr → Bool
is_trapped image is = is_some (byte_at image (code_end is))

-- an image has a byte at an address outside $4000 to $4FFF, or behind a gap
abbrev pub IsOutside : List (ℕ × ℕ) → ℕ → Type 0
IsOutside image at = IsSome (byte_at image at)
    × ((at < code_start)
    ⊎ ((code_limit ≤ at) ⊎ ((gap : ℕ) × ((code_start ≤ gap) × (gap < at) × (byte_at image gap ≡ None)))))

-- all bytes of an image stand from $4000 on, one at least, without a gap, and end before $5000
pub record IsWhole (image : List (ℕ × ℕ)) : Type 0 where
  pub begins : IsSome (byte_at image code_start)
  pub inside : (at : ℕ) → IsOutside image at → ⊥

-- an image's bytes stand from $4000 up to an address, and nowhere else
pub record IsRun (image : List (ℕ × ℕ)) (end : ℕ) : Type 0 where
  pub begins : code_start < end
  pub within : end ≤ code_limit
  pub inside : (at : ℕ) → code_start ≤ at → at < end → IsSome (byte_at image at)
  pub outside : (at : ℕ) → (at < code_start) ⊎ (end ≤ at) → byte_at image at ≡ None

-- the first fault of an image
abbrev pub IsFault : List (ℕ × ℕ) → HandlerFault → Type 0
IsFault image Empty = byte_at image code_start ≡ None
IsFault image (Outside at) =
    IsSome (byte_at image code_start) × IsOutside image at × ((q : ℕ) → IsOutside image q → at ≤ q)
IsFault image Memory = ⊥
IsFault image fault =
    IsWhole image × ((is : List Instr) × (IsCut image is × IsFirstFault is (is_trapped image is) fault))

-- an image is an accepted handler, and the greatest number of instructions on a path
pub record IsHandler (image : List (ℕ × ℕ)) (instrs : ℕ) : Type 0 where
  pub whole : IsWhole image
  pub code : List Instr
  pub cut : IsCut image code
  pub ends : is_trapped image code ≡ false
  pub accepted : IsAccepted code instrs

-- Where an image is an accepted handler, no image with the same bytes has a fault.
abbrev pub HandlersHaveNoFault : Type 0
HandlersHaveNoFault = (image other : List (ℕ × ℕ)) (instrs : ℕ) (fault : HandlerFault)
    → ((at : ℕ) → byte_at image at ≡ byte_at other at) → IsHandler image instrs → IsFault other fault → ⊥

-- An image has one first fault.
abbrev pub FaultsAreOne : Type 0
FaultsAreOne = (image : List (ℕ × ℕ)) (f g : HandlerFault) → IsFault image f → IsFault image g → f ≡ g

-- Handlers with the same bytes have one greatest number of instructions.
abbrev pub CountsAreOne : Type 0
CountsAreOne = (image other : List (ℕ × ℕ)) (m n : ℕ) → ((at : ℕ) → byte_at image at ≡ byte_at other at)
    → IsHandler image m → IsHandler other n → m ≡ n

-- Each image is an accepted handler or has a fault.
abbrev pub EachImageIsJudged : Type 0
EachImageIsJudged =
    (image : List (ℕ × ℕ)) → ((instrs : ℕ) × IsHandler image instrs) ⊎ ((fault : HandlerFault) × IsFault image fault)
