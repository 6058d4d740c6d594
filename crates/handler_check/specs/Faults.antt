-- The first fault of code, over its cut, and whether bytes stand behind the cut.
-- Beside the promise.
use Rattle.std.specs.Prelude.{◌≡◌, ℕ, ◌<◌, ◌≤◌, ◌⊎◌, Bool, true, false, List}
use Rattle.cpu12_isa.specs.{declared.instr.Instr.Instr, Regions.is_free}
use Rattle.handler_check.specs.{declared.faults.HandlerFault.HandlerFault, Cut.code_end, Cut.IsAt}
use Rattle.handler_check.specs.declared.faults.HandlerFault.TheVariants.{Empty, Outside, Dead, Trap, Refused, NotFree}
use Rattle.handler_check.specs.declared.faults.HandlerFault.TheVariants.{Backward, Target, Height, Falls, Memory}
use Rattle.handler_check.specs.Paths.{is_allowed, IsIn, written_by, branches_to, falls_to, GoesForward, FitsHeight}
use Rattle.handler_check.specs.Paths.{Path}

-- a first byte of an instruction; the byte at which the cut ends counts as one too
abbrev pub IsFirst : List Instr → Bool → ℕ → Type 0
IsFirst is trapped at = ((i : Instr) × IsAt is at i) ⊎ ((trapped ≡ true) × (at ≡ code_end is))

-- two paths lead to a place with different heights
abbrev pub Meets : List Instr → ℕ → Type 0
Meets is at = (m : ℕ) × (n : ℕ) × (g : ℕ) × (h : ℕ) × (Path is m at g × Path is n at h × (g ≡ h → ⊥))

-- where a fault of code applies
abbrev pub Applies : List Instr → Bool → HandlerFault → Type 0
Applies is trapped (Dead at) = IsFirst is trapped at × ((n h : ℕ) → Path is n at h → ⊥)
Applies is trapped (Trap at) = (trapped ≡ true) × (at ≡ code_end is)
Applies is trapped (Refused at) = (i : Instr) × (IsAt is at i × (is_allowed i ≡ false))
Applies is trapped (NotFree at to) = (i : Instr) × (IsAt is at i × IsIn (written_by i) to × (is_free to ≡ false))
Applies is trapped (Backward at) = (i : Instr) × (IsAt is at i × (GoesForward i → ⊥))
Applies is trapped (Target at to) =
    (i : Instr) × (IsAt is at i × IsIn (branches_to at i) to × (IsFirst is trapped to → ⊥))
Applies is trapped (Height at) =
    (i : Instr) × (IsAt is at i × (Meets is at ⊎ ((n : ℕ) × (h : ℕ) × (Path is n at h × (FitsHeight i h → ⊥)))))
Applies is trapped (Falls at) =
    (i : Instr) × (to : ℕ) × (IsAt is at i × IsIn (falls_to at i) to × (IsFirst is trapped to → ⊥))
Applies is trapped fault = ⊥

abbrev pub place_of : HandlerFault → ℕ
place_of Empty = 0
place_of (Outside at) = at
place_of (Dead at) = at
place_of (Trap at) = at
place_of (Refused at) = at
place_of (NotFree at to) = at
place_of (Backward at) = at
place_of (Target at to) = at
place_of (Height at) = at
place_of (Falls at) = at
place_of Memory = 0

-- the order of the faults at one place
abbrev pub rank : HandlerFault → ℕ
rank Empty = 0
rank (Outside at) = 0
rank (Dead at) = 1
rank (Trap at) = 2
rank (Refused at) = 3
rank (NotFree at to) = 4
rank (Backward at) = 5
rank (Target at to) = 6
rank (Height at) = 7
rank (Falls at) = 8
rank Memory = 9

-- it applies, and each that applies comes at a place further on, or at the same place and no earlier in order
pub record IsFirstFault (is : List Instr) (trapped : Bool) (f : HandlerFault) : Type 0 where
  pub applies : Applies is trapped f
  pub first : (g : HandlerFault) → Applies is trapped g
      → (place_of f < place_of g) ⊎ ((place_of f ≡ place_of g) × (rank f ≤ rank g))
