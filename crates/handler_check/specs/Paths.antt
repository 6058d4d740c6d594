-- What the instructions of a handler may be, where they lead, and the paths through them.
-- Beside the promise.
use Rattle.std.specs.Prelude.{◌≡◌, ℕ, zero, suc, ◌+◌, ◌-◌, ◌<◌, ◌⊎◌, nat_lt, Bool, if◌then◌else◌, Option, Some, None}
use Rattle.std.specs.Prelude.{is_some, MatchOption, List, [], ◌∷◌, ◌++◌}
use Rattle.cpu12_isa.specs.declared.instr.Instr.{Instr}
use Rattle.cpu12_isa.specs.declared.instr.Instr.TheVariants.{LdaaImmediate, LdaaExtended, LdabImmediate}
use Rattle.cpu12_isa.specs.declared.instr.Instr.TheVariants.{LdabExtended, LdxImmediate, LdyImmediate, Coma}
use Rattle.cpu12_isa.specs.declared.instr.Instr.TheVariants.{CpxImmediate, Orcc, TransferXD, TransferYD, Ediv, Nop}
use Rattle.cpu12_isa.specs.declared.instr.Instr.TheVariants.{AddaImmediate, AddaExtended, AddbImmediate}
use Rattle.cpu12_isa.specs.declared.instr.Instr.TheVariants.{AddbExtended, AddbPostIncrementX, AdcaImmediate}
use Rattle.cpu12_isa.specs.declared.instr.Instr.TheVariants.{SubaImmediate, SubaExtended, CmpaImmediate}
use Rattle.cpu12_isa.specs.declared.instr.Instr.TheVariants.{CmpaExtended, AndaImmediate, AndaExtended}
use Rattle.cpu12_isa.specs.declared.instr.Instr.TheVariants.{OraaImmediate, OraaExtended, Inx, Dex, Iny, Dey}
use Rattle.cpu12_isa.specs.declared.instr.Instr.TheVariants.{StaaExtended, StabExtended, ClrExtended, IncExtended}
use Rattle.cpu12_isa.specs.declared.instr.Instr.TheVariants.{DecExtended, MovbImmediate, MovbExtended, Beq, Bne, Bcc}
use Rattle.cpu12_isa.specs.declared.instr.Instr.TheVariants.{Bcs, Bra, Psha, Pula, Rti}
use Rattle.handler_check.specs.{declared.kinds.Kind.Kind, Cut.code_start, Cut.size_of, Cut.IsAt}
use Rattle.handler_check.specs.declared.kinds.Kind.TheVariants.{Plain, Writes, Branches, Jumps, Pushes, Pulls, Returns}

-- What a handler may have, by what it does beside registers and flags. It may not have what sets SP, leads elsewhere,
-- opens I or changes X, and what takes many steps.
abbrev pub kind_of : Instr → Option Kind
kind_of (LdaaImmediate v) = Some Plain
kind_of (LdaaExtended at) = Some Plain
kind_of (LdabImmediate v) = Some Plain
kind_of (LdabExtended at) = Some Plain
kind_of (LdxImmediate v) = Some Plain
kind_of (LdyImmediate v) = Some Plain
kind_of Coma = Some Plain
kind_of (CpxImmediate v) = Some Plain
kind_of (Orcc v) = Some Plain
kind_of TransferXD = Some Plain
kind_of TransferYD = Some Plain
kind_of Ediv = Some Plain
kind_of Nop = Some Plain
kind_of (AddaImmediate v) = Some Plain
kind_of (AddaExtended at) = Some Plain
kind_of (AddbImmediate v) = Some Plain
kind_of (AddbExtended at) = Some Plain
kind_of AddbPostIncrementX = Some Plain
kind_of (AdcaImmediate v) = Some Plain
kind_of (SubaImmediate v) = Some Plain
kind_of (SubaExtended at) = Some Plain
kind_of (CmpaImmediate v) = Some Plain
kind_of (CmpaExtended at) = Some Plain
kind_of (AndaImmediate v) = Some Plain
kind_of (AndaExtended at) = Some Plain
kind_of (OraaImmediate v) = Some Plain
kind_of (OraaExtended at) = Some Plain
kind_of Inx = Some Plain
kind_of Dex = Some Plain
kind_of Iny = Some Plain
kind_of Dey = Some Plain
kind_of (StaaExtended at) = Some (Writes at)
kind_of (StabExtended at) = Some (Writes at)
kind_of (ClrExtended at) = Some (Writes at)
kind_of (IncExtended at) = Some (Writes at)
kind_of (DecExtended at) = Some (Writes at)
kind_of (MovbImmediate v at) = Some (Writes at)
kind_of (MovbExtended source at) = Some (Writes at)
kind_of (Beq to) = Some (Branches to)
kind_of (Bne to) = Some (Branches to)
kind_of (Bcc to) = Some (Branches to)
kind_of (Bcs to) = Some (Branches to)
kind_of (Bra to) = Some (Jumps to)
kind_of Psha = Some Pushes
kind_of Pula = Some Pulls
kind_of Rti = Some Returns
kind_of i = None

abbrev pub is_allowed : Instr → Bool
is_allowed i = is_some (kind_of i)

-- what a kind gives, and what there is for an instruction that is not allowed
abbrev pub given : {A : Type 0} → A → (Kind → A) → Option Kind → A
given none of None = none
given none of (Some kind) = of kind

abbrev pub IsIn : List ℕ → ℕ → Type 0
IsIn [] x = ⊥
IsIn (y ∷ ys) x = (x ≡ y) ⊎ IsIn ys x

-- what it writes, the stack of PSHA aside
abbrev pub writes : Kind → List ℕ
writes Plain = []
writes (Writes at) = at ∷ []
writes (Branches to) = []
writes (Jumps to) = []
writes Pushes = []
writes Pulls = []
writes Returns = []

abbrev pub written_by : Instr → List ℕ
written_by i = given [] writes (kind_of i)

-- the target of a branch with an offset that is not negative
abbrev pub target : ℕ → ℕ → List ℕ
target at to = if nat_lt to 128 then (at + 2 + to) ∷ [] else []

-- where an instruction branches to forward
abbrev pub targets : ℕ → Kind → List ℕ
targets at Plain = []
targets at (Writes to) = []
targets at (Branches to) = target at to
targets at (Jumps to) = target at to
targets at Pushes = []
targets at Pulls = []
targets at Returns = []

abbrev pub branches_to : ℕ → Instr → List ℕ
branches_to at i = given [] (targets at) (kind_of i)

-- where it goes on without a branch, with the place behind it
abbrev pub falls : ℕ → Kind → List ℕ
falls next Plain = next ∷ []
falls next (Writes at) = next ∷ []
falls next (Branches to) = next ∷ []
falls next (Jumps to) = []
falls next Pushes = next ∷ []
falls next Pulls = next ∷ []
falls next Returns = []

abbrev pub falls_to : ℕ → Instr → List ℕ
falls_to at i = given [] (falls (at + size_of i)) (kind_of i)

-- the places to which an instruction leads forward
abbrev pub leads : ℕ → Instr → List ℕ
leads at i = falls_to at i ++ branches_to at i

abbrev pub IsForward : Kind → Type 0
IsForward Plain = Unit {0}
IsForward (Writes at) = Unit {0}
IsForward (Branches to) = to < 128
IsForward (Jumps to) = to < 128
IsForward Pushes = Unit {0}
IsForward Pulls = Unit {0}
IsForward Returns = Unit {0}

abbrev pub GoesForward : Instr → Type 0
GoesForward i = MatchOption (kind_of i) ⊥ IsForward

-- the height behind an instruction, and at which heights it may stand
abbrev pub height_behind : Kind → ℕ → ℕ
height_behind Plain h = h
height_behind (Writes at) h = h
height_behind (Branches to) h = h
height_behind (Jumps to) h = h
height_behind Pushes h = h + 1
height_behind Pulls h = h - 1
height_behind Returns h = h

abbrev pub height_after : Instr → ℕ → ℕ
height_after i h = given h (λ kind. height_behind kind h) (kind_of i)

abbrev pub Fits : Kind → ℕ → Type 0
Fits Plain h = Unit {0}
Fits (Writes at) h = Unit {0}
Fits (Branches to) h = Unit {0}
Fits (Jumps to) h = Unit {0}
Fits Pushes h = h < 15
Fits Pulls h = 0 < h
Fits Returns h = h ≡ 0

abbrev pub FitsHeight : Instr → ℕ → Type 0
FitsHeight i h = MatchOption (kind_of i) ⊥ (λ kind. Fits kind h)

-- n instructions, each further on than the one before, lead from $4000 to a place, and leave h bytes pushed
abbrev pub Path : List Instr → ℕ → ℕ → ℕ → Type 0
Path is zero at h = (at ≡ code_start) × (h ≡ 0)
Path is (suc n) at h =
    (from : ℕ) × (g : ℕ) × (i : Instr) × (Path is n from g × IsAt is from i × IsIn (leads from i) at
    × (h ≡ height_after i g))
