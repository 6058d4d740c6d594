-- What is known of instructions that were judged, place by place.
-- Beside the promise.
use Rattle.std.specs.Prelude.{◌≡◌, ℕ, zero, suc, ◌+◌, ◌<◌, ◌≤◌, ◌⊎◌, nat_lt, Bool, true, false, Option, Some, List}
use Rattle.std.specs.Prelude.{length, slice_get}
use Rattle.cpu12_isa.specs.{declared.instr.Instr.Instr, declared.instr.Instr.TheVariants.Rti, Regions.is_free}
use Rattle.handler_check.specs.declared.{faults.HandlerFault.HandlerFault, path_summaries.PathSummary.PathSummary}
use Rattle.handler_check.specs.Cut.{code_start, code_limit, code_end, IsAt}
use Rattle.handler_check.specs.Paths.{is_allowed, IsIn, written_by, branches_to, falls_to, leads, GoesForward}
use Rattle.handler_check.specs.Paths.{height_after, FitsHeight, Path}
use Rattle.handler_check.specs.{Faults.IsFirst, Faults.Applies, Faults.place_of, Faults.rank, PathSummaries.IsSummary}

-- a table that tells of each place from $4000 on whether an instruction begins there
pub record AreFirsts (is : List Instr) (trapped : Bool) (firsts : List Bool) : Type 0 where
  pub ends : code_end is ≤ code_start + length firsts
  pub limit : code_start + length firsts ≤ code_limit
  pub trap : trapped ≡ nat_lt (code_end is) (code_start + length firsts)
  pub only : (k : ℕ) → slice_get firsts k ≡ Some true → IsFirst is trapped (code_start + k)
  pub all : (k : ℕ) → IsFirst is trapped (code_start + k) → slice_get firsts k ≡ Some true

-- no fault that comes before this rank applies to the instruction at a place with this summary
pub record Passes (is : List Instr) (trapped : Bool) (at : ℕ) (i : Instr) (summary : PathSummary) (r : ℕ) : Type 0 where
  pub allowed : 3 < r → is_allowed i ≡ true
  pub free : 4 < r → (to : ℕ) → IsIn (written_by i) to → is_free to ≡ true
  pub forward : 5 < r → GoesForward i
  pub branches : 6 < r → (to : ℕ) → IsIn (branches_to at i) to → IsFirst is trapped to
  pub meets : 7 < r → summary.meets ≡ false
  pub height : 7 < r → FitsHeight i summary.height
  pub falls : 8 < r → (to : ℕ) → IsIn (falls_to at i) to → IsFirst is trapped to

-- a fault applies to the instruction at a place, and none that comes before it
pub record Fails (is : List Instr) (trapped : Bool) (at : ℕ) (i : Instr) (summary : PathSummary)
    (f : HandlerFault) : Type 0 where
  pub applies : Applies is trapped f
  pub place : place_of f ≡ at
  pub passes : Passes is trapped at i summary (rank f)

-- a path whose last step comes from a place below this one
abbrev pub PathBelow : List Instr → ℕ → ℕ → ℕ → ℕ → Type 0
PathBelow is below zero at h = Path is zero at h
PathBelow is below (suc n) at h =
    (from : ℕ) × (g : ℕ) × (i : Instr) × (Path is n from g × IsAt is from i × IsIn (leads from i) at
    × (h ≡ height_after i g) × (from < below))

-- a place has a summary, which tells of a path with this height and number of instructions, unless paths meet there
pub record Has (summaries : ℕ → Option PathSummary) (at h n : ℕ) : Type 0 where
  pub summary : PathSummary
  pub is : summaries at ≡ Some summary
  pub height : summary.meets ≡ false → h ≡ summary.height
  pub few : summary.meets ≡ false → n ≤ summary.most

-- an instruction to which no fault applies, and that ends no path that is too long
pub record Judged (is : List Instr) (trapped : Bool) (best : ℕ) (summaries : ℕ → Option PathSummary) (at : ℕ)
    (i : Instr) : Type 0 where
  pub summary : PathSummary
  pub is_marked : summaries at ≡ Some summary
  pub passes : Passes is trapped at i summary 9
  pub few : i ≡ Rti → suc summary.most ≤ best

-- all instructions below a place are judged
pub record AreJudged (is : List Instr) (trapped : Bool) (below best : ℕ) (summaries : ℕ → Option PathSummary) : Type 0
  where
    pub tell : (at : ℕ) (summary : PathSummary) → summaries at ≡ Some summary → IsSummary is at summary
    pub complete : (n at h : ℕ) → PathBelow is below n at h → Has summaries at h n
    pub each : (at : ℕ) (i : Instr) → IsAt is at i → at < below → Judged is trapped best summaries at i
    pub longest : (best ≡ 0) ⊎ ((n : ℕ) × (at : ℕ) × (h : ℕ) × (Path is n at h × IsAt is at Rti × (suc n ≡ best)))
