-- What is known of the paths to the places of a handler.
-- Beside the promise.
use Rattle.std.specs.Prelude.{◌≡◌, ℕ, ◌-◌, ◌≤◌, ◌==◌, ◌||◌, not, nat_le, nat_lt, true, false, if◌then◌else◌, Option}
use Rattle.std.specs.Prelude.{Some, None, unwrap_or, List, [], ◌∷◌, slice_get}
use Rattle.cpu12_isa.specs.declared.instr.Instr.{Instr}
use Rattle.handler_check.specs.declared.path_summaries.PathSummary.{PathSummary}
use Rattle.handler_check.specs.{Cut.code_start, Paths.Path, Faults.Meets}

-- what a table of the places from $4000 on has for an address
abbrev pub summary_at : List (Option PathSummary) → ℕ → Option PathSummary
summary_at summaries at = if nat_le code_start at then unwrap_or (slice_get summaries (at - code_start)) None else None

-- the summary of the paths to a place, and one more
abbrev pub join : Option PathSummary → PathSummary → PathSummary
join None summary = summary
join (Some old) summary =
    if old.meets || not (old.height == summary.height) then record old { meets = true }
    else (if nat_lt old.most summary.most then summary else old)

-- the summaries of all places, where one more path leads to one
abbrev pub led : (ℕ → Option PathSummary) → ℕ → PathSummary → ℕ → Option PathSummary
led summaries to summary at = if at == to then Some (join (summaries to) summary) else summaries at

-- where one more leads to each of these
abbrev pub led_all : (ℕ → Option PathSummary) → List ℕ → PathSummary → ℕ → Option PathSummary
led_all summaries [] summary = summaries
led_all summaries (to ∷ tos) summary = led_all (led summaries to summary) tos summary

abbrev pub list_of : Option ℕ → List ℕ
list_of None = []
list_of (Some at) = at ∷ []

-- A summary tells of the paths to a place that there is one; where they meet, that two have different heights; else the
-- height and the number of instructions of one.
pub record IsSummary (is : List Instr) (at : ℕ) (summary : PathSummary) : Type 0 where
  pub one : summary.meets ≡ false → Path is summary.most at summary.height
  pub two : summary.meets ≡ true → Meets is at
  pub some : (n : ℕ) × (h : ℕ) × Path is n at h
  pub low : summary.height ≤ 15
