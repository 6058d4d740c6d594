-- Good plans, what a plan's text spells, and its first fault.
-- Reached by the promise.
use Rattle.std.specs.Prelude.{◌≡◌, ◌≤◌, ℕ, true, List, length, All}
use Rattle.cpu12_isa.specs.{Regions.is_free, declared.instr.Write.Write}
use Rattle.interrupt_plan.specs.{declared.Request.Request, Rows.NoLaterThan, Rows.Ascend, Rows.SpellsRow}
use Rattle.interrupt_plan.specs.{Rows.SpellsText, Rows.HasFirstFault}
use Rattle.trace_io.specs.FirstRows.{Fields}
use Rattle.interrupt_plan.specs.declared.{PlanFault.PlanFault}

-- a request writes at most eight bytes, each of them free
pub record IsGoodRequest (r : Request) : Type 0 where
  pub sample_from : 1 ≤ r.sample
  pub sample_to : r.sample ≤ 999999999
  pub moment_to : r.moment ≤ 999999999
  pub few_writes : length r.writes ≤ 8
  pub free : All (λ w. is_free w.at ≡ true) r.writes

-- by sample and then by moment, a does not come after b
abbrev pub NotAfter : Request → Request → Type 0
NotAfter a b = NoLaterThan (a.sample, a.moment) (b.sample, b.moment)

abbrev pub Ascends : List Request → Type 0
Ascends = Ascend NotAfter

pub record IsGood (plan : List Request) : Type 0 where
  pub few : length plan ≤ 10000
  pub requests : All IsGoodRequest plan
  pub ascends : Ascends plan

-- the fields spell the request: its sample, from 1, its moment, and at most eight writes
pub record SpellsRequest (fields : Fields) (r : Request) : Type 0 where
  pub row : SpellsRow fields r.sample r.moment r.writes
  pub some : 1 ≤ r.sample

abbrev pub writes_by : Request → List Write
writes_by r = r.writes

-- the text spells this plan, which is good
abbrev pub Spells : List ℕ → List Request → Type 0
Spells = SpellsText SpellsRequest IsGood

-- the text has this fault first
abbrev pub HasFault : List ℕ → PlanFault → Type 0
HasFault = HasFirstFault SpellsRequest writes_by NotAfter
