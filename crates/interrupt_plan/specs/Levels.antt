-- Levels, what a text of them spells, and its first fault.
-- Beside the promise.
use Rattle.std.specs.Prelude.{◌≡◌, ◌≤◌, ℕ, List, [], ◌∷◌, length, map, All, Some}
use Rattle.std.specs.List.Sorted.{IsNonDecreasing}
use Rattle.cpu12_isa.specs.declared.instr.Write.{Write}
use Rattle.trace_io.specs.FirstRows.{Fields}
use Rattle.interrupt_plan.specs.declared.{levels.Level.Level, PlanFault.PlanFault}
use Rattle.interrupt_plan.specs.Rows.{Ascend, NoLaterThan, count_of, SpellsText, HasFirstFault}

-- a level of one of so many fast samples, at most eight times interrupted, or of none
pub record IsGoodLevel (fast : ℕ) (l : Level) : Type 0 where
  pub sample_from : 1 ≤ l.sample
  pub sample_to : l.sample ≤ 999999999
  pub moment_to : l.moment ≤ 999999999
  pub fast_to : l.fast ≤ fast
  pub few : length l.inner.items ≤ 8
  pub inner_to : All (λ m. m ≤ 999999999) l.inner.items
  pub inner_rise : IsNonDecreasing l.inner.items
  pub none : l.fast ≡ 0 → l.inner.items ≡ []

-- the numbers of a row that tells it
abbrev pub numbers_of : Level → List ℕ
numbers_of l = l.sample ∷ l.moment ∷ l.fast ∷ l.inner.items

-- by sample and then by moment, a does not come after b
abbrev pub LevelNotAfter : Level → Level → Type 0
LevelNotAfter a b = NoLaterThan (a.sample, a.moment) (b.sample, b.moment)

pub record AreGoodLevels (fast : ℕ) (levels : List Level) : Type 0 where
  pub few : length levels ≤ 10000
  pub each : All (IsGoodLevel fast) levels
  pub ascends : Ascend LevelNotAfter levels

-- the fields are the numbers of a good level
pub record SpellsLevel (fast : ℕ) (fields : Fields) (l : Level) : Type 0 where
  pub numbers : map count_of fields ≡ map Some (numbers_of l)
  pub good : IsGoodLevel fast l

-- a level writes nothing
abbrev pub no_writes : Level → List Write
no_writes l = []

-- the text spells these levels, which are good
abbrev pub SpellsLevels : ℕ → List ℕ → List Level → Type 0
SpellsLevels fast = SpellsText (SpellsLevel fast) (AreGoodLevels fast)

-- the text has this fault first
abbrev pub LevelsHaveFault : ℕ → List ℕ → PlanFault → Type 0
LevelsHaveFault fast = HasFirstFault (SpellsLevel fast) no_writes LevelNotAfter
