-- A text has one list of first rows. It is a trace or has a first fault, and of these it has one and only one.
-- Beside the promise.
use Rattle.std.specs.Prelude.{◌≡◌, ◌⊎◌, ℕ, List}
use Rattle.fuzzy_meaning.specs.declared.block.Input.{Input}
use Rattle.trace_io.specs.FirstRows.{AreFirstRows, Fields}
use Rattle.trace_io.specs.Traces.{HasFault, Spells}
use Rattle.trace_io.specs.declared.{sample.Sample.Sample, sample.TraceFault.TraceFault}

-- A text has one list of first rows.
abbrev pub FirstRowsAreOne : Type 0
FirstRowsAreOne =
    (text : List ℕ) (rows others : List Fields) → AreFirstRows text rows → AreFirstRows text others → others ≡ rows

-- Each text has first rows.
abbrev pub EachTextHasFirstRows : Type 0
EachTextHasFirstRows = (text : List ℕ) → (rows : List Fields) × AreFirstRows text rows

-- A text that spells samples has no fault.
abbrev pub SpelledTracesHaveNoFault : Type 0
SpelledTracesHaveNoFault = (inputs : List Input) (text : List ℕ) (samples : List Sample) (fault : TraceFault)
    → Spells inputs text samples → HasFault inputs text fault → ⊥

-- A text has one first fault.
abbrev pub FirstFaultsAreOne : Type 0
FirstFaultsAreOne = (inputs : List Input) (text : List ℕ) (fault other : TraceFault) → HasFault inputs text fault
    → HasFault inputs text other → fault ≡ other

-- Each text spells samples or has a first fault.
abbrev pub EachTextIsJudged : Type 0
EachTextIsJudged = (inputs : List Input) (text : List ℕ)
    → ((samples : List Sample) × Spells inputs text samples) ⊎ ((fault : TraceFault) × HasFault inputs text fault)
