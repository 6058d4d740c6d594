-- The contents of the files of a run, accepted or refused one by one.
-- Beside the promise.
use Rattle.std.specs.Prelude.{ℕ, List, length, map}
use Rattle.fuzzy_meaning.specs.declared.block.Block.{Block}
use Rattle.box_tree.specs.declared.cert.CertFormat.{CertFormat}
use Rattle.interrupt_plan.specs.{Plans.HasFault as PlanHasFault, Plans.Spells as SpellsPlan}
use Rattle.interrupt_plan.specs.declared.{PlanFault.PlanFault, Request.Request}
use Rattle.trace_io.specs.Traces.{HasFault as TraceHasFault, Spells as SpellsTrace, input_bytes}
use Rattle.trace_io.specs.declared.sample.Sample.{Sample}
use Rattle.command_parts.specs.{Certs.cert_in}
use Rattle.command_parts.specs.Readings.{Gives, IsExact, Reading, Stage, last, ◌then◌}
use Rattle.run_reports.specs.declared.files.InputFiles.{InputFiles}
use Rattle.fz_status.specs.Refusals.{Refusals}
use Rattle.fz_status.specs.declared.status.Status.TheVariants as status

abbrev pub trace_refusals : Block → List ℕ → Refusals
trace_refusals block text (status.Trace f) = TraceHasFault block.inputs text f
trace_refusals block text s = ⊥

-- the samples of a trace, which are seen by their number and their bytes
abbrev pub trace_in : Block → List ℕ → Stage (List Sample)
trace_in block text = record {
  gives = SpellsTrace block.inputs text;
  Seen = ℕ × List (List ℕ);
  seen = λ samples. (length samples, map input_bytes samples);
  refuses = trace_refusals block text;
}

abbrev pub TracesAreExact : Type 0
TracesAreExact = (block : Block) (text : List ℕ) → IsExact (trace_in block text)

abbrev pub row_refusals : (PlanFault → Type 0) → Refusals
row_refusals Has (status.Plan f) = Has f
row_refusals Has s = ⊥

-- the entries of a text in rows
abbrev pub rows_in : {E : Type 0} → (List E → Type 0) → (PlanFault → Type 0) → Stage (List E)
rows_in {E} Spells Has = record { gives = Spells; Seen = List E; seen = λ es. es; refuses = row_refusals Has }

-- the requests of a plan
abbrev pub plan_in : List ℕ → Stage (List Request)
plan_in text = rows_in (SpellsPlan text) (PlanHasFault text)

abbrev pub PlansAreExact : Type 0
PlansAreExact = (text : List ℕ) → IsExact (plan_in text)

-- CERT, TRACE and PLAN
abbrev pub inputs_reading : CertFormat → Block → InputFiles → Reading (List ℕ × (List Sample × List Request))
inputs_reading format block files =
    cert_in format block files.cert then λ errors.
    trace_in block files.trace then λ seen.
    last (plan_in files.plan)

-- they are accepted, and give this
abbrev pub AcceptsInputs : CertFormat → Block → InputFiles → List ℕ → List Sample → List Request → Type 0
AcceptsInputs format block files errors samples plan =
    Gives (inputs_reading format block files) (errors, (samples, plan))
