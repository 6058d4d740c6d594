-- Answers of a firmware with watched tables within the errors of a certificate.
-- Beside the promise.
use Rattle.std.specs.Prelude.{◌≡◌, ◌⊎◌, ℕ, ◌+◌, ◌<◌, List, map, take, Some, slice_get}
use Rattle.fuzzy_meaning.specs.{declared.block.Block.Block, Blocks.IsValid}
use Rattle.box_tree.specs.declared.cert.Cert.{Cert}
use Rattle.cert_check.specs.{Acceptance.IsAccepted, Laws.HasDefaults}
use Rattle.firmware_code.specs.declared.firmware.Firmware.{Firmware}
use Rattle.interrupt_plan.specs.declared.upsets.Upset.{Upset}
use Rattle.trace_io.specs.{Traces.Spells, declared.sample.Sample.Sample}
use Rattle.trace_io.specs.Traces.{input_bytes}
use Rattle.watched_runs.specs.{Samples.with_upsets, Rows.FaultSeen, Answering.AreWatchedRows}
use Rattle.run_reports.specs.Nearness.{numbers_of, IsWithinErrors}

-- FAULT was 0 in each row before row k, counted from 0
abbrev pub NoFaultBefore : ℕ → List FaultSeen → Type 0
NoFaultBefore k rows = (j : ℕ) (r : FaultSeen) → j < k → slice_get rows j ≡ Some r → r.fault ≡ 0

-- Each row in which FAULT was 0 answers within the errors to the samples up to its own, where no output has NC, or
-- where FAULT was 0 in each row before.
abbrev pub FaultlessAreWithinErrors : Block → List ℕ → List Sample → List FaultSeen → Type 0
FaultlessAreWithinErrors b errors samples rows = (k : ℕ) (r : FaultSeen) → slice_get rows k ≡ Some r → r.fault ≡ 0
    → HasDefaults b ⊎ NoFaultBefore k rows
    → IsWithinErrors 1 b errors (take (k + 1) (numbers_of samples)) r.row.answers

-- So do rows that are those of a trace's samples with upsets, for each certificate that is accepted for the block.
abbrev pub FaultlessAnswersAreNear : Type 0
FaultlessAnswersAreNear = (b : Block) (f : Firmware) (cert : Cert) (errors trace : List ℕ) (samples : List Sample)
    (upsets : List Upset) (rows : List FaultSeen)
    → IsValid b → Spells b.inputs trace samples
    → AreWatchedRows b f (λ o. 0) (with_upsets upsets (map input_bytes samples)) rows
    → IsAccepted b 1 cert errors → FaultlessAreWithinErrors b errors samples rows
