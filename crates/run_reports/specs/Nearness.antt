-- Answers within the errors of a certificate.
-- Reached by the promise.
use Rattle.std.specs.Prelude.{◌≡◌, ℕ, ◌+◌, ◌-◌, ◌≤◌, List, map, take, Some, slice_get, slice_index}
use Rattle.fz_num.specs.{declared.dec.Dec.Dec, Decimals.distance, Fractions.IsClose}
use Rattle.fuzzy_meaning.specs.declared.{block.Block.Block, block.Output.Output}
use Rattle.fuzzy_meaning.specs.{Blocks.IsValid, Blocks.output_at, Meaning.exact_answer}
use Rattle.byte_scaling.specs.{Cells.value_in, Widths.parts}
use Rattle.box_tree.specs.declared.cert.Cert.{Cert}
use Rattle.cert_check.specs.Acceptance.{IsAccepted}
use Rattle.firmware_code.specs.declared.firmware.Firmware.{Firmware}
use Rattle.trace_io.specs.{Traces.Spells, declared.sample.Sample.Sample}
use Rattle.run_law.specs.Forms.{RowSeen}
use Rattle.alone_runs.specs.Answering.{AnswerBlock}
use Rattle.trace_io.specs.Traces.{input_bytes}

-- the numbers of the inputs
abbrev pub numbers_of : List Sample → List (List Dec)
numbers_of samples = map (λ s. s.values) samples

-- for each output the number that its answer stands for, in h parts to a byte, is within the output's error, in
-- millionths of its range, of the exact answer to the samples
abbrev pub IsWithinErrors : ℕ → Block → List ℕ → List (List Dec) → List ℕ → Type 0
IsWithinErrors h b errors samples answers = (o : ℕ) (x : Output) (e : ℕ) → 1 ≤ o → output_at b o ≡ Some x
    → slice_get errors (o - 1) ≡ Some e
    → IsClose (distance x.lo x.hi) e (value_in h x (slice_index answers (o - 1))) (exact_answer b o samples)

-- each row answers so to the samples up to its own
abbrev pub AreWithinErrors : ℕ → Block → List ℕ → List Sample → List (RowSeen (List ℕ)) → Type 0
AreWithinErrors h b errors samples rows = (k : ℕ) (row : RowSeen (List ℕ)) → slice_get rows k ≡ Some row
    → IsWithinErrors h b errors (take (k + 1) (numbers_of samples)) row.answers

-- Rows that are a block's answers to the samples of a trace are within the errors of each certificate that is accepted
-- for the block.
abbrev pub AnswersAreWithinErrors : Type 0
AnswersAreWithinErrors = (b : Block) (f : Firmware) (flags : ℕ) (cert : Cert) (errors trace : List ℕ)
    (samples : List Sample) (rows : List (RowSeen (List ℕ)))
    → IsValid b → Spells b.inputs trace samples → AnswerBlock b f flags (map input_bytes samples) rows
    → IsAccepted b (parts f.width) cert errors
    → AreWithinErrors (parts f.width) b errors samples rows
