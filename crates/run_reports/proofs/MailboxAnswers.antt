-- A block's answers to samples that are posted.
use Rattle.std.proofs.Common.{◌≡◌, ◌<◌, ℕ, ◌-◌, List, [], ◌∷◌, length, refl, ap, ap₂, ◌∙◌, subst, arith}
use Rattle.std.specs.Prelude.{All, map, slice_index_or}
use Rattle.std.proofs.lemmas.List.{get_or-map, length-map}
use Rattle.std.proofs.lemmas.List.Elements.{All-cons, All-get_or, All-head, All-tail}
use Rattle.fuzzy_meaning.specs.{declared.block.Block.Block, Blocks.AreInputs}
use Rattle.byte_scaling.specs.Cells as cells
use Rattle.cert_check.specs.Laws.{AcceptedAnswersAreNear}
use Rattle.firmware_code.specs.Uninterrupted.{AreAnswersOf}
use Rattle.trace_io.specs.{Traces.Fields, Traces.SpellSamples, declared.sample.Sample.Sample}
use Rattle.trace_io.specs.Traces.{input_bytes}
use Rattle.alone_runs.specs.Rows.{bytes_of}
use Rattle.run_reports.specs.{Nearness.numbers_of, Posted.IsOneOf, Posted.MailboxAnswersAreNear, Posted.numbers_at}
use Rattle.run_reports.proofs.NearRows.{are_inputs, bytes_read, near_answers}

module _ (b : Block) (rows : List Fields) (samples : List Sample) (spelled : SpellSamples b.inputs rows samples) where
  there : (k : ℕ) → IsOneOf (length samples) k → k - 1 < length (numbers_of samples)
  there k one =
      let from = one.from in
      let to = one.to in
      let same = length-map samples (λ s. s.values) in
      omega (arith, from, to, same)

  bytes_posted : (posted : List ℕ) → All (IsOneOf (length samples)) posted
      → map (bytes_of (map input_bytes samples)) posted ≡ map (cells.bytes_of b.inputs)
      (map (numbers_at samples) posted)
  bytes_posted [] each = refl
  bytes_posted (k ∷ ks) each =
      let lt = there k (All-head (IsOneOf (length samples)) k ks each) in
      ap₂ (λ (x : List ℕ) (xs : List (List ℕ)). x ∷ xs)
      (ap (λ (l : List (List ℕ)). slice_index_or l (k - 1) []) (bytes_read b.inputs rows samples spelled)
      ∙ get_or-map (cells.bytes_of b.inputs) (numbers_of samples) (k - 1) [] [] lt)
      (bytes_posted ks (All-tail (IsOneOf (length samples)) k ks each))

  inputs_posted : (posted : List ℕ) → All (IsOneOf (length samples)) posted
      → All (AreInputs b) (map (numbers_at samples) posted)
  inputs_posted [] each = λ d k lt. absurd (omega arith)
  inputs_posted (k ∷ ks) each =
      All-cons (AreInputs b) (numbers_at samples k) (map (numbers_at samples) ks)
      (All-get_or (AreInputs b) (numbers_of samples) (k - 1) []
      (there k (All-head (IsOneOf (length samples)) k ks each)) (are_inputs b rows samples spelled))
      (inputs_posted ks (All-tail (IsOneOf (length samples)) k ks each))

pub mailbox_near : AcceptedAnswersAreNear → MailboxAnswersAreNear
mailbox_near near w b most cert errors trace samples posted answers valid spells each are accepted =
    near_answers near w b most cert errors (map (numbers_at samples) posted) answers valid
    (inputs_posted b spells.rows samples spells.spelled posted each)
    (subst (λ (l : List (List ℕ)). AreAnswersOf w b most (λ n. 0) l answers)
    (bytes_posted b spells.rows samples spells.spelled posted each) are) accepted
