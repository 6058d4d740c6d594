-- A number draws one workload.
use Rattle.std.proofs.Common.{◌≡◌, ◌∙◌, ℕ, zero, suc, List, [], ◌∷◌, sym, ap}
use Rattle.std.specs.Prelude.{Some, slice_get}
use Rattle.std.proofs.lemmas.List.{map-id}
use Rattle.byte_scaling.specs.Cells.{bytes_of}
use Rattle.fuzzy_meaning.specs.declared.{block.Block.Block, block.Input.Input}
use Rattle.interrupt_plan.specs.declared.Request.{Request}
use Rattle.trace_io.specs.{Traces.Fields, Traces.SpellSamples, Traces.input_bytes, declared.sample.Sample.Sample}
use Rattle.workload.specs.{Laws.WorkloadsAreOne, Workloads.drawn_request, Workloads.drawn_values}
use Rattle.workload.proofs.ListLemmas.{one_drawn}

bytes_at : (is : List Input) (rows : List Fields) (ss : List Sample) → SpellSamples is rows ss → (k : ℕ) (s : Sample)
    → slice_get ss k ≡ Some s → input_bytes s ≡ bytes_of is s.values
bytes_at is [] [] spelled k s at = cc
bytes_at is [] (t ∷ ss) spelled k s at = absurd spelled
bytes_at is (r ∷ rows) [] spelled k s at = absurd spelled
bytes_at is (r ∷ rows) (t ∷ ss) spelled zero s at =
    let same : t ≡ s = cc in
    ap input_bytes (sym same) ∙ spelled.0.bytes ∙ ap (λ (u : Sample). bytes_of is u.values) same
bytes_at is (r ∷ rows) (t ∷ ss) spelled (suc k) s at = bytes_at is rows ss spelled.1 k s at

pub one_workload : WorkloadsAreOne
one_workload number text trace plan texts traces plans block other samples those requests others a b =
    let drawn = λ (k : ℕ). bytes_of block.inputs (drawn_values number k) in
    let blocks : block ≡ other = a.block_is ∙ sym b.block_is in (
      blocks,
      one_drawn input_bytes drawn samples those (a.drawn_samples.count ∙ sym b.drawn_samples.count)
          (λ k s at. bytes_at block.inputs a.in_trace.rows samples a.in_trace.spelled k s at
          ∙ ap (bytes_of block.inputs) (a.drawn_samples.values k s at))
          (λ k s at. bytes_at other.inputs b.in_trace.rows those b.in_trace.spelled k s at
          ∙ ap (bytes_of other.inputs) (b.drawn_samples.values k s at)
          ∙ ap (λ (c : Block). bytes_of c.inputs (drawn_values number k)) (sym blocks)),
      sym (map-id requests)
          ∙ one_drawn (λ (r : Request). r) (drawn_request number) requests others
          (a.drawn_requests.count ∙ sym b.drawn_requests.count) a.drawn_requests.requests b.drawn_requests.requests
          ∙ map-id others,
    )
