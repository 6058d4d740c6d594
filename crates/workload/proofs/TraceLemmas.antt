-- Traces of samples that are drawn.
use Rattle.std.proofs.Common.{arith, ◌≡◌, ◌≤◌, ◌<◌, ◌+◌, ◌/◌, ◌^◌, ℕ, List, [], ◌∷◌, ◌++◌, length, map, refl, sym, ap}
use Rattle.std.proofs.Common.{subst, ◌∙◌, pos, Some, length-append}
use Rattle.std.specs.List.{range_with_len}
use Rattle.std.specs.Prelude.{slice_get, option_map}
use Rattle.std.specs.Fmt.{decimal as digits}
use Rattle.std.proofs.lemmas.Fmt.{length-decimal-le}
use Rattle.std.proofs.lemmas.Int.{ints}
use Rattle.std.proofs.lemmas.List.FromFn.{length-map-range_with_len}
use Rattle.std.proofs.lemmas.List.{length-map, map-append}
use Rattle.std.proofs.lemmas.Option.{slice_get-map}
use Rattle.byte_scaling.specs.Cells.{bytes_of}
use Rattle.csv.specs.Writing.{default_writer, row_text}
use Rattle.fuzzy_meaning.specs.{Blocks.IsWithin, declared.block.Input.Input}
use Rattle.fz_num.specs.declared.dec.Dec.{Dec}
use Rattle.interrupt_plan.specs.Rows.{SpellAll}
use Rattle.trace_io.specs.Traces.{AreWithin, Fields, SpellSamples, Spells, SpellsSample, with_decimal}
use Rattle.trace_io.specs.declared.sample.Sample.{Sample}
use Rattle.workload.specs.{Blocks.drawn_input, Blocks.whole, Workloads.AreDrawnSamples, Workloads.drawn_values}
use Rattle.workload.specs.Texts.{decimal_text, last_digit, sample_fields}
use Rattle.workload.proofs.ListLemmas.{drawn_at, made_more}
use Rattle.workload.proofs.NumberLemmas.{decimal-decimal_text, digits_are}
use Rattle.workload.proofs.RowLemmas.{IsRow, Writes, pair_length, row_count, starts, written_rows}

abbrev dec : ℕ → Dec
dec x = record { 0 = pos x }

abbrev pub pair : List Input
pair = drawn_input ∷ drawn_input ∷ []

pub within : (x : ℕ) → x ≤ 2560000 → IsWithin (whole 0) (whole 256) (dec x)
within x h = record { low = omega (arith, ints); high = omega (arith, ints) }

pub spells_drawn : (x y : ℕ) (s : Sample) → x ≤ 2560000 → y ≤ 2560000 → s.values ≡ dec x ∷ dec y ∷ []
    → s.bytes.items ≡ bytes_of pair (dec x ∷ dec y ∷ []) → SpellsSample pair (sample_fields (x, y)) s
spells_drawn x y s hx hy values bytes = record {
  count = refl;
  values = (λ i. with_decimal (decimal-decimal_text x (omega arith) i)
      (with_decimal (decimal-decimal_text y (omega arith) i) (Some [])))
      ∙ ap (λ (ds : List Dec). Some ds) (sym values);
  within = subst (AreWithin pair) (sym values) (within x hx, (within y hy, tt));
  bytes = bytes ∙ ap (bytes_of pair) (sym values);
}

pub sample_row : (x y : ℕ) → x < 2 ^ 32 → IsRow (sample_fields (x, y))
sample_row x y small = starts (digits (x / 10000)) _ (digits_are (x / 10000) (omega arith))

decimal_length : (x : ℕ) → x < 2 ^ 32 → length (decimal_text x) ≤ 15
decimal_length x small =
    let places : List ℕ =
    46 ∷ last_digit (x / 1000) ∷ last_digit (x / 100) ∷ last_digit (x / 10) ∷ last_digit x ∷ [] in
    omega (
      arith,
      length-append (digits (x / 10000)) places,
      length-decimal-le 10 (x / 10000) (omega arith) (omega arith) (omega arith),
    )

pub sample_length : (x y : ℕ) → x < 2 ^ 32 → y < 2 ^ 32
    → length (row_text default_writer (sample_fields (x, y))) ≤ 200
sample_length x y hx hy =
    omega (arith, pair_length (decimal_text x) (decimal_text y), decimal_length x hx, decimal_length y hy)

samples_spelled : (inputs : List Input) (rows : List Fields) (ss : List Sample)
    → SpellAll (SpellsSample inputs) rows ss → SpellSamples inputs rows ss
samples_spelled inputs [] [] h = tt
samples_spelled inputs [] (s ∷ ss) h = h
samples_spelled inputs (r ∷ rows) [] h = h
samples_spelled inputs (r ∷ rows) (s ∷ ss) h = (h.0, samples_spelled inputs rows ss h.1)

pub trace_spells : (text : List ℕ) (ss : List Sample) → Writes (SpellsSample pair) text ss → length ss ≤ 10000
    → Spells pair text ss
trace_spells text ss h few = record {
  rows = h.rows;
  first = written_rows (SpellsSample pair) text ss h (omega arith);
  few = omega (arith, row_count (SpellsSample pair) h.rows ss h.spelled);
  spelled = samples_spelled pair h.rows ss h.spelled;
}

pub values_count : (number n : ℕ) (ss : List Sample)
    → map (λ (s : Sample). s.values) ss ≡ map (drawn_values number) (range_with_len 0 n) → length ss ≡ n
values_count number n ss h =
    sym (length-map ss (λ (s : Sample). s.values)) ∙ ap length h
    ∙ length-map-range_with_len (drawn_values number) 0 n

pub values_more : (number n : ℕ) (ss more : List Sample) (s : Sample)
    → map (λ (s : Sample). s.values) ss ≡ map (drawn_values number) (range_with_len 0 n)
    → s.values ≡ drawn_values number n → more ≡ ss ++ (s ∷ [])
    → map (λ (s : Sample). s.values) more ≡ map (drawn_values number) (range_with_len 0 (n + 1))
values_more number n ss more s before here more_is =
    let of : Sample → List Dec = λ (s : Sample). s.values in
    ap (map of) more_is ∙ map-append of ss (s ∷ []) ∙ (λ i. before i ++ (here i ∷ []))
    ∙ sym (made_more (drawn_values number) n)

pub samples_drawn : (number : ℕ) (ss : List Sample)
    → map (λ (s : Sample). s.values) ss ≡ map (drawn_values number) (range_with_len 0 1000)
    → AreDrawnSamples number ss
samples_drawn number ss h = record {
  count = values_count number 1000 ss h;
  values = λ k s at. drawn_at (drawn_values number) 1000 k s.values
      (ap (λ (vs : List (List Dec)). slice_get vs k) (sym h) ∙ slice_get-map (λ (s : Sample). s.values) ss k
      ∙ ap (option_map (λ (s : Sample). s.values)) at);
}
