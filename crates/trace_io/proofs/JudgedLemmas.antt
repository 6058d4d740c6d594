-- Each text is a trace or has a first fault.
use Rattle.std.proofs.Common.{arith, ◌≡◌, ◌⊎◌, ◌<◌, ◌+◌, ℕ, List, [], ◌∷◌, ◌++◌, length, refl, ap, ◌∙◌}
use Rattle.std.proofs.Common.{inl, inr}
use Rattle.std.specs.Prelude.{Option, Some, None}
use Rattle.std.proofs.lemmas.{Bool.cases_lt, Int.by_lt_z, Int.ints}
use Rattle.fz_num.specs.declared.dec.Dec.{Dec}
use Rattle.fuzzy_meaning.specs.{Blocks.IsWithin, declared.block.Input.Input}
use Rattle.byte_scaling.specs.Cells.{bytes_of}
use Rattle.trace_io.specs.OneReading.{EachTextHasFirstRows, EachTextIsJudged}
use Rattle.trace_io.specs.Traces.{AreWithin, Fields, FirstFault, IsFirstOutside, RowFails, SpellsSample}
use Rattle.trace_io.specs.Traces.{at_row, decimals, miscounted, more, outside, unread}
use Rattle.trace_io.specs.declared.{sample.Sample.Sample, sample.TraceFault.TraceFault}
use Rattle.trace_io.specs.declared.sample.TraceFault.TheVariants.{OutOfRange, TooMany}
use Rattle.trace_io.proofs.Algebra.{FailsFirst, at_element, judged, more_elements}
use Rattle.trace_io.proofs.ApartLemmas.{Fails, Pass}
use Rattle.trace_io.proofs.TraceLemmas.{decimals_count, spell-snoc}

-- ---- a row is a sample or fails

number_judged : (lo hi x : Dec) → IsWithin lo hi x ⊎ (IsWithin lo hi x → ⊥)
number_judged lo hi x =
    by_lt_z x.0 lo.0 (λ below. inr (λ within. omega (arith, ints, below, within.low)))
    (λ low. by_lt_z hi.0 x.0 (λ above. inr (λ within. omega (arith, ints, above, within.high)))
    (λ high. inl (record { low = low; high = high })))

outside_behind : (i : Input) (d : Dec) (is : List Input) (ds : List Dec) → IsWithin i.lo i.hi d
    → (n : ℕ) × IsFirstOutside is ds n → (n : ℕ) × IsFirstOutside (i ∷ is) (d ∷ ds) n
outside_behind i d is ds here (n, first) = (
  n + 1,
  record {
    inputs_before = i ∷ first.inputs_before;
    input = first.input;
    inputs_after = first.inputs_after;
    inputs_are = ap (λ (l : List Input). i ∷ l) first.inputs_are;
    values_before = d ∷ first.values_before;
    value = first.value;
    values_after = first.values_after;
    values_are = ap (λ (l : List Dec). d ∷ l) first.values_are;
    within = (here, first.within);
    outside = first.outside;
    number = omega (arith, first.number);
  },
)

outside_here : (i : Input) (d : Dec) (is : List Input) (ds : List Dec) → (IsWithin i.lo i.hi d → ⊥)
    → (n : ℕ) × IsFirstOutside (i ∷ is) (d ∷ ds) n
outside_here i d is ds out = (
  1,
  record {
    inputs_before = [];
    input = i;
    inputs_after = is;
    inputs_are = refl;
    values_before = [];
    value = d;
    values_after = ds;
    values_are = refl;
    within = tt;
    outside = out;
    number = omega arith;
  },
)

values_judged : (is : List Input) (ds : List Dec) → length ds ≡ length is
    → AreWithin is ds ⊎ ((n : ℕ) × IsFirstOutside is ds n)
values_judged [] [] count = inl tt
values_judged [] (d ∷ ds) count = absurd (omega (arith, count))
values_judged (i ∷ is) [] count = absurd (omega (arith, count))
values_judged (i ∷ is) (d ∷ ds) count = elim (number_judged i.lo i.hi d) [
  | inr out ↦ inr (outside_here i d is ds out)
  | inl here ↦ elim (values_judged is ds (omega (arith, count))) [
    | inl rest ↦ inl (here, rest)
    | inr first ↦ inr (outside_behind i d is ds here first)
  ]
]

module _ (inputs : List Input) where
  abbrev IsJudgedRow : ℕ → Fields → Type 0
  IsJudgedRow n row = ((s : Sample) × SpellsSample inputs row s) ⊎ ((f : TraceFault) × RowFails inputs n row f)

  counted : (n : ℕ) (row : Fields) → length row ≡ length inputs → (o : Option (List Dec)) → decimals row ≡ o
      → IsJudgedRow n row
  counted n row count None none = inr (_, unread count none)
  counted n row count (Some values) are =
      elim (values_judged inputs values (decimals_count row values are ∙ count)) [
        | inl within ↦ inl (
          record { values = values; bytes = record { items = bytes_of inputs values } },
          record { count = count; values = are; within = within; bytes = refl },
        )
        | inr first ↦ inr (OutOfRange n first.0, outside values first.0 count are first.1)
      ]

  row_judged : (n : ℕ) (row : Fields) → IsJudgedRow n row
  row_judged n row = elim (cases_lt (length row) (length inputs)) [
    | inl fewer ↦ inr (_, miscounted (λ count. omega (arith, fewer, count)))
    | inr some ↦ elim (cases_lt (length inputs) (length row)) [
      | inl many ↦ inr (_, miscounted (λ count. omega (arith, many, count)))
      | inr few ↦ counted n row (omega (arith, some, few)) (decimals row) refl
    ]
  ]

  -- ---- rows are samples or have a first fault

  judge : (before : List Fields) (row : Fields) → length before < 10000 → Pass inputs before
      → Pass inputs (before ++ row ∷ []) ⊎ ((f : TraceFault) × Fails inputs before row f)
  judge before row few pass = elim (row_judged (length before + 1) row) [
    | inl own ↦ inl (pass.0 ++ own.0 ∷ [], spell-snoc inputs before pass.0 row own.0 pass.1 own.1)
    | inr fails ↦ inr fails
  ]

  first_fault : (rows : List Fields) (f : TraceFault) → FailsFirst (Pass inputs) (Fails inputs) 10000 TooMany rows f
      → FirstFault inputs rows f
  first_fault rows f (at_element before row after fault cut few pass fails) =
      at_row before row after pass.0 fault cut few pass.1 fails
  first_fault rows f (more_elements before row after cut full pass) = more before row after pass.0 cut full pass.1

pub judged_text : EachTextHasFirstRows → EachTextIsJudged
judged_text each inputs text =
    let first = each text in
    elim (judged (Pass inputs) (Fails inputs) 10000 TooMany (judge inputs) ([], tt) first.0) [
      | inl all ↦ inl (all.0.0, record { rows = first.0; first = first.1; few = omega (arith, all.1); spelled = all.0.1 })
      | inr fault ↦ inr (
        fault.0,
        record { rows = first.0; first = first.1; fault_is = first_fault inputs first.0 fault.0 fault.1 },
      )
    ]
