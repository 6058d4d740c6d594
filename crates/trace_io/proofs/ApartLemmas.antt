-- A text that spells samples has no fault, and none has two first faults.
use Rattle.std.proofs.Common.{arith, ◌≡◌, ◌<◌, ◌+◌, ℕ, List, [], ◌∷◌, ◌++◌, length, refl, sym, ◌∙◌, ap, subst}
use Rattle.std.proofs.Common.{inl, inr}
use Rattle.std.specs.Prelude.{Some, None}
use Rattle.std.proofs.lemmas.Bool.{cases_lt}
use Rattle.std.proofs.lemmas.List.{length-append}
use Rattle.fz_num.specs.declared.dec.Dec.{Dec}
use Rattle.fuzzy_meaning.specs.{Blocks.IsWithin, declared.block.Input.Input}
use Rattle.trace_io.specs.OneReading.{FirstFaultsAreOne, FirstRowsAreOne, SpelledTracesHaveNoFault}
use Rattle.trace_io.specs.Traces.{AreWithin, Fields, FirstFault, IsFirstOutside, RowFails, SpellSamples, SpellsSample}
use Rattle.trace_io.specs.Traces.{at_row, miscounted, more, outside, unread}
use Rattle.trace_io.specs.declared.{sample.Sample.Sample, sample.TraceFault.TraceFault}
use Rattle.trace_io.specs.declared.sample.TraceFault.TheVariants.{OutOfRange, TooMany}
use Rattle.trace_io.proofs.Algebra.{FailsFirst, at_element, cut_within, more_elements, one_first_failure}

-- ---- a row that is spelled does not fail

within_at : (before : List Input) (i : Input) (after : List Input) (vs : List Dec) (v : Dec) (ws : List Dec)
    → AreWithin before vs
    → AreWithin (before ++ i ∷ after) (vs ++ v ∷ ws) → IsWithin i.lo i.hi v
within_at [] i after [] v ws front all = all.0
within_at [] i after (x ∷ vs) v ws front all = absurd front
within_at (b ∷ before) i after [] v ws front all = absurd front
within_at (b ∷ before) i after (x ∷ vs) v ws front all = within_at before i after vs v ws front.1 all.1

row_apart : (inputs : List Input) (n : ℕ) (row : Fields) (fault : TraceFault) (s : Sample) → RowFails inputs n row fault
    → SpellsSample inputs row s → ⊥
row_apart inputs n row fault s (miscounted wrong) spelled = wrong spelled.count
row_apart inputs n row fault s (unread count none) spelled =
    (let bad : Some s.values ≡ None = sym spelled.values ∙ none in cc)
row_apart inputs n row fault s (outside values i count are first) spelled =
    let same : s.values ≡ values = let e : Some s.values ≡ Some values = sym spelled.values ∙ are in cc in
    let all : AreWithin (first.inputs_before ++ first.input ∷ first.inputs_after)
    (first.values_before ++ first.value ∷ first.values_after) =
    subst (λ (is : List Input). AreWithin is (first.values_before ++ first.value ∷ first.values_after)) first.inputs_are
    (subst (λ (ds : List Dec). AreWithin inputs ds) (same ∙ first.values_are) spelled.within) in
    first.outside (within_at first.inputs_before first.input first.inputs_after first.values_before first.value
    first.values_after first.within all)

row_at : (inputs : List Input) (before : List Fields) (row : Fields) (after : List Fields) (samples : List Sample)
    → SpellSamples inputs (before ++ row ∷ after) samples → (s : Sample) × SpellsSample inputs row s
row_at inputs [] row after [] spelled = absurd spelled
row_at inputs [] row after (s ∷ ss) spelled = (s, spelled.0)
row_at inputs (b ∷ before) row after [] spelled = absurd spelled
row_at inputs (b ∷ before) row after (s ∷ ss) spelled = row_at inputs before row after ss spelled.1

rows_apart : (inputs : List Input) (rows : List Fields) (samples : List Sample) (fault : TraceFault)
    → length rows < 10001
    → SpellSamples inputs rows samples → FirstFault inputs rows fault → ⊥
rows_apart inputs rows samples fault few spelled (at_row before row after ss f split lt front fails) =
    let at = row_at inputs before row after samples
    (subst (λ (rs : List Fields). SpellSamples inputs rs samples) split spelled) in
    row_apart inputs (length before + 1) row f at.0 fails at.1
rows_apart inputs rows samples fault few spelled (more before row after ss split full front) =
    omega (arith, few, full, ap length split, length-append before (row ∷ after))

pub spelled_apart : FirstRowsAreOne → SpelledTracesHaveNoFault
spelled_apart one inputs text samples fault spells has =
    let same : has.rows ≡ spells.rows = one text spells.rows has.rows spells.first has.first in
    rows_apart inputs spells.rows samples fault spells.few spells.spelled
    (subst (λ (rs : List Fields). FirstFault inputs rs fault) same has.fault_is)

-- ---- a text has one first fault

within_length : (inputs : List Input) (values : List Dec) → AreWithin inputs values → length inputs ≡ length values
within_length [] [] all = refl
within_length [] (v ∷ vs) all = absurd all
within_length (i ∷ is) [] all = absurd all
within_length (i ∷ is) (v ∷ vs) all = omega (arith, within_length is vs all.1)

-- no value before one that is first outside is outside
outside_apart : (inputs : List Input) (values : List Dec) (n m : ℕ) → (first : IsFirstOutside inputs values n)
    → (later : IsFirstOutside inputs values m) → length first.inputs_before < length later.inputs_before → ⊥
outside_apart inputs values n m first later l =
    let is = cut_within first.inputs_before first.input first.inputs_after later.inputs_before later.input
    later.inputs_after (sym first.inputs_are ∙ later.inputs_are) l in
    let vs = cut_within first.values_before first.value first.values_after later.values_before later.value
    later.values_after (sym first.values_are ∙ later.values_are)
    (omega (
      arith,
      l,
      within_length first.inputs_before first.values_before first.within,
      within_length later.inputs_before later.values_before later.within,
    )) in
    let inputs : AreWithin (first.inputs_before ++ first.input ∷ is.0) later.values_before =
    subst (λ (xs : List Input). AreWithin xs later.values_before) is.1 later.within in
    let all : AreWithin (first.inputs_before ++ first.input ∷ is.0) (first.values_before ++ first.value ∷ vs.0) =
    subst (λ (xs : List Dec). AreWithin (first.inputs_before ++ first.input ∷ is.0) xs) vs.1 inputs in
    first.outside (within_at first.inputs_before first.input is.0 first.values_before first.value vs.0 first.within all)

one_outside : (inputs : List Input) (values : List Dec) (n m : ℕ) → IsFirstOutside inputs values n
    → IsFirstOutside inputs values m → n ≡ m
one_outside inputs values n m first other = elim (cases_lt (length first.inputs_before) (length other.inputs_before)) [
  | inl l ↦ absurd (outside_apart inputs values n m first other l)
  | inr r ↦ elim (cases_lt (length other.inputs_before) (length first.inputs_before)) [
    | inl l ↦ absurd (outside_apart inputs values m n other first l)
    | inr s ↦ omega (arith, r, s, first.number, other.number)
  ]
]

one_row_fault : (inputs : List Input) (n : ℕ) (row : Fields) (f g : TraceFault) → RowFails inputs n row f
    → RowFails inputs n row g → f ≡ g
one_row_fault inputs n row f g (miscounted wrong) (miscounted wrong') = refl
one_row_fault inputs n row f g (miscounted wrong) (unread count none) = refl
one_row_fault inputs n row f g (miscounted wrong) (outside values i count are first) = absurd (wrong count)
one_row_fault inputs n row f g (unread count none) (miscounted wrong) = refl
one_row_fault inputs n row f g (unread count none) (unread count' none') = refl
one_row_fault inputs n row f g (unread count none) (outside values i count' are first) =
    absurd (let bad : Some values ≡ None = sym are ∙ none in let no : ⊥ = cc in no)
one_row_fault inputs n row f g (outside values i count are first) (miscounted wrong) = absurd (wrong count)
one_row_fault inputs n row f g (outside values i count are first) (unread count' none) =
    absurd (let bad : Some values ≡ None = sym are ∙ none in let no : ⊥ = cc in no)
one_row_fault inputs n row f g (outside values i count are first) (outside others j count' are' first') =
    let same : others ≡ values = let e : Some others ≡ Some values = sym are' ∙ are in cc in
    ap (OutOfRange n) (one_outside inputs values i j first
    (subst (λ (vs : List Dec). IsFirstOutside inputs vs j) same first'))

module _ (inputs : List Input) where
  abbrev pub Pass : List Fields → Type 0
  Pass rows = (samples : List Sample) × SpellSamples inputs rows samples

  abbrev pub Fails : List Fields → Fields → TraceFault → Type 0
  Fails before row fault = RowFails inputs (length before + 1) row fault

  fails_apart : (before : List Fields) (row : Fields) (after : List Fields) (fault : TraceFault)
      → Fails before row fault → Pass (before ++ row ∷ after) → ⊥
  fails_apart before row after fault fails pass =
      let at = row_at inputs before row after pass.0 pass.1 in
      row_apart inputs (length before + 1) row fault at.0 fails at.1

  fails_first : (rows : List Fields) (fault : TraceFault) → FirstFault inputs rows fault
      → FailsFirst Pass Fails 10000 TooMany rows fault
  fails_first rows fault (at_row b r a ss f split lt front fails) = at_element b r a fault split lt (ss, front) fails
  fails_first rows fault (more b r a ss split full front) = more_elements b r a split full (ss, front)

  one_fault : (rows : List Fields) (f g : TraceFault) → FirstFault inputs rows f → FirstFault inputs rows g → f ≡ g
  one_fault rows f g first other =
      one_first_failure Pass Fails fails_apart (λ before row. one_row_fault inputs (length before + 1) row)
      10000 TooMany rows f g (fails_first rows f first) (fails_first rows g other)

pub one_first_fault : FirstRowsAreOne → FirstFaultsAreOne
one_first_fault one inputs text fault other has has' =
    let same : has'.rows ≡ has.rows = one text has.rows has'.rows has.first has'.first in
    one_fault inputs has.rows fault other has.fault_is
    (subst (λ (rs : List Fields). FirstFault inputs rs other) same has'.fault_is)
