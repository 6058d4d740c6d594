-- Rows and samples, one by one.
use Rattle.std.proofs.Common.{◌≤◌, ◌≡◌, ◌<◌, ◌+◌, ℕ, zero, suc, List, [], ◌∷◌, ◌++◌, length, take, drop, get_or, refl}
use Rattle.std.proofs.Common.{sym, ◌∙◌, ap, subst, arith}
use Rattle.std.specs.List.{All}
use Rattle.std.specs.Prelude.{map, Option, Some, None, option_map, Result, Ok, Err}
use Rattle.std.proofs.Math.Seq.{split_at}
use Rattle.std.proofs.lemmas.List.{length-map, length-take-le, map-append, take_more}
use Rattle.csv.specs.Records.{Row, fields_of}
use Rattle.fz_num.specs.{declared.dec.Dec.Dec, declared.dec.DecFault.DecFault, Decimals.decimal}
use Rattle.fuzzy_meaning.specs.{Blocks.IsWithin, declared.block.Input.Input}
use Rattle.byte_scaling.specs.Cells.{byte_of, bytes_of}
use Rattle.trace_io.specs.Traces.{AreWithin, Fields, FirstFault, at_row, more, IsFirstOutside, RowFails, SpellSamples}
use Rattle.trace_io.specs.Traces.{SpellsSample, decimals, with_decimal}
use Rattle.trace_io.specs.declared.{sample.Sample.Sample, sample.TraceFault.TraceFault}
use Rattle.trace_io.specs.declared.sample.TraceFault.TheVariants.{TooMany}

-- ---- decimals

some_cons : (d : Dec) (o : Option (List Dec)) (vs : List Dec) → option_map (λ xs. d ∷ xs) o ≡ Some vs
    → (ws : List Dec) × (o ≡ Some ws) × (vs ≡ d ∷ ws)
some_cons d None vs is = cc
some_cons d (Some ws) vs is = (ws, refl, cc)

decimals-snoc : (fs : Fields) (f : List ℕ) (vs : List Dec) (d : Dec) → decimals fs ≡ Some vs → decimal f ≡ Ok d
    → decimals (fs ++ f ∷ []) ≡ Some (vs ++ d ∷ [])
decimals-snoc [] f vs d so_far ok = let e : [] ≡ vs = cc in
    ap (λ (r : Result Dec DecFault). with_decimal r (Some [])) ok
    ∙ ap (λ (l : List Dec). Some (l ++ d ∷ [])) e
decimals-snoc (g ∷ fs) f vs d so_far ok =
    snoc_at g fs f vs d (decimal g) refl so_far (λ ws rest. decimals-snoc fs f ws d rest ok)
  where
    snoc_at : (g : List ℕ) (fs : Fields) (f : List ℕ) (vs : List Dec) (d : Dec) (r : Result Dec DecFault)
        → decimal g ≡ r → decimals (g ∷ fs) ≡ Some vs
        → ((ws : List Dec) → decimals fs ≡ Some ws → decimals (fs ++ f ∷ []) ≡ Some (ws ++ d ∷ []))
        → decimals (g ∷ fs ++ f ∷ []) ≡ Some (vs ++ d ∷ [])
    snoc_at g fs f vs d (Err e) is so_far rest =
        let bad : None ≡ Some vs = sym (ap (λ (r : Result Dec DecFault). with_decimal r (decimals fs)) is)
        ∙ so_far in cc
    snoc_at g fs f vs d (Ok x) is so_far rest =
        let part = some_cons x (decimals fs) vs
        (sym (ap (λ (r : Result Dec DecFault). with_decimal r (decimals fs)) is) ∙ so_far) in
        ap (λ (r : Result Dec DecFault). with_decimal r (decimals (fs ++ f ∷ []))) is
        ∙ ap (option_map (λ xs. x ∷ xs)) (rest part.0 part.1)
        ∙ ap (λ (l : List Dec). Some (l ++ d ∷ [])) (sym part.2)

pub decimals_more : (fs : Fields) (i : ℕ) (vs vs' : List Dec) (f : List ℕ) (r : Result Dec DecFault) (d : Dec)
    → i < length fs → get_or fs i [] ≡ f
    → decimals (take i fs) ≡ Some vs → r ≡ decimal f → r ≡ Ok d → vs' ≡ vs ++ d ∷ []
    → decimals (take (i + 1) fs) ≡ Some vs'
decimals_more fs i vs vs' f r d lt at so_far read ok added =
    ap decimals (take_more fs i [] lt)
    ∙ decimals-snoc (take i fs) (get_or fs i []) vs d so_far (ap decimal at ∙ sym read ∙ ok)
    ∙ ap (λ (l : List Dec). Some l) (sym added)

decimals-length : (fs : Fields) (vs : List Dec) → decimals fs ≡ Some vs → length vs ≡ length fs
decimals-length [] vs is = let e : [] ≡ vs = cc in ap length (sym e)
decimals-length (f ∷ fs) vs is = length_at (decimal f) is (λ ws rest. decimals-length fs ws rest)
  where
    length_at : (r : Result Dec DecFault) → with_decimal r (decimals fs) ≡ Some vs
        → ((ws : List Dec) → decimals fs ≡ Some ws → length ws ≡ length fs)
        → length vs ≡ length (f ∷ fs)
    length_at (Err e) is rest = cc
    length_at (Ok x) is rest = let part = some_cons x (decimals fs) vs is in
        ap length part.2 ∙ omega (arith, rest part.0 part.1)

pub decimals_count : (fs : Fields) (vs : List Dec) → decimals fs ≡ Some vs → length vs ≡ length fs
decimals_count = decimals-length

none_after : (r : Result Dec DecFault) → with_decimal r None ≡ None
none_after (Ok d) = refl
none_after (Err e) = refl

decimals_stop : (fs : Fields) (i : ℕ) (e : DecFault) → i < length fs → decimal (get_or fs i []) ≡ Err e
    → decimals fs ≡ None
decimals_stop [] i e lt bad = absurd (omega arith)
decimals_stop (f ∷ fs) zero e lt bad = ap (λ (r : Result Dec DecFault). with_decimal r (decimals fs)) bad
decimals_stop (f ∷ fs) (suc i) e lt bad = ap (with_decimal (decimal f)) (decimals_stop fs i e (omega arith) bad)
    ∙ none_after (decimal f)

pub decimals_none : (fs : Fields) (i : ℕ) (f : List ℕ) (r : Result Dec DecFault) (e : DecFault) → i < length fs
    → get_or fs i [] ≡ f → r ≡ decimal f
    → r ≡ Err e → decimals fs ≡ None
decimals_none fs i f r e lt at read bad = decimals_stop fs i e lt (ap decimal at ∙ sym read ∙ bad)

-- ---- bytes

within-snoc : (is : List Input) (ds : List Dec) (x : Input) (d : Dec) → AreWithin is ds → IsWithin x.lo x.hi d
    → AreWithin (is ++ x ∷ []) (ds ++ d ∷ [])
within-snoc [] [] x d so_far here = (here, tt)
within-snoc [] (e ∷ ds) x d so_far here = absurd so_far
within-snoc (i ∷ is) [] x d so_far here = absurd so_far
within-snoc (i ∷ is) (e ∷ ds) x d so_far here = (so_far.0, within-snoc is ds x d so_far.1 here)

bytes_of-snoc : (is : List Input) (ds : List Dec) (x : Input) (d : Dec) → AreWithin is ds
    → bytes_of (is ++ x ∷ []) (ds ++ d ∷ []) ≡ bytes_of is ds ++ byte_of x d ∷ []
bytes_of-snoc [] [] x d so_far = refl
bytes_of-snoc [] (e ∷ ds) x d so_far = absurd so_far
bytes_of-snoc (i ∷ is) [] x d so_far = absurd so_far
bytes_of-snoc (i ∷ is) (e ∷ ds) x d so_far = ap (λ (l : List ℕ). byte_of i e ∷ l) (bytes_of-snoc is ds x d so_far.1)

module _ (inputs : List Input) (values : List Dec) (i : ℕ) (x : Input) (d0 : Dec) (lt : i < length inputs)
    (count : length values ≡ length inputs)
    (x_is : x ≡ get_or inputs i x) (so_far : AreWithin (take i inputs) (take i values)) where
  abbrev pub d : Dec
  d = get_or values i d0

  inputs_more : take (i + 1) inputs ≡ take i inputs ++ x ∷ []
  inputs_more = take_more inputs i x lt ∙ ap (λ (y : Input). take i inputs ++ y ∷ []) (sym x_is)

  values_more : take (i + 1) values ≡ take i values ++ d ∷ []
  values_more = take_more values i d0 (omega arith)

  pub within_more : IsWithin x.lo x.hi d → AreWithin (take (i + 1) inputs) (take (i + 1) values)
  within_more here = rw (inputs_more, values_more) (within-snoc (take i inputs) (take i values) x d so_far here)

  pub bytes_more : (bs bs' : List ℕ) (b : ℕ) → bs ≡ bytes_of (take i inputs) (take i values) → b ≡ byte_of x d
      → bs' ≡ bs ++ b ∷ []
      → bs' ≡ bytes_of (take (i + 1) inputs) (take (i + 1) values)
  bytes_more bs bs' b bytes byte added =
      added ∙ ap (λ (l : List ℕ). l ++ b ∷ []) bytes
      ∙ ap (λ (n : ℕ). bytes_of (take i inputs) (take i values) ++ n ∷ []) byte
      ∙ sym (bytes_of-snoc (take i inputs) (take i values) x d so_far) ∙ sym (rw (inputs_more, values_more) refl)

  pub first_outside : (n : ℕ) → n ≡ i + 1 → (IsWithin x.lo x.hi d → ⊥) → IsFirstOutside inputs values n
  first_outside n is not_here = record {
    inputs_before = take i inputs;
    input = x;
    inputs_after = drop (suc i) inputs;
    inputs_are = split_at inputs i x lt ∙ ap (λ (y : Input). take i inputs ++ y ∷ drop (suc i) inputs) (sym x_is);
    values_before = take i values;
    value = d;
    values_after = drop (suc i) values;
    values_are = split_at values i d0 (omega arith);
    within = so_far;
    outside = not_here;
    number = omega (arith, is, length-take-le i inputs (omega arith));
  }

-- ---- samples

pub spell-snoc : (inputs : List Input) (rs : List Fields) (ss : List Sample) (r : Fields) (s : Sample)
    → SpellSamples inputs rs ss
    → SpellsSample inputs r s → SpellSamples inputs (rs ++ r ∷ []) (ss ++ s ∷ [])
spell-snoc inputs [] [] r s so_far here = (here, tt)
spell-snoc inputs [] (x ∷ ss) r s so_far here = absurd so_far
spell-snoc inputs (x ∷ rs) [] r s so_far here = absurd so_far
spell-snoc inputs (x ∷ rs) (y ∷ ss) r s so_far here = (so_far.0, spell-snoc inputs rs ss r s so_far.1 here)

module _ (inputs : List Input) (rows : List Row) (i : ℕ) (row : Row) (lt : i < length rows)
    (is : row ≡ get_or rows i row) (ss : List Sample)
    (so_far : SpellSamples inputs (map fields_of (take i rows)) ss) where
  fields_more : map fields_of (take (i + 1) rows) ≡ map fields_of (take i rows) ++ fields_of row ∷ []
  fields_more = ap (map fields_of) (take_more rows i row lt ∙ ap (λ (r : Row). take i rows ++ r ∷ []) (sym is))
      ∙ map-append fields_of (take i rows) (row ∷ [])

  fields_split : map fields_of rows ≡ map fields_of (take i rows) ++ fields_of row ∷ map fields_of (drop (suc i) rows)
  fields_split = ap (map fields_of)
      (split_at rows i row lt ∙ ap (λ (r : Row). take i rows ++ r ∷ drop (suc i) rows) (sym is))
      ∙ map-append fields_of (take i rows) (row ∷ drop (suc i) rows)

  size : length (map fields_of (take i rows)) ≡ i
  size = rw length-map (length-take-le i rows (omega arith))

  pub samples_more : (s : Sample) (ss' : List Sample) → SpellsSample inputs (fields_of row) s → ss' ≡ ss ++ s ∷ []
      → SpellSamples inputs (map fields_of (take (i + 1) rows)) ss'
  samples_more s ss' here added =
      rw (fields_more, added) (spell-snoc inputs (map fields_of (take i rows)) ss (fields_of row) s so_far here)

  pub fault_at : (fault : TraceFault) (n : ℕ) → n ≡ i + 1 → i < 10000 → RowFails inputs n (fields_of row) fault
      → FirstFault inputs (map fields_of rows) fault
  fault_at fault n number few fails =
      let at : n ≡ length (map fields_of (take i rows)) + 1 = omega (arith, number, size) in
      at_row (map fields_of (take i rows)) (fields_of row) (map fields_of (drop (suc i) rows)) ss fault fields_split
      (omega (arith, size)) so_far
      (subst (λ (k : ℕ). RowFails inputs k (fields_of row) fault) at fails)

  pub too_many : i ≡ 10000 → FirstFault inputs (map fields_of rows) TooMany
  too_many many = more (map fields_of (take i rows)) (fields_of row) (map fields_of (drop (suc i) rows)) ss fields_split
      (size ∙ many) so_far

-- ---- what the layers above use of samples

spelled-length : (inputs : List Input) (rs : List Fields) (ss : List Sample) → SpellSamples inputs rs ss
    → length ss ≡ length rs
spelled-length inputs [] [] spelled = refl
spelled-length inputs [] (s ∷ ss) spelled = absurd spelled
spelled-length inputs (r ∷ rs) [] spelled = absurd spelled
spelled-length inputs (r ∷ rs) (s ∷ ss) spelled = omega (arith, spelled-length inputs rs ss spelled.1)

bytes_of-length : (is : List Input) (ds : List Dec) → AreWithin is ds → length (bytes_of is ds) ≡ length is
bytes_of-length [] ds within = refl
bytes_of-length (i ∷ is) [] within = absurd within
bytes_of-length (i ∷ is) (d ∷ ds) within = omega (arith, bytes_of-length is ds within.1)

bytes_each : (inputs : List Input) (rs : List Fields) (ss : List Sample) → SpellSamples inputs rs ss
    → (k : ℕ) (d : Sample) → k < length ss
    → length (get_or ss k d).bytes.items ≡ length inputs
bytes_each inputs [] [] spelled k d lt = absurd (omega arith)
bytes_each inputs [] (s ∷ ss) spelled k d lt = absurd spelled
bytes_each inputs (r ∷ rs) [] spelled k d lt = absurd spelled
bytes_each inputs (r ∷ rs) (s ∷ ss) spelled zero d lt = ap length spelled.0.bytes
    ∙ bytes_of-length inputs s.values spelled.0.within
bytes_each inputs (r ∷ rs) (s ∷ ss) spelled (suc k) d lt = bytes_each inputs rs ss spelled.1 k d (omega arith)

take-short : {X : Type 0} (i : ℕ) (xs : List X) → length (take i xs) ≤ i
take-short zero xs = omega arith
take-short (suc i) [] = omega arith
take-short (suc i) (x ∷ xs) = omega (arith, take-short i xs)

pub spelled_few : (inputs : List Input) (rows : List Row) (i : ℕ) (ss : List Sample)
    → SpellSamples inputs (map fields_of (take i rows)) ss
    → i ≤ 10000 → length ss ≤ 10000
spelled_few inputs rows i ss spelled few = let e = spelled-length inputs (map fields_of (take i rows)) ss spelled in
    omega (arith, (simp length-map at e), take-short i rows, few)

pub spelled_bytes : (inputs : List Input) (rows : List Fields) (ss : List Sample) → SpellSamples inputs rows ss
    → All (λ (s : Sample). length s.bytes.items ≡ length inputs) ss
spelled_bytes inputs rows ss spelled = λ k d lt. bytes_each inputs rows ss spelled k d lt
