-- The first rows of a text.
use Rattle.std.proofs.Common.{arith, ◌≡◌, ◌⊎◌, inl, inr, ◌<◌, ◌≤◌, ◌-◌, ℕ, zero, suc, List, [], ◌∷◌, ◌++◌, length, map, refl, sym}
use Rattle.std.proofs.Common.{◌∙◌, ap, subst, Bor}
use Rattle.std.proofs.lemmas.Bool.{false≢true}
use Rattle.std.proofs.lemmas.List.{map-append}
use Rattle.std.specs.Prelude.{Option, Some, None, true, false}
use Rattle.csv.proofs.ReadFacts.{rows-end, rows-more}
use Rattle.csv.specs.{Machine.Read, Machine.next_record, declared.error.ErrorKind.ErrorKind}
use Rattle.csv.specs.Reading.{ExplainsRead, ReadRecord, Reached, default_config, source_of, strip_bom}
use Rattle.csv.specs.declared.error.ErrorKind.TheVariants as kind
use Rattle.csv.specs.declared.parser.State.{State}
use Rattle.csv.specs.declared.parser.State.TheVariants as st
use Rattle.csv.specs.declared.reader.Reader.{Reader}
use Rattle.trace_io.specs.FirstRows.{AreFirstRows, Fields, is_want_of_memory}
use Rattle.trace_io.specs.OneReading.{EachTextHasFirstRows, FirstRowsAreOne}

some_none : {X : Type 0} {o : Option X} {x : X} → o ≡ Some x → o ≡ None → ⊥
some_none {X} {o} {x} some none = let bad : Some x ≡ None = sym some ∙ none in cc

-- no row is left, or there are k
abbrev AreEnough : ℕ → State → List ℕ → List Fields → Type 0
AreEnough k s xs rows = (next_record default_config s [] [] xs ≡ None) ⊎ (length rows ≡ k)

enough_behind : (k : ℕ) (s : State) (xs : List ℕ) (r : List (List ℕ)) (rows : List Fields)
    → AreEnough k s xs (r ∷ rows) → AreEnough (k - 1) s xs rows
enough_behind k s xs r rows (inl none) = inl none
enough_behind k s xs r rows (inr full) = inr (omega (arith, full))

-- at most k first rows that are all of them or k of them are one list
one_list_of : (k : ℕ) (s s2 s3 : State) (xs ys zs : List ℕ) (rows others : List Fields)
    → Reached default_config s xs rows s2 ys → length rows ≤ k → AreEnough k s2 ys rows
    → Reached default_config s xs others s3 zs → length others ≤ k → AreEnough k s3 zs others
    → others ≡ rows
unfolding Reached
one_list_of k s s2 s3 xs ys zs [] [] cut few enough cut' few' enough' = refl
one_list_of k s s2 s3 xs ys zs [] (r' ∷ rows') cut few (inl end) cut' few' enough' =
    let here : next_record default_config s [] [] xs ≡ None =
    (λ i. next_record default_config (cut.0 i) [] [] (cut.1 i)) ∙ end in
    absurd (some_none cut'.1 here)
one_list_of k s s2 s3 xs ys zs [] (r' ∷ rows') cut few (inr full) cut' few' enough' =
    absurd (omega (arith, few', full))
one_list_of k s s2 s3 xs ys zs (r ∷ rows) [] cut few enough cut' few' (inl none) =
    let here : next_record default_config s [] [] xs ≡ None =
    (λ i. next_record default_config (cut'.0 i) [] [] (cut'.1 i)) ∙ none in
    absurd (some_none cut.1 here)
one_list_of k s s2 s3 xs ys zs (r ∷ rows) [] cut few enough cut' few' (inr full) = absurd (omega (arith, few, full))
one_list_of k s s2 s3 xs ys zs (r ∷ rows) (r' ∷ rows') cut few enough cut' few' enough' =
    let same : cut'.0 ≡ cut.0 = let e : Some cut'.0 ≡ Some cut.0 = sym cut'.1 ∙ cut.1 in cc in
    let first : r' ≡ r = cut'.2 ∙ ap (λ (p : Read). p.0) same ∙ sym cut.2 in
    let after : Reached default_config cut.0.1 cut.0.2 rows' s3 zs =
    subst (λ (p : Read). Reached default_config p.1 p.2 rows' s3 zs) same cut'.3 in
    let rest = one_list_of (k - 1) cut.0.1 s2 s3 cut.0.2 ys zs rows rows' cut.3 (omega (arith, few))
    (enough_behind k s2 ys r rows enough) after (omega (arith, few')) (enough_behind k s3 zs r' rows' enough') in
    (λ i. first i ∷ rest i)

pub one_list : FirstRowsAreOne
one_list text rows others first other =
    one_list_of 10001 _ _ _ _ _ _ rows others first.cut first.few first.enough other.cut other.few other.enough

-- the first rows from a state on: all of them, or k of more
record FirstRowsFrom (k : ℕ) (s : State) (xs : List ℕ) : Type 0 where
  rows : List Fields
  state : State
  rest : List ℕ
  cut : Reached default_config s xs rows state rest
  few : length rows ≤ k
  enough : AreEnough k state rest rows

first_rows_behind : (k : ℕ) (s : State) (xs : List ℕ) (o : Option Read) → next_record default_config s [] [] xs ≡ o
    → ((p : Read) → FirstRowsFrom k p.1 p.2) → FirstRowsFrom (suc k) s xs
unfolding Reached
first_rows_behind k s xs None none behind =
    record { rows = []; state = s; rest = xs; cut = (refl, refl); few = omega arith; enough = inl none }
first_rows_behind k s xs (Some p) some behind =
    let more = behind p in
    record {
      rows = p.0 ∷ more.rows;
      state = more.state;
      rest = more.rest;
      cut = (p, some, refl, more.cut);
      few = omega (arith, more.few);
      enough = elim more.enough [ inl none ↦ inl none | inr full ↦ inr (omega (arith, full)) ];
    }

first_rows_from : (k : ℕ) (s : State) (xs : List ℕ) → FirstRowsFrom k s xs
unfolding Reached
first_rows_from zero s xs =
    record { rows = []; state = s; rest = xs; cut = (refl, refl); few = omega arith; enough = inr refl }
first_rows_from (suc k) s xs =
    first_rows_behind k s xs (next_record default_config s [] [] xs) refl (λ p. first_rows_from k p.1 p.2)

pub first_rows : EachTextHasFirstRows
first_rows text =
    let first = first_rows_from 10001 st.StartRecord (strip_bom text) in (
      first.rows,
      record { state = first.state; rest = first.rest; cut = first.cut; few = first.few; enough = first.enough },
    )

-- what a reader has given of a text is these rows, and what it has left is the rest
abbrev pub HasRead : List ℕ → Reader (Bor (List ℕ)) → List Fields → Type 0
HasRead text r rows =
    (y : List ℕ) × (source_of (λ (s : Bor (List ℕ)). Some s.now) r ≡ Some y)
    × Reached default_config st.StartRecord (strip_bom text) rows r.state y

pub HasRead-more : {X : Type 0} (f : X → Fields) (text : List ℕ) (a b : Reader (Bor (List ℕ))) (rows more : List X)
    (row : X) → a.config ≡ default_config → HasRead text a (map f rows)
    → ReadRecord (λ (s : Bor (List ℕ)). Some s.now) a b true (f row) → more ≡ rows ++ row ∷ []
    → HasRead text b (map f more)
HasRead-more f text a b rows more row config so_far read pushed =
    rw (pushed, map-append f rows (row ∷ []))
    (rows-more (λ (s : Bor (List ℕ)). Some s.now) a b (f row) default_config st.StartRecord (strip_bom text) so_far.0
    (map f rows) config so_far.1 so_far.2 read)

pub AreFirstRows-full : (text : List ℕ) (r : Reader (Bor (List ℕ))) (rows : List Fields) → HasRead text r rows
    → length rows ≡ 10001 → AreFirstRows text rows
AreFirstRows-full text r rows so_far full =
    record { state = r.state; rest = so_far.0; cut = so_far.2; few = omega (arith, full); enough = inr full }

-- where no row is left
pub AreFirstRows-all : (text : List ℕ) (a b : Reader (Bor (List ℕ))) (rows : List Fields) → a.config ≡ default_config
    → HasRead text a rows → length rows < 10001 → ReadRecord (λ (s : Bor (List ℕ)). Some s.now) a b false []
    → AreFirstRows text rows
AreFirstRows-all text a b rows config so_far few read = record {
  state = a.state;
  rest = so_far.0;
  cut = so_far.2;
  few = omega (arith, few);
  enough = inl (rows-end (λ (s : Bor (List ℕ)). Some s.now) a b [] default_config so_far.0 config so_far.1 read);
}

-- where rows may be of unequal widths, a read of bytes fails for want of memory alone
pub is_want_of_memory-flexible : {R : Type 0} (rem : R → Option (List ℕ)) (a b : Reader R) (k : ErrorKind)
    → a.flexible ≡ true → ExplainsRead rem a b false k → is_want_of_memory k ≡ true
is_want_of_memory-flexible rem a b (kind.Io e) flexible why = refl
is_want_of_memory-flexible rem a b kind.OutOfMemory flexible why = refl
is_want_of_memory-flexible rem a b (kind.UnequalLengths pos expected len) flexible why =
    absurd (false≢true (sym why.0 ∙ flexible))
is_want_of_memory-flexible rem a b (kind.Utf8 pos err) flexible why = absurd (false≢true why.0)
is_want_of_memory-flexible rem a b (kind.Serialize text) flexible why = absurd why
is_want_of_memory-flexible rem a b (kind.Deserialize pos err) flexible why = absurd why
