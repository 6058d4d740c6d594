-- Rows and upsets, one by one.
use Rattle.std.proofs.Common.{◌≡◌, ◌<◌, ◌+◌, ℕ, suc, Bool, true, false, List, [], ◌∷◌, ◌++◌, length, take, drop}
use Rattle.std.proofs.Common.{get_or, refl, sym, ◌∙◌, ap, ap₂, subst, arith}
use Rattle.std.specs.Prelude.{map, All}
use Rattle.std.proofs.lemmas.Bool.{false≢true}
use Rattle.std.proofs.lemmas.List.{length-append}
use Rattle.std.proofs.lemmas.List.Elements.{All-append, All-cons, All-nil}
use Rattle.csv.specs.Records.{Row, fields_of}
use Rattle.cpu12_isa.specs.declared.instr.Write.{Write}
use Rattle.trace_io.specs.{FirstRows.Fields, OneReading.FirstRowsAreOne}
use Rattle.trace_io.proofs.Algebra.{FailsFirst, at_element, more_elements, one_first_failure}
use Rattle.interrupt_plan.specs.declared.{upsets.Upset.Upset, upsets.UpsetFault.UpsetFault}
use Rattle.interrupt_plan.specs.declared.upsets.UpsetFault.TheVariants.{NotTable, TooMany}
use Rattle.interrupt_plan.specs.OneReading.{SpelledUpsetsAreOne, UpsetFaultsAreOne}
use Rattle.interrupt_plan.specs.{Rows.count_of, Rows.write_of}
use Rattle.interrupt_plan.specs.Upsets.{AreGoodUpsets, IsBefore, IsGoodUpset, is_table}
use Rattle.interrupt_plan.specs.UpsetTexts.{FirstUpsetFault, SpellUpsets, SpellsUpset, SpelledUpsetsHaveNoFault}
use Rattle.interrupt_plan.specs.UpsetTexts.{UpsetRowFails, at_row, more, unread, not_table, not_ascending}
use Rattle.interrupt_plan.proofs.{ByteLemmas.write_small, ApartLemmas.same_some}
use Rattle.interrupt_plan.proofs.PlanLemmas.{count_small, fields_more, fields_split, length-fields}
use Rattle.interrupt_plan.proofs.SpelledLemmas.{Split, ascends-snoc, entries_one, follows_last, own_of}
use Rattle.interrupt_plan.proofs.SpelledLemmas.{spelled-length, spell-snoc}
use Rattle.interrupt_plan.proofs.SpelledLemmas.{split_at}

pub good_upset : (image : List (ℕ × ℕ)) (fields : Fields) (u : Upset) → SpellsUpset fields u
    → is_table image u.at ≡ true → IsGoodUpset image u
good_upset image fields u spelled table = record {
  sample_from = spelled.some;
  sample_to = count_small spelled.sample_text u.sample spelled.sample_is;
  table = table;
  value = write_small spelled.address spelled.value (record { at = u.at; value = u.value }) spelled.write_is;
}

-- ---- one upset more

module _ (image : List (ℕ × ℕ)) (rows : List Row) (i : ℕ) (row : Row) (lt : i < length rows)
    (is : row ≡ get_or rows i row) (us : List Upset)
    (so_far : SpellUpsets (map fields_of (take i rows)) us) (good : AreGoodUpsets image us) where
  size : length (map fields_of (take i rows)) ≡ i
  size = length-fields rows i row lt is

  pub upsets_more : (u : Upset) (us' : List Upset) → SpellsUpset (fields_of row) u → us' ≡ us ++ u ∷ []
      → SpellUpsets (map fields_of (take (i + 1) rows)) us'
  upsets_more u us' here added =
      rw (fields_more rows i row lt is, added)
      (spell-snoc SpellsUpset (map fields_of (take i rows)) us (fields_of row) u so_far here)

  pub good_more : (u : Upset) (us' : List Upset) → IsGoodUpset image u
      → ((front : List Upset) (last : Upset) → us ≡ front ++ last ∷ [] → last.sample < u.sample) → i < 10000
      → us' ≡ us ++ u ∷ []
      → AreGoodUpsets image us'
  good_more u us' here above few added =
      let count : length us ≡ i = spelled-length SpellsUpset (map fields_of (take i rows)) us so_far ∙ size in
      subst (AreGoodUpsets image) (sym added) (record {
        few = omega (arith, length-append us (u ∷ []), count);
        each = All-append (IsGoodUpset image) us (u ∷ []) good.each
            (All-cons (IsGoodUpset image) u [] here (All-nil (IsGoodUpset image)));
        ascend = ascends-snoc IsBefore us u good.ascend above;
      })

  pub fault_at : (fault : UpsetFault) (n : ℕ) → n ≡ i + 1 → i < 10000 → UpsetRowFails image us n (fields_of row) fault
      → FirstUpsetFault image (map fields_of rows) fault
  fault_at fault n number few fails =
      let at : n ≡ length (map fields_of (take i rows)) + 1 = omega (arith, number, size) in
      at_row (map fields_of (take i rows)) (fields_of row) (map fields_of (drop (suc i) rows)) us fault
      (fields_split rows i row lt is) (omega (arith, size)) so_far good
      (subst (λ (k : ℕ). UpsetRowFails image us k (fields_of row) fault) at fails)

  pub too_many : i ≡ 10000 → FirstUpsetFault image (map fields_of rows) TooMany
  too_many many = more (map fields_of (take i rows)) (fields_of row) (map fields_of (drop (suc i) rows)) us
      (fields_split rows i row lt is) (size ∙ many) so_far good

-- ---- a text that spells upsets has no fault

upset_one : (fields : Fields) (u v : Upset) → SpellsUpset fields u → SpellsUpset fields v → u ≡ v
upset_one fields u v one other =
    let same : one.sample_text ∷ one.address ∷ one.value ∷ [] ≡ other.sample_text ∷ other.address ∷ other.value ∷ [] =
    sym one.fields_are ∙ other.fields_are in
    let sample_text : one.sample_text ≡ other.sample_text = cc in
    let address : one.address ≡ other.address = cc in
    let value : one.value ≡ other.value = cc in
    let sample : u.sample ≡ v.sample = same_some one.sample_is (ap count_of sample_text ∙ other.sample_is) in
    let w : Write = record { at = u.at; value = u.value } in
    let x : Write = record { at = v.at; value = v.value } in
    let write : w ≡ x = same_some one.write_is (ap₂ (λ (a b : List ℕ). write_of a b) address value ∙ other.write_is) in
    (λ i. record { sample = sample i; at = (write i).at; value = (write i).value })

module _ (image : List (ℕ × ℕ)) (before : List Fields) (row : Fields) (us upsets : List Upset)
    (good : AreGoodUpsets image upsets) (at : Split SpellsUpset before row upsets)
    (spelled : SpellUpsets before us) where
  row_apart : (n : ℕ) (fault : UpsetFault) → UpsetRowFails image us n row fault → ⊥
  row_apart n fault (unread none) = none at.own at.own_is
  row_apart n fault (not_table u spells outside) =
      let same : u ≡ at.own = upset_one row u at.own spells at.own_is in
      let fine = own_of (IsGoodUpset image) at.front at.own at.behind
      (subst (λ (l : List Upset). All (IsGoodUpset image) l) at.parts good.each) in
      let bad : true ≡ false = sym fine.table ∙ ap (λ (v : Upset). is_table image v.at) (sym same) ∙ outside in
      cc
  row_apart n fault (not_ascending u spells inside falls) =
      let own : u ≡ at.own = upset_one row u at.own spells at.own_is in
      let up = follows_last SpellsUpset upset_one IsBefore before row us upsets at spelled good.ascend falls.front
      falls.last falls.before_is in
      omega (arith, up, falls.falls, ap (λ (v : Upset). v.sample) own)

rows_apart : (image : List (ℕ × ℕ)) (rows : List Fields) (upsets : List Upset) (fault : UpsetFault)
    → length rows < 10001 → AreGoodUpsets image upsets
    → SpellUpsets rows upsets → FirstUpsetFault image rows fault → ⊥
rows_apart image rows upsets fault few good spelled (at_row before row after us f split lt front front_good fails) =
    let at = split_at SpellsUpset before row after upsets
    (subst (λ (rs : List Fields). SpellUpsets rs upsets) split spelled) in
    row_apart image before row us upsets good at front (length before + 1) f fails
rows_apart image rows upsets fault few good spelled (more before row after us split full front front_good) =
    omega (arith, few, full, ap length split, length-append before (row ∷ after))

pub upsets_apart : FirstRowsAreOne → SpelledUpsetsHaveNoFault
upsets_apart one image text upsets fault spells has =
    let same : has.rows ≡ spells.rows = one text spells.rows has.rows spells.first has.first in
    rows_apart image spells.rows upsets fault spells.few spells.good spells.spelled
    (subst (λ (rs : List Fields). FirstUpsetFault image rs fault) same has.fault_is)

-- ---- a text has one first fault

module _ (image : List (ℕ × ℕ)) where
  one_place : (row : Fields) (u v : Upset) (a b : Bool) → SpellsUpset row u → SpellsUpset row v
      → is_table image u.at ≡ a → is_table image v.at ≡ b → a ≡ b
  one_place row u v a b one other at at' =
      sym at ∙ ap (λ (x : Upset). is_table image x.at) (upset_one row u v one other) ∙ at'

  row_fault_one : (us vs : List Upset) (n : ℕ) (row : Fields) (f g : UpsetFault) → UpsetRowFails image us n row f
      → UpsetRowFails image vs n row g → f ≡ g
  row_fault_one us vs n row f g (unread none) (unread none') = refl
  row_fault_one us vs n row f g (unread none) (not_table u spells outside) = absurd (none u spells)
  row_fault_one us vs n row f g (unread none) (not_ascending u spells inside falls) = absurd (none u spells)
  row_fault_one us vs n row f g (not_table u spells outside) (unread none) = absurd (none u spells)
  row_fault_one us vs n row f g (not_table u spells outside) (not_table v spells' outside') =
      ap (λ (x : Upset). NotTable n x.at) (upset_one row u v spells spells')
  row_fault_one us vs n row f g (not_table u spells outside) (not_ascending v spells' inside falls) =
      absurd (false≢true (one_place row u v false true spells spells' outside inside))
  row_fault_one us vs n row f g (not_ascending u spells inside falls) (unread none) = absurd (none u spells)
  row_fault_one us vs n row f g (not_ascending u spells inside falls) (not_table v spells' outside) =
      absurd (false≢true (one_place row v u false true spells' spells outside inside))
  row_fault_one us vs n row f g (not_ascending u spells inside falls) (not_ascending v spells' inside' falls') = refl

  abbrev Pass : List Fields → Type 0
  Pass rows = (us : List Upset) × SpellUpsets rows us × AreGoodUpsets image us

  abbrev Fails : List Fields → Fields → UpsetFault → Type 0
  Fails before row fault =
      (us : List Upset) × SpellUpsets before us × UpsetRowFails image us (length before + 1) row fault

  fails_apart : (before : List Fields) (row : Fields) (after : List Fields) (fault : UpsetFault)
      → Fails before row fault → Pass (before ++ row ∷ after) → ⊥
  fails_apart before row after fault fails pass =
      row_apart image before row fails.0 pass.0 pass.2 (split_at SpellsUpset before row after pass.0 pass.1) fails.1
      (length before + 1) fault fails.2

  fails_first : (rows : List Fields) (fault : UpsetFault) → FirstUpsetFault image rows fault
      → FailsFirst Pass Fails 10000 TooMany rows fault
  fails_first rows fault (at_row b r a us f split lt front good fails) =
      at_element b r a fault split lt (us, front, good) (us, front, fails)
  fails_first rows fault (more b r a us split full front good) = more_elements b r a split full (us, front, good)

  fault_one : (rows : List Fields) (f g : UpsetFault) → FirstUpsetFault image rows f → FirstUpsetFault image rows g
      → f ≡ g
  fault_one rows f g first other =
      one_first_failure Pass Fails fails_apart
      (λ before row f g fails others. row_fault_one fails.0 others.0 (length before + 1) row f g fails.2 others.2)
      10000 TooMany rows f g (fails_first rows f first) (fails_first rows g other)

pub one_upset_fault : FirstRowsAreOne → UpsetFaultsAreOne
one_upset_fault one image text fault other has has' =
    let same : has'.rows ≡ has.rows = one text has.rows has'.rows has.first has'.first in
    fault_one image has.rows fault other has.fault_is
    (subst (λ (rs : List Fields). FirstUpsetFault image rs other) same has'.fault_is)

pub one_list_of_upsets : FirstRowsAreOne → SpelledUpsetsAreOne
one_list_of_upsets one image text upsets others spells spells' =
    entries_one SpellsUpset upset_one spells.rows upsets others spells.spelled
    (subst (λ (rs : List Fields). SpellUpsets rs others) (one text spells.rows spells'.rows spells.first spells'.first)
    spells'.spelled)
