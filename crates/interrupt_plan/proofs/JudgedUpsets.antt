-- Each text spells upsets of an image, or has a first fault.
use Rattle.std.proofs.Common.{arith, ◌≡◌, ◌⊎◌, ◌<◌, ◌+◌, ℕ, Bool, true, false, List, [], ◌∷◌, ◌++◌, length, refl, sym}
use Rattle.std.proofs.Common.{ap, ap₂, ◌∙◌, inl, inr}
use Rattle.std.specs.Prelude.{Option, Some, None}
use Rattle.std.proofs.lemmas.Bool.{cases_lt}
use Rattle.std.proofs.lemmas.List.{length-append}
use Rattle.std.proofs.lemmas.List.Elements.{All-append, All-cons, All-nil}
use Rattle.cpu12_isa.specs.declared.instr.Write.{Write}
use Rattle.trace_io.specs.{FirstRows.Fields, OneReading.EachTextHasFirstRows}
use Rattle.trace_io.proofs.Algebra.{FailsFirst, at_element, judged, more_elements}
use Rattle.interrupt_plan.specs.declared.upsets.{Upset.Upset, UpsetFault.UpsetFault}
use Rattle.interrupt_plan.specs.declared.upsets.UpsetFault.TheVariants.{BadRow, NotTable, NotAscending, TooMany}
use Rattle.interrupt_plan.specs.OneReading.{EachUpsetsTextIsJudged}
use Rattle.interrupt_plan.specs.Rows.{FallsBehind, count_of, write_of}
use Rattle.interrupt_plan.specs.Upsets.{AreGoodUpsets, IsBefore, IsGoodUpset, is_table}
use Rattle.interrupt_plan.specs.UpsetTexts.{FallsBack, FirstUpsetFault, SpellUpsets, SpellsUpset, UpsetRowFails}
use Rattle.interrupt_plan.specs.UpsetTexts.{at_row, more, unread, not_table, not_ascending}
use Rattle.interrupt_plan.proofs.JudgedLemmas.{IsRead, last_judged, some_none}
use Rattle.interrupt_plan.proofs.{SpelledLemmas.ascends-snoc, SpelledLemmas.spell-snoc, SpelledLemmas.spelled-length}
use Rattle.interrupt_plan.proofs.UpsetLemmas.{good_upset}

-- ---- a row spells an upset or none

module _ (a b c : List ℕ) where
  abbrev fields : Fields
  fields = a ∷ b ∷ c ∷ []

  sample_of : (u : Upset) → SpellsUpset fields u → count_of a ≡ Some u.sample
  sample_of u spells = let is = spells.fields_are in
      let same : a ≡ spells.sample_text = cc in
      ap count_of same ∙ spells.sample_is

  write_by : (u : Upset) → SpellsUpset fields u → write_of b c ≡ Some (record { at = u.at; value = u.value })
  write_by u spells =
      let is = spells.fields_are in
      let address : b ≡ spells.address = cc in
      let value : c ≡ spells.value = cc in
      ap₂ (λ (x y : List ℕ). write_of x y) address value ∙ spells.write_is

  upset_by : (n : Option ℕ) (w : Option Write) → count_of a ≡ n → write_of b c ≡ w → IsRead SpellsUpset fields
  upset_by None w n_is w_is = inr (λ u spells. some_none (sample_of u spells) n_is)
  upset_by (Some n) None n_is w_is = inr (λ u spells. some_none (write_by u spells) w_is)
  upset_by (Some n) (Some w) n_is w_is = elim (cases_lt 0 n) [
    | inr not ↦ inr (λ u spells.
        let same : u.sample ≡ n = let e : Some u.sample ≡ Some n = sym (sample_of u spells) ∙ n_is in cc in
        omega (arith, not, same, spells.some))
    | inl some ↦ inl (
      record { sample = n; at = w.at; value = w.value },
      record {
        sample_text = a;
        address = b;
        value = c;
        fields_are = refl;
        sample_is = n_is;
        some = some;
        write_is = w_is;
      },
    )
  ]

count_wrong : (row : Fields) → (length row ≡ 3 → ⊥) → IsRead SpellsUpset row
count_wrong row wrong = inr (λ u spells. wrong (ap length spells.fields_are))

upset_read : (row : Fields) → IsRead SpellsUpset row
upset_read [] = count_wrong [] (λ e. omega (arith, e))
upset_read (a ∷ []) = count_wrong (a ∷ []) (λ e. omega (arith, e))
upset_read (a ∷ b ∷ []) = count_wrong (a ∷ b ∷ []) (λ e. omega (arith, e))
upset_read (a ∷ b ∷ c ∷ []) = upset_by a b c (count_of a) (write_of b c) refl refl
upset_read (a ∷ b ∷ c ∷ d ∷ rest) = count_wrong (a ∷ b ∷ c ∷ d ∷ rest) (λ e. omega (arith, e))

before_judged : (u v : Upset) → IsBefore u v ⊎ (IsBefore u v → ⊥)
before_judged u v = elim (cases_lt u.sample v.sample) [
  | inl before ↦ inl before
  | inr not ↦ inr (λ before. omega (arith, not, before))
]

-- ---- rows are upsets or have a first fault

module _ (image : List (ℕ × ℕ)) where
  abbrev Pass : List Fields → Type 0
  Pass rows = (us : List Upset) × SpellUpsets rows us × AreGoodUpsets image us

  abbrev Fails : List Fields → Fields → UpsetFault → Type 0
  Fails before row fault = (pass : Pass before) × UpsetRowFails image pass.0 (length before + 1) row fault

  one_more : (before : List Fields) (row : Fields) (pass : Pass before) (u : Upset) → length before < 10000
      → SpellsUpset row u → is_table image u.at ≡ true
      → ((front : List Upset) (last : Upset) → pass.0 ≡ front ++ last ∷ [] → IsBefore last u)
      → Pass (before ++ row ∷ [])
  one_more before row pass u few spells table up = (
    pass.0 ++ u ∷ [],
    spell-snoc SpellsUpset before pass.0 row u pass.1 spells,
    record {
      few = omega (arith, few, length-append pass.0 (u ∷ []), spelled-length SpellsUpset before pass.0 pass.1);
      each = All-append (IsGoodUpset image) pass.0 (u ∷ []) pass.2.each
          (All-cons (IsGoodUpset image) u [] (good_upset image row u spells table) (All-nil (IsGoodUpset image)));
      ascend = ascends-snoc IsBefore pass.0 u pass.2.ascend up;
    },
  )

  falls_back : (before : List Upset) (u : Upset) → FallsBehind IsBefore before u → FallsBack before u
  falls_back before u back = record {
    front = back.front;
    last = back.last;
    before_is = back.before_is;
    falls = elim (cases_lt back.last.sample u.sample) [ inl l ↦ absurd (back.falls l) | inr r ↦ r ];
  }

  placed : (before : List Fields) (row : Fields) (pass : Pass before) (u : Upset) → length before < 10000
      → SpellsUpset row u → (table : Bool) → is_table image u.at ≡ table
      → Pass (before ++ row ∷ []) ⊎ ((f : UpsetFault) × Fails before row f)
  placed before row pass u few spells false is =
      inr (NotTable (length before + 1) u.at, (pass, not_table u spells is))
  placed before row pass u few spells true is = elim (last_judged IsBefore before_judged pass.0 u) [
    | inl up ↦ inl (one_more before row pass u few spells is up)
    | inr back ↦ inr (
      NotAscending (length before + 1),
      (pass, not_ascending u spells is (falls_back pass.0 u back)),
    )
  ]

  judge : (before : List Fields) (row : Fields) → length before < 10000 → Pass before
      → Pass (before ++ row ∷ []) ⊎ ((f : UpsetFault) × Fails before row f)
  judge before row few pass = elim (upset_read row) [
    | inr none ↦ inr (BadRow (length before + 1), (pass, unread none))
    | inl own ↦ placed before row pass own.0 few own.1 (is_table image own.0.at) refl
  ]

  first_fault : (rows : List Fields) (f : UpsetFault) → FailsFirst Pass Fails 10000 TooMany rows f
      → FirstUpsetFault image rows f
  first_fault rows f (at_element before row after fault cut few pass fails) =
      at_row before row after fails.0.0 fault cut few fails.0.1 fails.0.2 fails.1
  first_fault rows f (more_elements before row after cut full pass) =
      more before row after pass.0 cut full pass.1 pass.2

  no_rows : Pass []
  no_rows = ([], tt, record { few = omega arith; each = All-nil (IsGoodUpset image); ascend = tt })

pub upsets_text_judged : EachTextHasFirstRows → EachUpsetsTextIsJudged
upsets_text_judged each image text =
    let first = each text in
    elim (judged (Pass image) (Fails image) 10000 TooMany (judge image) (no_rows image) first.0) [
      | inl all ↦ inl (
        all.0.0,
        record {
          rows = first.0;
          first = first.1;
          few = omega (arith, all.1);
          spelled = all.0.1;
          good = all.0.2;
        },
      )
      | inr fault ↦ inr (
        fault.0,
        record { rows = first.0; first = first.1; fault_is = first_fault image first.0 fault.0 fault.1 },
      )
    ]
