-- Each text spells a plan, posts or levels, or has a first fault.
use Rattle.std.proofs.Common.{arith, ◌≡◌, ◌⊎◌, ◌<◌, ◌≤◌, ◌+◌, ℕ, zero, suc, Bool, true, false, List, [], ◌∷◌, ◌++◌}
use Rattle.std.proofs.Common.{length, refl, sym, ap, ◌∙◌, inl, inr, subst}
use Rattle.std.specs.Prelude.{All, map, Option, Some, None}
use Rattle.std.specs.List.Sorted.{IsNonDecreasing}
use Rattle.std.proofs.lemmas.Bool.{cases_lt}
use Rattle.std.proofs.lemmas.List.{length-append}
use Rattle.std.proofs.lemmas.List.Elements.{All-append, All-cons, All-head, All-nil, All-tail}
use Rattle.cpu12_isa.specs.{declared.instr.Write.Write, Regions.is_free}
use Rattle.trace_io.specs.{FirstRows.Fields, OneReading.EachTextHasFirstRows}
use Rattle.trace_io.proofs.Algebra.{FailsFirst, at_element, judged, more_elements}
use Rattle.interrupt_plan.specs.declared.{PlanFault.PlanFault, Post.Post}
use Rattle.interrupt_plan.specs.declared.levels.Level.{Level}
use Rattle.interrupt_plan.specs.declared.PlanFault.TheVariants.{BadRow, NotAscending, NotFree, TooMany}
use Rattle.interrupt_plan.specs.Levels.{AreGoodLevels, IsGoodLevel, LevelNotAfter, SpellsLevel, no_writes, numbers_of}
use Rattle.interrupt_plan.specs.OneReading.{EachLevelsTextIsJudged, EachPlanTextIsJudged, EachPostsTextIsJudged}
use Rattle.interrupt_plan.specs.Plans.{IsGood, NotAfter, SpellsRequest, writes_by}
use Rattle.interrupt_plan.specs.Posts.{AreGoodPosts, NoLater, SpellsPost, writes_in}
use Rattle.interrupt_plan.specs.Rows.{AreFree, AreInOrder, FallsBehind, FirstFault, HasFirstFault, HasNumbers}
use Rattle.interrupt_plan.specs.Rows.{IsFirstTaken, NoLaterThan, RowFails, SpellAll, SpellsRow, SpellsText, at_row}
use Rattle.interrupt_plan.specs.Rows.{count_of, more, not_ascending, not_free, unread, writes_of}
use Rattle.interrupt_plan.proofs.{ApartLemmas.numbers_one, LevelLemmas.good_levels, LevelLemmas.one_numbers}
use Rattle.interrupt_plan.proofs.{LevelLemmas.small_numbers, PlanLemmas.good_plan, PlanLemmas.good_posts}
use Rattle.interrupt_plan.proofs.SpelledLemmas.{ascends-snoc, spell-snoc, spelled-length}

-- a row spells an entry or none
abbrev pub IsRead : {E : Type 0} → (Fields → E → Type 0) → Fields → Type 0
IsRead {E} Spells fields = ((e : E) × Spells fields e) ⊎ ((e : E) → Spells fields e → ⊥)

pub some_none : {X : Type 0} {o : Option X} {x : X} → o ≡ Some x → o ≡ None → ⊥
some_none {X} {o} {x} some none = let bad : Some x ≡ None = sym some ∙ none in cc

-- ---- what stands before an entry: nothing, or a last one

pub last_judged : {E : Type 0} (Follows : E → E → Type 0) (follows : (a b : E) → Follows a b ⊎ (Follows a b → ⊥))
    (es : List E) (e : E)
    → ((front : List E) (last : E) → es ≡ front ++ last ∷ [] → Follows last e) ⊎ FallsBehind Follows es e
last_judged Follows follows [] e = inl (λ front last is. absurd (omega (
  arith,
  ap length is,
  length-append front (last ∷ []),
)))
last_judged {E} Follows follows (a ∷ []) e = elim (follows a e) [
  | inl up ↦ inl (only_last up)
  | inr down ↦ inr (record { front = []; last = a; before_is = refl; falls = down })
]
  where
    only_last : Follows a e → (front : List E) (last : E) → a ∷ [] ≡ front ++ last ∷ [] → Follows last e
    only_last up [] last is = let same : a ≡ last = cc in subst (λ (x : E). Follows x e) same up
    only_last up (b ∷ front) last is = absurd (omega (arith, ap length is, length-append front (last ∷ [])))
last_judged {E} Follows follows (a ∷ b ∷ es) e = elim (last_judged Follows follows (b ∷ es) e) [
  | inl up ↦ inl (behind up)
  | inr down ↦ inr (record {
    front = a ∷ down.front;
    last = down.last;
    before_is = ap (λ (l : List E). a ∷ l) down.before_is;
    falls = down.falls;
  })
]
  where
    behind : ((front : List E) (last : E) → b ∷ es ≡ front ++ last ∷ [] → Follows last e)
        → (front : List E) (last : E) → a ∷ b ∷ es ≡ front ++ last ∷ [] → Follows last e
    behind up [] last is = absurd (omega (arith, ap length is))
    behind up (c ∷ front) last is = let rest : b ∷ es ≡ front ++ last ∷ [] = cc in up front last rest

-- ---- writes are all free, or one is the first that is not

writes_at : (w : Write) (ws : List Write) (free : Bool) → is_free w.at ≡ free
    → AreFree ws ⊎ ((at : ℕ) × IsFirstTaken ws at) → AreFree (w ∷ ws) ⊎ ((at : ℕ) × IsFirstTaken (w ∷ ws) at)
writes_at w ws false taken rest = inr (
  w.at,
  record {
    before = [];
    write = w;
    after = ws;
    writes_are = refl;
    free = All-nil (λ (v : Write). is_free v.at ≡ true);
    taken = taken;
    address = refl;
  },
)
writes_at w ws true free (inl rest) = inl (All-cons (λ (v : Write). is_free v.at ≡ true) w ws free rest)
writes_at w ws true free (inr first) = inr (
  first.0,
  record {
    before = w ∷ first.1.before;
    write = first.1.write;
    after = first.1.after;
    writes_are = ap (λ (l : List Write). w ∷ l) first.1.writes_are;
    free = All-cons (λ (v : Write). is_free v.at ≡ true) w first.1.before free first.1.free;
    taken = first.1.taken;
    address = first.1.address;
  },
)

writes_judged : (ws : List Write) → AreFree ws ⊎ ((at : ℕ) × IsFirstTaken ws at)
writes_judged [] = inl (All-nil (λ (w : Write). is_free w.at ≡ true))
writes_judged (w ∷ ws) = writes_at w ws (is_free w.at) refl (writes_judged ws)

-- ---- rows are entries or have a first fault

module _ {E : Type 0} (Spells : Fields → E → Type 0) (writes : E → List Write) (Follows : E → E → Type 0)
    (read : (fields : Fields) → IsRead Spells fields)
    (follows : (a b : E) → Follows a b ⊎ (Follows a b → ⊥)) where
  abbrev Pass : List Fields → Type 0
  Pass rows = (es : List E) × SpellAll Spells rows es × AreInOrder writes Follows es

  abbrev Fails : List Fields → Fields → PlanFault → Type 0
  Fails before row fault = (pass : Pass before) × RowFails Spells writes Follows pass.0 (length before + 1) row fault

  one_more : (before : List Fields) (row : Fields) (pass : Pass before) (e : E) → length before < 10000
      → Spells row e → AreFree (writes e)
      → ((front : List E) (last : E) → pass.0 ≡ front ++ last ∷ [] → Follows last e) → Pass (before ++ row ∷ [])
  one_more before row pass e few spells free up = (
    pass.0 ++ e ∷ [],
    spell-snoc Spells before pass.0 row e pass.1 spells,
    record {
      few = omega (arith, few, length-append pass.0 (e ∷ []), spelled-length Spells before pass.0 pass.1);
      free = All-append (λ x. AreFree (writes x)) pass.0 (e ∷ []) pass.2.free
          (All-cons (λ x. AreFree (writes x)) e [] free (All-nil (λ x. AreFree (writes x))));
      ascends = ascends-snoc Follows pass.0 e pass.2.ascends up;
    },
  )

  judge : (before : List Fields) (row : Fields) → length before < 10000 → Pass before
      → Pass (before ++ row ∷ []) ⊎ ((f : PlanFault) × Fails before row f)
  judge before row few pass = elim (read row) [
    | inr none ↦ inr (BadRow (length before + 1), (pass, unread none))
    | inl own ↦ elim (writes_judged (writes own.0)) [
      | inr taken ↦ inr (NotFree (length before + 1) taken.0, (pass, not_free own.0 taken.0 own.1 taken.1))
      | inl free ↦ elim (last_judged Follows follows pass.0 own.0) [
        | inl up ↦ inl (one_more before row pass own.0 few own.1 free up)
        | inr falls ↦ inr (NotAscending (length before + 1), (pass, not_ascending own.0 own.1 free falls))
      ]
    ]
  ]

  first_fault : (rows : List Fields) (f : PlanFault) → FailsFirst Pass Fails 10000 TooMany rows f
      → FirstFault Spells writes Follows rows f
  first_fault rows f (at_element before row after fault cut few pass fails) =
      at_row before row after fails.0.0 fault cut few fails.0.1 fails.0.2 fails.1
  first_fault rows f (more_elements before row after cut full pass) =
      more before row after pass.0 cut full pass.1 pass.2

  no_rows : Pass []
  no_rows = ([], tt, record { few = omega arith; free = All-nil (λ x. AreFree (writes x)); ascends = tt })

  text_judged : EachTextHasFirstRows → (Good : List E → Type 0)
      → ((rows : List Fields) (es : List E) → SpellAll Spells rows es → AreInOrder writes Follows es → Good es)
      → (text : List ℕ) → ((es : List E) × SpellsText Spells Good text es)
      ⊎ ((f : PlanFault) × HasFirstFault Spells writes Follows text f)
  text_judged each Good good text =
      let first = each text in
      elim (judged Pass Fails 10000 TooMany judge no_rows first.0) [
        | inl all ↦ inl (
          all.0.0,
          record {
            rows = first.0;
            first = first.1;
            few = omega (arith, all.1);
            spelled = all.0.1;
            good = good first.0 all.0.0 all.0.1 all.0.2;
          },
        )
        | inr fault ↦ inr (
          fault.0,
          record { rows = first.0; first = first.1; fault_is = first_fault first.0 fault.0 fault.1 },
        )
      ]

-- ---- plans and posts

moments_judged : (a b : ℕ × ℕ) → NoLaterThan a b ⊎ (NoLaterThan a b → ⊥)
moments_judged a b = elim (cases_lt a.0 b.0) [
  | inl before ↦ inl (inl before)
  | inr not ↦ elim (cases_lt b.0 a.0) [
    | inl behind ↦ inr (λ early. elim early [ inl l ↦ omega (arith, l, behind) | inr same ↦ omega (arith, same.0, behind) ])
    | inr reached ↦ elim (cases_lt b.1 a.1) [
      | inl later ↦ inr (λ early. elim early [ inl l ↦ omega (arith, l, not) | inr same ↦ omega (arith, same.1, later) ])
      | inr rises ↦ inl (inr (omega (arith, not, reached), rises))
    ]
  ]
]

abbrev Parts : Type 0
Parts = ℕ × (ℕ × List Write)

abbrev SpellsParts : Fields → Parts → Type 0
SpellsParts fields parts = SpellsRow fields parts.0 parts.1.0 parts.1.1

no_fields : (a b : ℕ) → HasNumbers [] a b → ⊥
no_fields a b numbers = omega (arith, ap length numbers.fields_are)

one_field : (f : List ℕ) (a b : ℕ) → HasNumbers (f ∷ []) a b → ⊥
one_field f a b numbers = omega (arith, ap length numbers.fields_are)

module _ (f g : List ℕ) (pairs : Fields) where
  first_number : (a b : ℕ) → HasNumbers (f ∷ g ∷ pairs) a b → count_of f ≡ Some a
  first_number a b numbers =
      let same : f ≡ numbers.first_text = let is = numbers.fields_are in cc in
      ap count_of same ∙ numbers.first_is

  second_number : (a b : ℕ) → HasNumbers (f ∷ g ∷ pairs) a b → count_of g ≡ Some b
  second_number a b numbers =
      let same : g ≡ numbers.second_text = let is = numbers.fields_are in cc in
      ap count_of same ∙ numbers.second_is

  parts_by : (a b : Option ℕ) (ws : Option (List Write)) → count_of f ≡ a → count_of g ≡ b → writes_of pairs ≡ ws
      → IsRead SpellsParts (f ∷ g ∷ pairs)
  parts_by None b ws a_is b_is ws_are =
      inr (λ parts row. some_none (first_number parts.0 parts.1.0 row.numbers) a_is)
  parts_by (Some a) None ws a_is b_is ws_are =
      inr (λ parts row. some_none (second_number parts.0 parts.1.0 row.numbers) b_is)
  parts_by (Some a) (Some b) None a_is b_is ws_are = inr (λ parts row. some_none row.writes_are ws_are)
  parts_by (Some a) (Some b) (Some ws) a_is b_is ws_are = elim (cases_lt 8 (length ws)) [
    | inl many ↦ inr (λ parts row.
        let same : parts.1.1 ≡ ws = let e : Some parts.1.1 ≡ Some ws = sym row.writes_are ∙ ws_are in cc in
        omega (arith, many, row.few, ap length same))
    | inr few ↦ inl (
      (a, (b, ws)),
      record {
        numbers = record {
          first_text = f;
          second_text = g;
          pairs = pairs;
          fields_are = refl;
          first_is = a_is;
          second_is = b_is;
        };
        writes_are = ws_are;
        few = few;
      },
    )
  ]

parts_read : (fields : Fields) → IsRead SpellsParts fields
parts_read [] = inr (λ parts row. no_fields parts.0 parts.1.0 row.numbers)
parts_read (f ∷ []) = inr (λ parts row. one_field f parts.0 parts.1.0 row.numbers)
parts_read (f ∷ g ∷ pairs) = parts_by f g pairs (count_of f) (count_of g) (writes_of pairs) refl refl refl

request_read : (fields : Fields) → IsRead SpellsRequest fields
request_read fields = elim (parts_read fields) [
  | inr none ↦ inr (λ r spells. none (r.sample, (r.moment, r.writes)) spells.row)
  | inl parts ↦ elim (cases_lt 0 parts.0.0) [
    | inl some ↦ inl (
      record { sample = parts.0.0; moment = parts.0.1.0; writes = parts.0.1.1 },
      record { row = parts.1; some = some },
    )
    | inr not ↦ inr (λ r spells.
        let same = numbers_one fields parts.0.0 parts.0.1.0 r.sample r.moment parts.1.numbers spells.row.numbers in
        omega (arith, not, same.0, spells.some))
  ]
]

post_read : (samples : ℕ) (fields : Fields) → IsRead (SpellsPost samples) fields
post_read samples fields = elim (parts_read fields) [
  | inr none ↦ inr (λ p spells. none (p.moment, (p.sample, p.writes)) spells.row)
  | inl parts ↦ elim (cases_lt 1000000 parts.0.0) [
    | inl late ↦ inr (λ p spells.
        let same = numbers_one fields parts.0.0 parts.0.1.0 p.moment p.sample parts.1.numbers spells.row.numbers in
        omega (arith, late, same.0, spells.moment_to))
    | inr early ↦ elim (cases_lt samples parts.0.1.0) [
      | inl over ↦ inr (λ p spells.
          let same = numbers_one fields parts.0.0 parts.0.1.0 p.moment p.sample parts.1.numbers spells.row.numbers in
          omega (arith, over, same.1, spells.sample_to))
      | inr within ↦ inl (
        record { moment = parts.0.0; sample = parts.0.1.0; writes = parts.0.1.1 },
        record { row = parts.1; moment_to = early; sample_to = within },
      )
    ]
  ]
]

later_judged : (a b : Post) → NoLater a b ⊎ (NoLater a b → ⊥)
later_judged a b = elim (cases_lt b.moment a.moment) [
  | inl later ↦ inr (λ early. omega (arith, later, early))
  | inr early ↦ inl early
]

pub plan_text_judged : EachTextHasFirstRows → EachPlanTextIsJudged
plan_text_judged each =
    text_judged SpellsRequest writes_by NotAfter request_read
    (λ a b. moments_judged (a.sample, a.moment) (b.sample, b.moment)) each IsGood good_plan

pub posts_text_judged : EachTextHasFirstRows → EachPostsTextIsJudged
posts_text_judged each samples =
    text_judged (SpellsPost samples) writes_in NoLater (post_read samples) later_judged each (AreGoodPosts samples)
    (good_posts samples)

-- ---- levels

abbrev AreNumbers : Fields → List ℕ → Type 0
AreNumbers fields ns = map count_of fields ≡ map Some ns

first_number_of : (f : List ℕ) (fields : Fields) (ns : List ℕ) → AreNumbers (f ∷ fields) ns → count_of f ≡ None → ⊥
first_number_of f fields [] are none = cc
first_number_of f fields (n ∷ ns) are none = let some : count_of f ≡ Some n = cc in some_none some none

numbers_behind : (f : List ℕ) (fields : Fields) → ((ns : List ℕ) → AreNumbers fields ns → ⊥) → (ns : List ℕ)
    → AreNumbers (f ∷ fields) ns → ⊥
numbers_behind f fields none [] are = cc
numbers_behind f fields none (m ∷ ns) are = let rest : AreNumbers fields ns = cc in none ns rest

numbers_at : (f : List ℕ) (fields : Fields) (o : Option ℕ) → count_of f ≡ o → IsRead AreNumbers fields
    → IsRead AreNumbers (f ∷ fields)
numbers_at f fields None none rest = inr (λ ns are. first_number_of f fields ns are none)
numbers_at f fields (Some n) some (inl rest) = inl (n ∷ rest.0, (λ i. some i ∷ rest.1 i))
numbers_at f fields (Some n) some (inr none) = inr (numbers_behind f fields none)

numbers_read : (fields : Fields) → IsRead AreNumbers fields
numbers_read [] = inl ([], refl)
numbers_read (f ∷ fields) = numbers_at f fields (count_of f) refl (numbers_read fields)

rises_behind : (x y : ℕ) (ns : List ℕ) → x ≤ y → IsNonDecreasing (y ∷ ns) → IsNonDecreasing (x ∷ y ∷ ns)
rises_behind x y ns le rise zero zero d order lt = omega arith
rises_behind x y ns le rise zero (suc j) d order lt = omega (arith, le, rise zero j d (omega arith) (omega (arith, lt)))
rises_behind x y ns le rise (suc i) zero d order lt = absurd (omega (arith, order))
rises_behind x y ns le rise (suc i) (suc j) d order lt = rise i j d (omega (arith, order)) (omega (arith, lt))

rises_judged : (ns : List ℕ) → IsNonDecreasing ns ⊎ (IsNonDecreasing ns → ⊥)
rises_judged [] = inl (λ i j d order lt. absurd (omega (arith, lt)))
rises_judged (x ∷ []) = inl one
  where
    one : IsNonDecreasing (x ∷ [])
    one zero zero d order lt = omega arith
    one i (suc j) d order lt = absurd (omega (arith, lt))
    one (suc i) zero d order lt = absurd (omega (arith, order))
rises_judged (x ∷ y ∷ ns) = elim (cases_lt y x) [
  | inl falls ↦ inr (λ rise. omega (arith, falls, rise zero (suc zero) 0 (omega arith) (omega arith)))
  | inr up ↦ elim (rises_judged (y ∷ ns)) [
    | inl rise ↦ inl (rises_behind x y ns up rise)
    | inr falls ↦ inr (λ rise. falls (λ i j d order lt. rise (suc i) (suc j) d (omega (arith, order)) (omega (arith, lt))))
  ]
]

answered_judged : (answered : ℕ) (inner : List ℕ) → (answered ≡ 0 → inner ≡ []) ⊎ ((answered ≡ 0 → inner ≡ []) → ⊥)
answered_judged zero [] = inl (λ none. refl)
answered_judged zero (n ∷ inner) = inr (λ none. omega (arith, ap length (none refl)))
answered_judged (suc n) inner = inl (λ none. absurd (omega (arith, none)))

module _ (fast sample moment answered : ℕ) (inner : List ℕ) where
  abbrev level : Level
  level = record { sample = sample; moment = moment; fast = answered; inner = record { items = inner } }

  -- the numbers tell this level alone
  alone : (l : Level) → sample ∷ moment ∷ answered ∷ inner ≡ numbers_of l → IsGoodLevel fast l → IsGoodLevel fast level
  alone l is good =
      let s : l.sample ≡ sample = cc in
      let m : l.moment ≡ moment = cc in
      let a : l.fast ≡ answered = cc in
      let n : l.inner.items ≡ inner = cc in
      let same : l ≡ level = (λ i. record { sample = s i; moment = m i; fast = a i; inner = record { items = n i } }) in
      subst (IsGoodLevel fast) same good

  level_judged : All (λ n. n ≤ 999999999) (sample ∷ moment ∷ answered ∷ inner)
      → IsGoodLevel fast level ⊎ (IsGoodLevel fast level → ⊥)
  level_judged small = elim (cases_lt 0 sample) [
    | inr not ↦ inr (λ good. omega (arith, not, good.sample_from))
    | inl some ↦ elim (cases_lt fast answered) [
      | inl over ↦ inr (λ good. omega (arith, over, good.fast_to))
      | inr within ↦ elim (cases_lt 8 (length inner)) [
        | inl many ↦ inr (λ good. omega (arith, many, good.few))
        | inr few ↦ elim (rises_judged inner) [
          | inr falls ↦ inr (λ good. falls good.inner_rise)
          | inl rise ↦ elim (answered_judged answered inner) [
            | inr waste ↦ inr (λ good. waste good.none)
            | inl none ↦ inl (good_by some within few rise none small)
          ]
        ]
      ]
    ]
  ]
    where
      good_by : 0 < sample → answered ≤ fast → length inner ≤ 8 → IsNonDecreasing inner
          → (answered ≡ 0 → inner ≡ []) → All (λ n. n ≤ 999999999) (sample ∷ moment ∷ answered ∷ inner)
          → IsGoodLevel fast level
      good_by some within few rise none small =
          let behind = All-tail (λ n. n ≤ 999999999) sample (moment ∷ answered ∷ inner) small in
          let inner_small = All-tail (λ n. n ≤ 999999999) moment (answered ∷ inner) behind in
          record {
            sample_from = some;
            sample_to = All-head (λ n. n ≤ 999999999) sample (moment ∷ answered ∷ inner) small;
            moment_to = All-head (λ n. n ≤ 999999999) moment (answered ∷ inner) behind;
            fast_to = within;
            few = few;
            inner_to = All-tail (λ n. n ≤ 999999999) answered inner inner_small;
            inner_rise = rise;
            none = none;
          }

level_read : (fast : ℕ) (fields : Fields) → IsRead (SpellsLevel fast) fields
level_read fast fields = elim (numbers_read fields) [
  | inr none ↦ inr (λ l spells. none (numbers_of l) spells.numbers)
  | inl numbers ↦ by_numbers numbers.0 numbers.1
]
  where
    fewer : (ns : List ℕ) → AreNumbers fields ns → length ns < 3 → IsRead (SpellsLevel fast) fields
    fewer ns are few = inr (λ l spells. omega (
      arith,
      few,
      ap length (one_numbers fields ns (numbers_of l) are
          spells.numbers),
    ))

    by_numbers : (ns : List ℕ) → AreNumbers fields ns → IsRead (SpellsLevel fast) fields
    by_numbers [] are = fewer [] are (omega arith)
    by_numbers (a ∷ []) are = fewer (a ∷ []) are (omega arith)
    by_numbers (a ∷ b ∷ []) are = fewer (a ∷ b ∷ []) are (omega arith)
    by_numbers (a ∷ b ∷ c ∷ inner) are =
        elim (level_judged fast a b c inner (small_numbers fields (a ∷ b ∷ c ∷ inner) are)) [
          | inl good ↦ inl (level fast a b c inner, record { numbers = are; good = good })
          | inr bad ↦ inr (λ l spells. bad (alone fast a b c inner l
              (one_numbers fields (a ∷ b ∷ c ∷ inner) (numbers_of l) are spells.numbers) spells.good))
        ]

pub levels_text_judged : EachTextHasFirstRows → EachLevelsTextIsJudged
levels_text_judged each fast =
    text_judged (SpellsLevel fast) no_writes LevelNotAfter (level_read fast)
    (λ a b. moments_judged (a.sample, a.moment) (b.sample, b.moment)) each (AreGoodLevels fast) (good_levels fast)
