-- Rows that are written are the first rows of their text.
use Rattle.std.proofs.Common.{arith, ◌≡◌, ◌≤◌, ◌+◌, ◌*◌, ℕ, suc, true, false, List, [], ◌∷◌, ◌++◌, length, get_or, refl}
use Rattle.std.proofs.Common.{sym, ap, subst, ◌∙◌, inl, inr, append_assoc, length-append}
use Rattle.std.specs.Prelude.{◌&&◌, ◌==◌, Bool, flat_map, nat_le, nat_lt}
use Rattle.std.specs.List.{list_all, list_any}
use Rattle.std.proofs.lemmas.Bool.{and_parts, cases_Bool}
use Rattle.std.proofs.lemmas.Bool.Decides.{nat_tests}
use Rattle.std.proofs.lemmas.Grind.{flat_map-append}
use Rattle.std.proofs.lemmas.List.{append-nil}
use Rattle.csv.specs.{Machine.next_record, Reading.Reached, Reading.default_config, Reading.strip_bom}
use Rattle.csv.specs.Writing.{default_writer, escaped, field_text, fields_text, is_blank, needs_byte, row_text}
use Rattle.csv.specs.declared.parser.State.TheVariants as st
use Rattle.csv.proofs.RoundTrip.{read-write}
use Rattle.fz_num.specs.Decimals.{are_digits, is_digit}
use Rattle.trace_io.specs.FirstRows.{AreFirstRows, Fields}
use Rattle.interrupt_plan.specs.Rows.{SpellAll}

-- ---- the first rows

-- its first field begins with a digit
abbrev pub StartsWithDigit : List ℕ → Type 0
StartsWithDigit [] = ⊥
StartsWithDigit (c ∷ cs) = is_digit c ≡ true

abbrev pub IsRow : Fields → Type 0
IsRow [] = ⊥
IsRow (f ∷ fs) = StartsWithDigit f

pub starts : (ds tail : List ℕ) → are_digits ds ≡ true → StartsWithDigit (ds ++ tail)
starts [] tail h = absurd cc
starts (c ∷ cs) tail h =
    let all = (and_parts (nat_lt 0 (length (c ∷ cs))) (list_all is_digit (c ∷ cs)) h).1 in
    (and_parts (is_digit c) (list_all is_digit cs) all).0

abbrev AreRows : List Fields → Type 0
AreRows [] = Unit {0}
AreRows (r ∷ rows) = IsRow r × AreRows rows

abbrev written : List Fields → List ℕ
written rows = flat_map (row_text default_writer) rows

abbrev head_of : List ℕ → ℕ
head_of text = get_or text 0 0

unmarked : (text : List ℕ) → (head_of text == 0xEF) ≡ false → strip_bom text ≡ text
unfolding strip_bom
unmarked [] h = refl
unmarked (a ∷ []) h = refl
unmarked (a ∷ b ∷ []) h = refl
unmarked (a ∷ b ∷ c ∷ rest) h = rw h refl

digit_head : (c : ℕ) (cs : List ℕ) (fs : Fields) (tail : List ℕ) → is_digit c ≡ true
    → (head_of (row_text default_writer ((c ∷ cs) ∷ fs) ++ tail) == 0xEF) ≡ false
digit_head c cs fs tail h = elim (cases_Bool (list_any (needs_byte default_writer) (c ∷ cs))) [
  | inl quoted ↦ rw quoted refl
  | inr plain ↦ rw plain (grind (arith, nat_tests, h))
]

row_head : (r : Fields) (tail : List ℕ) → IsRow r → (head_of (row_text default_writer r ++ tail) == 0xEF) ≡ false
row_head [] tail h = absurd h
row_head ([] ∷ fs) tail h = absurd h
row_head ((c ∷ cs) ∷ fs) tail h = digit_head c cs fs tail h

written_unmarked : (rows : List Fields) → AreRows rows → strip_bom (written rows) ≡ written rows
written_unmarked [] h = unmarked [] refl
written_unmarked (r ∷ rows) h = unmarked (written (r ∷ rows)) (row_head r (written rows) h.0)

reached : (rows : List Fields) → AreRows rows
    → Reached default_config st.StartRecord (written rows) rows st.StartRecord []
unfolding Reached
reached [] h = (refl, refl)
reached ([] ∷ rows) h = absurd h.0
reached ((f ∷ fs) ∷ rows) h =
    ((f ∷ fs, st.StartRecord, written rows), read-write (f ∷ fs) (written rows), refl, reached rows h.1)

first_rows : (rows : List Fields) → AreRows rows → length rows ≤ 10001 → AreFirstRows (written rows) rows
unfolding next_record
first_rows rows h few = record {
  state = st.StartRecord;
  rest = [];
  cut = subst (λ (text : List ℕ). Reached default_config st.StartRecord text rows st.StartRecord [])
      (sym (written_unmarked rows h)) (reached rows h);
  few = few;
  enough = inl refl;
}

-- ---- what rows spell

-- the text has rows that spell these, each in turn
pub record Writes {E : Type 0} (Spells : Fields → E → Type 0) (text : List ℕ) (es : List E) : Type 0 where
  pub rows : List Fields
  pub are : AreRows rows
  pub text_is : text ≡ written rows
  pub spelled : SpellAll Spells rows es

pub writes_none : {E : Type 0} (Spells : Fields → E → Type 0) → Writes Spells [] []
writes_none Spells = record { rows = []; are = tt; text_is = refl; spelled = tt }

more_rows : (rows : List Fields) (row : Fields) → AreRows rows → IsRow row → AreRows (rows ++ (row ∷ []))
more_rows [] row h is = (is, tt)
more_rows (r ∷ rows) row h is = (h.0, more_rows rows row h.1 is)

more_spelled : {E : Type 0} (Spells : Fields → E → Type 0) (rows : List Fields) (es : List E) (row : Fields) (e : E)
    → SpellAll Spells rows es → Spells row e → SpellAll Spells (rows ++ (row ∷ [])) (es ++ (e ∷ []))
more_spelled Spells [] [] row e h is = (is, tt)
more_spelled Spells [] (x ∷ es) row e h is = absurd h
more_spelled Spells (r ∷ rows) [] row e h is = absurd h
more_spelled Spells (r ∷ rows) (x ∷ es) row e h is = (h.0, more_spelled Spells rows es row e h.1 is)

pub writes_more : {E : Type 0} (Spells : Fields → E → Type 0) (text next : List ℕ) (es more : List E) (row : Fields)
    (e : E) → Writes Spells text es → IsRow row → Spells row e → next ≡ text ++ row_text default_writer row
    → more ≡ es ++ (e ∷ []) → Writes Spells next more
writes_more Spells text next es more row e h is spells next_is more_is = record {
  rows = h.rows ++ (row ∷ []);
  are = more_rows h.rows row h.are is;
  text_is = next_is ∙ ap (λ (t : List ℕ). t ++ row_text default_writer row) h.text_is
      ∙ ap (λ (t : List ℕ). written h.rows ++ t) (sym (append-nil (row_text default_writer row)))
      ∙ sym (flat_map-append (row_text default_writer) h.rows (row ∷ []));
  spelled = subst (SpellAll Spells (h.rows ++ (row ∷ []))) (sym more_is)
      (more_spelled Spells h.rows es row e h.spelled spells);
}

pub row_count : {E : Type 0} (Spells : Fields → E → Type 0) (rows : List Fields) (es : List E) → SpellAll Spells rows es
    → length rows ≡ length es
row_count Spells [] [] h = refl
row_count Spells [] (x ∷ es) h = absurd h
row_count Spells (r ∷ rows) [] h = absurd h
row_count Spells (r ∷ rows) (x ∷ es) h = ap (λ (n : ℕ). suc n) (row_count Spells rows es h.1)

pub written_rows : {E : Type 0} (Spells : Fields → E → Type 0) (text : List ℕ) (es : List E)
    → (h : Writes Spells text es) → length es ≤ 10001 → AreFirstRows text h.rows
written_rows Spells text es h few =
    subst (λ (t : List ℕ). AreFirstRows t h.rows) (sym h.text_is)
    (first_rows h.rows h.are (omega (arith, row_count Spells h.rows es h.spelled)))

-- ---- how long rows are

escaped_length : (f : List ℕ) → length (escaped default_writer f) ≤ 2 * length f
unfolding escaped
escaped_length [] = omega arith
escaped_length (b ∷ rest) = elim (cases_Bool (b == 34)) [
  | inl quote ↦ rw quote (omega (arith, escaped_length rest))
  | inr other ↦ rw other (omega (arith, escaped_length rest))
]

field_length : (f : List ℕ) → length (field_text default_writer f) ≤ 2 * length f + 2
field_length f = elim (cases_Bool (list_any (needs_byte default_writer) f)) [
  | inl quoted ↦ rw quoted (omega (arith, escaped_length f, length-append (escaped default_writer f) (34 ∷ [])))
  | inr plain ↦ rw plain (omega arith)
]

-- a row of at least two fields
pub pair_length : (f g : List ℕ)
    → length (row_text default_writer (f ∷ g ∷ [])) ≤ 2 * (length f + length g) + 6
unfolding fields_text is_blank
pair_length f g =
    let a = field_text default_writer f in
    let b = field_text default_writer g in
    omega (
      arith,
      field_length f,
      field_length g,
      length-append (a ++ (44 ∷ (b ++ []))) (10 ∷ []),
      length-append a (44 ∷ (b ++ [])),
      length-append b [],
    )

pub four_length : (f g h k : List ℕ)
    → length (row_text default_writer (f ∷ g ∷ h ∷ k ∷ [])) ≤ 2 * (length f + length g + length h + length k) + 12
unfolding fields_text is_blank
four_length f g h k =
    let a = field_text default_writer f in
    let b = field_text default_writer g in
    let c = field_text default_writer h in
    let d = field_text default_writer k in
    omega (
      arith,
      field_length f,
      field_length g,
      field_length h,
      field_length k,
      length-append (a ++ (44 ∷ (b ++ (44 ∷ (c ++ (44 ∷ (d ++ []))))))) (10 ∷ []),
      length-append a (44 ∷ (b ++ (44 ∷ (c ++ (44 ∷ (d ++ [])))))),
      length-append b (44 ∷ (c ++ (44 ∷ (d ++ [])))),
      length-append c (44 ∷ (d ++ [])),
      length-append d [],
    )

-- ---- rows whose fields need no quotes

-- a digit, a point or a capital up to F
abbrev pub is_plain : ℕ → Bool
is_plain c = nat_le 46 c && nat_le c 70

abbrev pub are_plain : List ℕ → Bool
are_plain cs = list_all is_plain cs

unquoted_byte : (c : ℕ) → is_plain c ≡ true → needs_byte default_writer c ≡ false
unquoted_byte c h =
    let comma : (c == 44) ≡ false = grind (arith, nat_tests, h) in
    let quote : (c == 34) ≡ false = grind (arith, nat_tests, h) in
    let return : (c == 13) ≡ false = grind (arith, nat_tests, h) in
    let feed : (c == 10) ≡ false = grind (arith, nat_tests, h) in
    rw (comma, quote, return, feed) refl

unquoted : (f : List ℕ) → are_plain f ≡ true → list_any (needs_byte default_writer) f ≡ false
unquoted [] h = refl
unquoted (c ∷ cs) h =
    let parts = and_parts (is_plain c) (are_plain cs) h in rw (unquoted_byte c parts.0) (unquoted cs parts.1)

abbrev pub joined : List ℕ → Fields → List ℕ
joined f [] = f ++ (10 ∷ [])
joined f (g ∷ gs) = f ++ (44 ∷ joined g gs)

fields_ended : (f : List ℕ) (gs : Fields) → list_all are_plain gs ≡ true
    → (f ++ fields_text default_writer gs) ++ (10 ∷ []) ≡ joined f gs
unfolding fields_text
fields_ended f [] h = append_assoc f [] (10 ∷ [])
fields_ended f (g ∷ gs) h =
    let parts = and_parts (are_plain g) (list_all are_plain gs) h in
    rw (unquoted g parts.0)
    (append_assoc f (44 ∷ (g ++ fields_text default_writer gs)) (10 ∷ [])
    ∙ ap (λ (l : List ℕ). f ++ (44 ∷ l)) (fields_ended g gs parts.1))

row_text-plain : (f g : List ℕ) (gs : Fields) → are_plain f ≡ true → list_all are_plain (g ∷ gs) ≡ true
    → row_text default_writer (f ∷ g ∷ gs) ≡ joined f (g ∷ gs)
unfolding is_blank
row_text-plain f g gs p ps = rw (unquoted f p) (fields_ended f (g ∷ gs) ps)

-- a field with its comma, and what stands behind them
append-field : (text f rest more : List ℕ) → more ≡ text ++ (f ++ (44 ∷ [])) → more ++ rest ≡ text ++ (f ++ (44 ∷ rest))
append-field text f rest more is =
    ap (λ (l : List ℕ). l ++ rest) is ∙ append_assoc text (f ++ (44 ∷ [])) rest
    ∙ ap (λ (l : List ℕ). text ++ l) (append_assoc f (44 ∷ []) rest)

pub pair_written : (f g t t1 t2 : List ℕ) → are_plain f ≡ true → are_plain g ≡ true
    → t1 ≡ t ++ (f ++ (44 ∷ [])) → t2 ≡ t1 ++ (g ++ (10 ∷ [])) → t2 ≡ t ++ row_text default_writer (f ∷ g ∷ [])
pair_written f g t t1 t2 p q e1 e2 =
    e2 ∙ append-field t f (g ++ (10 ∷ [])) t1 e1
    ∙ ap (λ (l : List ℕ). t ++ l) (sym (row_text-plain f g [] p (rw q refl)))

pub four_written : (f g h k t t1 t2 t3 t4 : List ℕ) → are_plain f ≡ true → are_plain g ≡ true → are_plain h ≡ true
    → are_plain k ≡ true → t1 ≡ t ++ (f ++ (44 ∷ [])) → t2 ≡ t1 ++ (g ++ (44 ∷ [])) → t3 ≡ t2 ++ (h ++ (44 ∷ []))
    → t4 ≡ t3 ++ (k ++ (10 ∷ [])) → t4 ≡ t ++ row_text default_writer (f ∷ g ∷ h ∷ k ∷ [])
four_written f g h k t t1 t2 t3 t4 pf pg ph pk e1 e2 e3 e4 =
    let last = k ++ (10 ∷ []) in
    let third = h ++ (44 ∷ last) in
    e4 ∙ append-field t2 h last t3 e3 ∙ append-field t1 g third t2 e2 ∙ append-field t f (g ++ (44 ∷ third)) t1 e1
    ∙ ap (λ (l : List ℕ). t ++ l) (sym (row_text-plain f g (h ∷ k ∷ []) pf (rw (pg, ph, pk) refl)))
