-- Rows and entries, one by one.
use Rattle.std.proofs.Common.{◌≡◌, ◌≤◌, ◌<◌, ◌+◌, ◌*◌, ◌-◌, ℕ, zero, suc, Bool, true, false, List, [], ◌∷◌, ◌++◌}
use Rattle.std.proofs.Common.{length, take, drop, get_or, min, refl, sym, ◌∙◌, ap, subst, arith, rules, fold, add-one}
use Rattle.std.proofs.Common.{drop-cons, take-append-drop}
use Rattle.std.specs.Prelude.{All, map, Result, Ok, Err, IfOk, Some, None, nat_le, nat_lt, ◌==◌, ◌&&◌, slice_get}
use Rattle.std.specs.Prelude.{if◌then◌else◌}
use Rattle.std.specs.List.{list_all}
use Rattle.std.proofs.Math.Seq.{take-suc}
use Rattle.std.proofs.lemmas.Bool.Decides.{nat_tests}
use Rattle.std.proofs.lemmas.List.{length-append, length-map, length-take-le, map-append}
use Rattle.std.proofs.lemmas.List.Elements.{All-append, All-cons, All-head, All-nil, All-tail}
use Rattle.std.proofs.lemmas.Str.Parse.{IsNumeralModel, numerals_by_fold, IsDigitsTest, FoldsDigits, digits_value_short}
use Rattle.csv.specs.Records.{Row, fields_of}
use Rattle.cpu12_isa.specs.{declared.instr.Write.Write, Regions.is_free}
use Rattle.trace_io.specs.FirstRows.{Fields}
use Rattle.fz_num.specs.Decimals.{is_digit, next_number, number}
use Rattle.interrupt_plan.specs.{declared.Request.Request, declared.Post.Post, declared.PlanFault.PlanFault}
use Rattle.interrupt_plan.proofs.{PairLemmas.length-writes, ByteLemmas.writes_small}
use Rattle.interrupt_plan.specs.declared.PlanFault.TheVariants.{TooMany}
use Rattle.interrupt_plan.specs.Plans.{SpellsRequest, writes_by, IsGood, IsGoodRequest, NotAfter}
use Rattle.interrupt_plan.specs.Posts.{AreGoodPosts, IsGoodPost, NoLater, SpellsPost, writes_in}
use Rattle.interrupt_plan.specs.Rows.{AreFree, AreInOrder, FirstFault, IsFirstTaken, RowFails, SpellAll, SpellsRow}
use Rattle.interrupt_plan.specs.Rows.{SpellsText, at_row, count_of, more, writes_of}
use Rattle.interrupt_plan.proofs.SpelledLemmas.{ascends-snoc, spelled-length, spell-snoc}

take_more : {X : Type 0} (xs : List X) (i : ℕ) (d : X) → i < length xs
    → take (i + 1) xs ≡ take i xs ++ get_or xs i d ∷ []
take_more xs i d lt = rw add-one (take-suc xs i d lt)

split_at : {X : Type 0} (xs : List X) (i : ℕ) (d : X) → i < length xs
    → xs ≡ take i xs ++ get_or xs i d ∷ drop (suc i) xs
split_at {X} xs i d lt = sym (ap (λ (l : List X). take i xs ++ l) (sym (drop-cons xs i d lt)) ∙ take-append-drop i xs)

pub take_all : {X : Type 0} (i : ℕ) (xs : List X) → length xs ≤ i → take i xs ≡ xs
take_all zero [] le = refl
take_all zero (x ∷ xs) le = absurd (omega arith)
take_all (suc i) [] le = refl
take_all {X} (suc i) (x ∷ xs) le = ap (λ (l : List X). x ∷ l) (take_all i xs (omega arith))

-- ---- numbers

abbrev AreDigits : List ℕ → Type 0
AreDigits ds = list_all is_digit ds ≡ true

abbrev number_after : ℕ → List ℕ → ℕ
number_after n ds = fold next_number n ds

tests_digits : IsDigitsTest AreDigits
tests_digits = search rules

folds : FoldsDigits number_after
folds = search rules

own : IsNumeralModel AreDigits number
own = numerals_by_fold AreDigits tests_digits number_after folds

small_number : (field : List ℕ) → length field ≤ 9 → AreDigits field → number field < 1000000000
small_number field few digits = digits_value_short own field 9 digits few

pub count_is : (field : List ℕ) (value : ℕ) → value ≡ min (number field) 1000000000 → length field ≤ 9
    → false ≡ (length field == 0) → AreDigits field
    → Some value ≡ count_of field
count_is field value is few some digits =
    let least : nat_lt 0 (length field) ≡ true = grind (arith, nat_tests) in
    let most : nat_le (length field) 9 ≡ true = grind (arith, nat_tests) in
    let exact : value ≡ number field = omega (arith, small_number field few digits) in
    rw (most, least, digits) (ap (λ (n : ℕ). Some n) exact)

pub count_small : (field : List ℕ) (n : ℕ) → count_of field ≡ Some n → n ≤ 999999999
count_small field n is =
    small_at (nat_le (length field) 9) (nat_lt 0 (length field)) (list_all is_digit field) refl refl is
  where
    small_at : (a b c : Bool) → nat_le (length field) 9 ≡ a → list_all is_digit field ≡ c
        → (if a && (b && c) then Some (number field) else None) ≡ Some n → n ≤ 999999999
    small_at true true true short digits same =
        let exact : number field ≡ n = cc in
        let few : length field ≤ 9 = grind (arith, nat_tests) in
        omega (arith, exact, small_number field few digits)
    small_at true true false short digits same = cc
    small_at true false c short digits same = cc
    small_at false b c short digits same = cc

-- ---- fields

pub behind_two : (fields : Fields) (j i : ℕ) → i ≡ j + 2 → get_or (drop 2 fields) j [] ≡ get_or fields i []
behind_two fields j i is = let e : i ≡ suc (suc j) = omega arith in
    at fields ∙ sym (ap (λ (k : ℕ). get_or fields k []) e)
  where
    at : (fields : Fields) → get_or (drop 2 fields) j [] ≡ get_or fields (suc (suc j)) []
    at [] = refl
    at (f ∷ []) = refl
    at (f ∷ g ∷ rest) = refl

pub length-behind_two : (fields : Fields) → 2 ≤ length fields → length fields ≡ length (drop 2 fields) + 2
length-behind_two [] some = absurd (omega arith)
length-behind_two (f ∷ []) some = absurd (omega arith)
length-behind_two (f ∷ g ∷ fields) some = omega arith

pub spelled_count : (fields : Fields) (a b : ℕ) (ws : List Write) → SpellsRow fields a b ws
    → length fields ≡ 2 * length ws + 2
spelled_count fields a b ws spelled =
    let two : 2 ≤ length fields = omega (arith, ap length spelled.numbers.fields_are) in
    omega (arith, length-behind_two fields two, length-writes (drop 2 fields) ws spelled.writes_are)

pub few_writes : (fields : Fields) (ws : List Write) → writes_of (drop 2 fields) ≡ Some ws → 2 ≤ length fields
    → length fields ≤ 18 → length ws ≤ 8
few_writes fields ws is some few = omega (arith, length-behind_two fields some, length-writes (drop 2 fields) ws is)

-- ---- writes

abbrev pub blank : Write
blank = record { at = 0; value = 0 }

pub taken_at : (writes : List Write) (i : ℕ) (d : Write) → i < length writes → AreFree (take i writes)
    → is_free (get_or writes i d).at ≡ false
    → IsFirstTaken writes (get_or writes i d).at
taken_at writes i d lt free taken = record {
  before = take i writes;
  write = get_or writes i d;
  after = drop (suc i) writes;
  writes_are = split_at writes i d lt;
  free = free;
  taken = taken;
  address = refl;
}

abbrev IsFreeWrite : Write → Type 0
IsFreeWrite w = is_free w.at ≡ true

pub free_more : (writes : List Write) (i : ℕ) (d : Write) → i < length writes → AreFree (take i writes)
    → is_free (get_or writes i d).at ≡ true
    → AreFree (take (i + 1) writes)
free_more writes i d lt free here =
    subst AreFree (sym (take_more writes i d lt))
    (All-append IsFreeWrite (take i writes) (get_or writes i d ∷ []) free
    (All-cons IsFreeWrite (get_or writes i d) [] here (All-nil IsFreeWrite)))

pub free_all : (writes : List Write) (i : ℕ) → length writes ≤ i → AreFree (take i writes) → AreFree writes
free_all writes i le free = subst AreFree (take_all i writes le) free

-- ---- entries

pub good_request : (fields : Fields) (r : Request) → SpellsRequest fields r → AreFree r.writes → IsGoodRequest r
good_request fields r spelled free = record {
  sample_from = spelled.some;
  sample_to = count_small spelled.row.numbers.first_text r.sample spelled.row.numbers.first_is;
  moment_to = count_small spelled.row.numbers.second_text r.moment spelled.row.numbers.second_is;
  few_writes = spelled.row.few;
  free = free;
}

good_requests : (rows : List Fields) (rs : List Request) → SpellAll SpellsRequest rows rs
    → All (λ r. AreFree (writes_by r)) rs → All IsGoodRequest rs
good_requests [] [] spelled free = All-nil IsGoodRequest
good_requests [] (r ∷ rs) spelled free = absurd spelled
good_requests (row ∷ rows) [] spelled free = absurd spelled
good_requests (row ∷ rows) (r ∷ rs) spelled free =
    All-cons IsGoodRequest r rs (good_request row r spelled.0 (All-head (λ e. AreFree (writes_by e)) r rs free))
    (good_requests rows rs spelled.1 (All-tail (λ e. AreFree (writes_by e)) r rs free))

pub good_plan : (rows : List Fields) (rs : List Request) → SpellAll SpellsRequest rows rs
    → AreInOrder writes_by NotAfter rs → IsGood rs
good_plan rows rs spelled order =
    record { few = order.few; requests = good_requests rows rs spelled order.free; ascends = order.ascends }

good_posts_of : (samples : ℕ) (rows : List Fields) (ps : List Post) → SpellAll (SpellsPost samples) rows ps
    → All (λ p. AreFree (writes_in p)) ps → All (IsGoodPost samples) ps
good_posts_of samples [] [] spelled free = All-nil (IsGoodPost samples)
good_posts_of samples [] (p ∷ ps) spelled free = absurd spelled
good_posts_of samples (row ∷ rows) [] spelled free = absurd spelled
good_posts_of samples (row ∷ rows) (p ∷ ps) spelled free =
    let own : IsGoodPost samples p =
    record {
      moment_to = spelled.0.moment_to;
      sample_to = spelled.0.sample_to;
      few_writes =
          spelled.0.row.few;
      free = All-head (λ e. AreFree (writes_in e)) p ps free;
      bytes =
          writes_small (drop 2 row) p.writes spelled.0.row.writes_are;
    } in
    All-cons (IsGoodPost samples) p ps own
    (good_posts_of samples rows ps spelled.1 (All-tail (λ e. AreFree (writes_in e)) p ps free))

pub good_posts : (samples : ℕ) (rows : List Fields) (ps : List Post) → SpellAll (SpellsPost samples) rows ps
    → AreInOrder writes_in NoLater ps → AreGoodPosts samples ps
good_posts samples rows ps spelled order =
    record { few = order.few; posts_are = good_posts_of samples rows ps spelled order.free; ascends = order.ascends }

last_at : {E : Type 0} (rs : List E) (n : ℕ) (r : E) → length rs ≡ suc n → Some r ≡ slice_get rs n
    → rs ≡ take n rs ++ r ∷ []
last_at {E} [] n r count is = absurd (omega arith)
last_at {E} (x ∷ []) zero r count is = let e : x ≡ r = cc in ap (λ (y : E). y ∷ []) e
last_at {E} (x ∷ y ∷ rs) zero r count is = absurd (omega arith)
last_at {E} (x ∷ rs) (suc n) r count is = ap (λ (l : List E). x ∷ l) (last_at rs n r (omega arith) is)

pub last_is : {E : Type 0} (rs : List E) (r : E) → Some r ≡ slice_get rs (length rs - 1)
    → rs ≡ take (length rs - 1) rs ++ r ∷ []
last_is {E} [] r is = cc
last_is {E} (x ∷ rs) r is = last_at (x ∷ rs) (length (x ∷ rs) - 1) r (omega arith) is

-- ---- the fields of the rows so far, of one row more, and of those behind

module _ (rows : List Row) (i : ℕ) (row : Row) (lt : i < length rows) (is : row ≡ get_or rows i row) where
  pub fields_more : map fields_of (take (i + 1) rows) ≡ map fields_of (take i rows) ++ fields_of row ∷ []
  fields_more = ap (map fields_of) (take_more rows i row lt ∙ ap (λ (r : Row). take i rows ++ r ∷ []) (sym is))
      ∙ map-append fields_of (take i rows) (row ∷ [])

  pub fields_split :
      map fields_of rows ≡ map fields_of (take i rows) ++ fields_of row ∷ map fields_of (drop (suc i) rows)
  fields_split = ap (map fields_of)
      (split_at rows i row lt ∙ ap (λ (r : Row). take i rows ++ r ∷ drop (suc i) rows) (sym is))
      ∙ map-append fields_of (take i rows) (row ∷ drop (suc i) rows)

  pub length-fields : length (map fields_of (take i rows)) ≡ i
  length-fields = rw length-map (length-take-le i rows (omega arith))

-- ---- one entry more

module _ {E : Type 0} (Spells : Fields → E → Type 0) (writes : E → List Write) (Follows : E → E → Type 0) where
  module _ (rows : List Row) (i : ℕ) (row : Row) (lt : i < length rows) (is : row ≡ get_or rows i row) (es : List E)
      (so_far : SpellAll Spells (map fields_of (take i rows)) es) (order : AreInOrder writes Follows es) where
    size : length (map fields_of (take i rows)) ≡ i
    size = length-fields rows i row lt is

    pub entries_more : (e : E) (es' : List E) → Spells (fields_of row) e → es' ≡ es ++ e ∷ []
        → SpellAll Spells (map fields_of (take (i + 1) rows)) es'
    entries_more e es' here added =
        rw (fields_more rows i row lt is, added)
        (spell-snoc Spells (map fields_of (take i rows)) es (fields_of row) e so_far here)

    pub order_more : (e : E) (es' : List E) → AreFree (writes e)
        → ((front : List E) (last : E) → es ≡ front ++ last ∷ [] → Follows last e) → i < 10000
        → es' ≡ es ++ e ∷ [] → AreInOrder writes Follows es'
    order_more e es' here follows few added =
        let count : length es ≡ i = spelled-length Spells (map fields_of (take i rows)) es so_far ∙ size in
        subst (AreInOrder writes Follows) (sym added) (record {
          few = omega (arith, length-append es (e ∷ []), count);
          free = All-append (λ x. AreFree (writes x)) es (e ∷ []) order.free
              (All-cons (λ x. AreFree (writes x)) e [] here (All-nil (λ x. AreFree (writes x))));
          ascends = ascends-snoc Follows es e order.ascends follows;
        })

    pub fault_at : (fault : PlanFault) (n : ℕ) → n ≡ i + 1 → i < 10000
        → RowFails Spells writes Follows es n (fields_of row) fault
        → FirstFault Spells writes Follows (map fields_of rows) fault
    fault_at fault n number few fails =
        let at : n ≡ length (map fields_of (take i rows)) + 1 = omega (arith, number, size) in
        at_row (map fields_of (take i rows)) (fields_of row) (map fields_of (drop (suc i) rows)) es fault
        (fields_split rows i row lt is) (omega (arith, size)) so_far order
        (subst (λ (k : ℕ). RowFails Spells writes Follows es k (fields_of row) fault) at fails)

    pub too_many : i ≡ 10000 → FirstFault Spells writes Follows (map fields_of rows) TooMany
    too_many many = more (map fields_of (take i rows)) (fields_of row) (map fields_of (drop (suc i) rows)) es
        (fields_split rows i row lt is) (size ∙ many) so_far order

  -- entries in order that are spelled and so good are good in a text
  pub good_text : (Good : List E → Type 0)
      → ((rows : List Fields) (es : List E) → SpellAll Spells rows es → AreInOrder writes Follows es → Good es)
      → (text : List ℕ) {F : Type 0} (r : Result (List E) F)
      → IfOk r (SpellsText Spells (AreInOrder writes Follows) text) → IfOk r (SpellsText Spells Good text)
  good_text Good good text (Ok es) s =
      record {
        rows = s.rows;
        first = s.first;
        few = s.few;
        spelled = s.spelled;
        good =
            good s.rows es s.spelled s.good;
      }
  good_text Good good text (Err f) s = s
