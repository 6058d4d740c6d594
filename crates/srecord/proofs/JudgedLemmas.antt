-- Each text gives an image or has a fault.
use Rattle.std.proofs.Common.{◌≡◌, ℕ, zero, suc, ◌+◌, ◌-◌, ◌*◌, ◌<◌, ◌≤◌, false, List, [], ◌∷◌, ◌++◌, length, take}
use Rattle.std.proofs.Common.{drop, get_or, Option, Some, None, IsSome, refl, sym, ap, subst, ◌∙◌, arith, inl, inr}
use Rattle.std.proofs.Common.{append_assoc}
use Rattle.std.specs.Prelude.{◌⊎◌, Result, Ok, Err}
use Rattle.std.proofs.lemmas.Bool.{cases_Bool, cases_lt, cases_eq}
use Rattle.std.proofs.lemmas.List.{append-nil, length-drop, length-take-le, take-append-drop}
use Rattle.std.specs.Str.Lines.{lines}
use Rattle.hex.specs.{Hex.decode_of, declared.error.FromHexError.FromHexError}
use Rattle.cpu12_asm.specs.{Bytes.byte_at, Bytes.placed, declared.image.Image.Image}
use Rattle.srecord.specs.declared.{fault.SrecFault.SrecFault, fields.Kind.Kind}
use Rattle.srecord.specs.Lines.{body_of, checksum_of, FieldsFail, FitsKind, HasGoodFields, Opens, OpeningFails}
use Rattle.srecord.specs.Lines.{is_wide, kind_of, parts_of, unread, wide}
use Rattle.srecord.specs.Texts.{Give, Given, GivesImage, HasFault, IsRecord, LineFails, MayFollow, RecordFails}
use Rattle.srecord.specs.Texts.{after_end, at_line, count_differs, fields_fail, given_with, more, no_end, none}
use Rattle.srecord.specs.Texts.{nothing_given, opening_fails, overlap, record_fails, with_bytes}
use Rattle.srecord.specs.declared.fault.SrecFault.TheVariants.{AfterEnd, BadLine, BadSum, CountDiffers, NoEnd}
use Rattle.srecord.specs.declared.fault.SrecFault.TheVariants.{Overlap, Wide}
use Rattle.srecord.specs.declared.fields.Kind.TheVariants.{Header, Bytes, Count, Start}
use Rattle.srecord.proofs.FieldLemmas.{are_fields, is_body, is_counted, no_bytes, no_kind, no_parts, only_fields}
use Rattle.srecord.proofs.FieldLemmas.{payload_in, wrong_sum}
use Rattle.srecord.proofs.WrittenBytes.{byte_at-placed_then}

-- ---- a line

record Opened (line : List ℕ) : Type 0 where
  kind : Kind
  bytes : List ℕ
  opens : Opens line kind bytes

module _ (line : List ℕ) (n digit : ℕ) (digits : List ℕ) (parts : parts_of line ≡ Some (digit, digits)) where
  with_bytes_of : (k : Kind) (r : Result (List ℕ) FromHexError) → false ≡ is_wide digit → kind_of digit ≡ Some k
      → decode_of digits ≡ r
      → Opened line ⊎ ((f : SrecFault) × OpeningFails line n f)
  with_bytes_of k (Ok bytes) narrow kind is = inl (record {
    kind = k;
    bytes = bytes;
    opens =
        record { digit = digit; digits = digits; parts = parts; kind_is = kind; bytes_are = is };
  })
  with_bytes_of k (Err e) narrow kind is = inr (BadLine n, no_bytes line n digit digits parts e narrow is)

  with_kind : (k : Option Kind) → false ≡ is_wide digit → kind_of digit ≡ k
      → Opened line ⊎ ((f : SrecFault) × OpeningFails line n f)
  with_kind None narrow is = inr (BadLine n, no_kind line n digit digits parts narrow is)
  with_kind (Some k) narrow is = with_bytes_of k (decode_of digits) narrow is refl

  with_digit : Opened line ⊎ ((f : SrecFault) × OpeningFails line n f)
  with_digit = elim (cases_Bool (is_wide digit)) [
    | inl is ↦ inr (Wide n, wide (record { digit = digit; digits = digits; parts = parts; wide = is }))
    | inr narrow ↦ with_kind (kind_of digit) (sym narrow) refl
  ]

with_parts : (line : List ℕ) (n : ℕ) (p : Option (ℕ × List ℕ)) → parts_of line ≡ p
    → Opened line ⊎ ((f : SrecFault) × OpeningFails line n f)
with_parts line n None is = inr (BadLine n, no_parts line n is)
with_parts line n (Some p) is = with_digit line n p.0 p.1 is

-- ---- the fields of a line

record Fields (bytes : List ℕ) : Type 0 where
  at : ℕ
  payload : List ℕ
  sum : ℕ
  are : bytes ≡ body_of at payload ++ sum ∷ []

abbrev HasNone : List ℕ → Type 0
HasNone bytes = (at : ℕ) (payload : List ℕ) (sum : ℕ) → bytes ≡ body_of at payload ++ sum ∷ [] → ⊥

low_byte : (bytes : List ℕ) (at : ℕ) (payload : List ℕ) (sum : ℕ) → bytes ≡ body_of at payload ++ sum ∷ []
    → get_or bytes 2 0 < 256
low_byte bytes at payload sum is = omega (arith, ap (λ (b : List ℕ). get_or b 2 0) is)

split_in : (bytes : List ℕ) → 4 ≤ length bytes → get_or bytes 0 0 + 1 ≡ length bytes → get_or bytes 2 0 < 256
    → Fields bytes
split_in bytes four counted low =
    let m = length bytes - 1 in
    let body = take m bytes in
    let back = drop m bytes in
    let whole : bytes ≡ body ++ back = sym (take-append-drop m bytes) in
    let count : length body ≡ m = length-take-le m bytes (omega arith) in
    let one : length back ≡ 1 = omega (arith, length-drop m bytes) in
    let made = is_body bytes body back (get_or body 1 0) (get_or body 2 0) whole (omega (arith, count))
    (omega (arith, count)) refl refl low in
    record {
      at = get_or body 1 0 * 256 + get_or body 2 0;
      payload = payload_in body;
      sum = get_or back 0 0;
      are =
          are_fields bytes body back _ whole made one;
    }

split_or_none : (bytes : List ℕ) → Fields bytes ⊎ HasNone bytes
split_or_none bytes = elim (cases_lt (length bytes) 4) [
  | inl short ↦ inr (λ at payload sum is.
      (let counted = is_counted bytes at payload sum is in omega (arith, counted.0)))
  | inr four ↦ elim (cases_eq (get_or bytes 0 0 + 1) (length bytes)) [
    | inr other ↦ inr (λ at payload sum is. other (is_counted bytes at payload sum is).1)
    | inl counted ↦ elim (cases_lt (get_or bytes 2 0) 256) [
      | inl low ↦ inl (split_in bytes four counted low)
      | inr high ↦ inr (λ at payload sum is. (let low = low_byte bytes at payload sum is in omega arith))
    ]
  ]
]

is_empty : (payload : List ℕ) → (payload ≡ []) ⊎ (payload ≡ [] → ⊥)
is_empty [] = inl refl
is_empty (b ∷ payload) = inr (λ is. omega (arith, ap length is))

fits_or_not : (kind : Kind) (at : ℕ) (payload : List ℕ) → FitsKind kind at payload ⊎ (FitsKind kind at payload → ⊥)
fits_or_not Header at payload = inl tt
fits_or_not Bytes at payload =
    elim (cases_lt 65536 (at + length payload)) [ inl past ↦ inr (λ fit. omega (arith, fit)) | inr fit ↦ inl fit ]
fits_or_not Count at payload = is_empty payload
fits_or_not Start at payload = is_empty payload

record GoodFields (kind : Kind) (bytes : List ℕ) : Type 0 where
  at : ℕ
  payload : List ℕ
  good : HasGoodFields kind bytes at payload

with_fields : (kind : Kind) (bytes : List ℕ) (n : ℕ) → Fields bytes
    → GoodFields kind bytes ⊎ ((f : SrecFault) × FieldsFail kind bytes n f)
with_fields kind bytes n f = elim (fits_or_not kind f.at f.payload) [
  | inr unfit ↦ inr (BadLine n, only_fields kind f.at f.payload f.sum bytes f.are unfit n)
  | inl fit ↦ elim (cases_eq f.sum (checksum_of (body_of f.at f.payload))) [
    | inr other ↦ inr (
      BadSum n f.sum (checksum_of (body_of f.at f.payload)),
      wrong_sum kind bytes f.at f.payload f.sum _ n f.are fit refl other,
    )
    | inl right ↦ inl (record {
      at = f.at;
      payload = f.payload;
      good = record { bytes_are = f.are ∙ ap (λ (s : ℕ). body_of f.at f.payload ++ s ∷ []) right; fits = fit };
    })
  ]
]

fields_or_fault : (kind : Kind) (bytes : List ℕ) (n : ℕ)
    → GoodFields kind bytes ⊎ ((f : SrecFault) × FieldsFail kind bytes n f)
fields_or_fault kind bytes n = elim (split_or_none bytes) [
  | inl f ↦ with_fields kind bytes n f
  | inr never ↦ inr (BadLine n, unread (λ at payload sum h. never at payload sum h.bytes_are))
]

-- ---- a record behind others

some_or_none : (o : Option ℕ) → IsSome o ⊎ (o ≡ None)
some_or_none None = inr refl
some_or_none (Some x) = inl refl

free_below : (bytes : ℕ → Option ℕ) (at n : ℕ)
    → ((k : ℕ) × (k < n) × IsSome (bytes (at + k))) ⊎ ((k : ℕ) → k < n → bytes (at + k) ≡ None)
free_below bytes at zero = inr (λ k lt. absurd (omega arith))
free_below bytes at (suc n) = elim (free_below bytes at n) [
  | inl taken ↦ inl (taken.0, omega (arith, taken.1), taken.2)
  | inr free ↦ elim (some_or_none (bytes (at + n))) [
    | inl some ↦ inl (n, omega arith, some)
    | inr nothing ↦ inr (λ k lt. elim (cases_eq k n) [
      | inl here ↦ ap (λ (i : ℕ). bytes (at + i)) here ∙ nothing
      | inr other ↦ free k (omega arith)
    ])
  ]
]

follows_or_fails : (g : Given) (n : ℕ) (kind : Kind) (at : ℕ) (payload : List ℕ)
    → MayFollow g kind at payload ⊎ ((f : SrecFault) × RecordFails g n kind at payload f)
follows_or_fails g n Header at payload = inl tt
follows_or_fails g n Start at payload = inl tt
follows_or_fails g n Bytes at payload = elim (free_below g.bytes at (length payload)) [
  | inl taken ↦ inr (Overlap n, overlap at payload taken)
  | inr free ↦ inl free
]
follows_or_fails g n Count at payload = elim (cases_eq at g.records) [
  | inl counted ↦ inl counted
  | inr other ↦ inr (CountDiffers at g.records, count_differs at payload other)
]

record Follows (g : Given) (line : List ℕ) : Type 0 where
  kind : Kind
  at : ℕ
  payload : List ℕ
  start : g.start ≡ None
  is : IsRecord line kind at payload
  follows : MayFollow g kind at payload

module _ (g : Given) (line : List ℕ) (n : ℕ) (start : g.start ≡ None) where
  record_or_fault : (kind : Kind) (at : ℕ) (payload : List ℕ) → IsRecord line kind at payload
      → Follows g line ⊎ ((f : SrecFault) × LineFails g n line f)
  record_or_fault kind at payload is = elim (follows_or_fails g n kind at payload) [
    | inl follows ↦ inl (record { kind = kind; at = at; payload = payload; start = start; is = is; follows = follows })
    | inr fails ↦ inr (fails.0, record_fails kind at payload fails.0 start is fails.1)
  ]

  opened_or_fault : Opened line → Follows g line ⊎ ((f : SrecFault) × LineFails g n line f)
  opened_or_fault o = elim (fields_or_fault o.kind o.bytes n) [
    | inl f ↦ record_or_fault o.kind f.at f.payload (record { bytes = o.bytes; opens = o.opens; fields = f.good })
    | inr fails ↦ inr (fails.0, fields_fail o.kind o.bytes fails.0 start o.opens fails.1)
  ]

  before_end : Follows g line ⊎ ((f : SrecFault) × LineFails g n line f)
  before_end = elim (with_parts line n (parts_of line) refl) [
    | inl o ↦ opened_or_fault o
    | inr fails ↦ inr (fails.0, opening_fails fails.0 start fails.1)
  ]

line_judged : (g : Given) (line : List ℕ) (n : ℕ) (start : Option ℕ) → g.start ≡ start
    → Follows g line ⊎ ((f : SrecFault) × LineFails g n line f)
line_judged g line n None is = before_end g line n is
line_judged g line n (Some s) is = inr (AfterEnd n, after_end (λ nothing. (let bad = sym is ∙ nothing in cc)))

-- ---- a text

-- the first of lines that fails
record Fails (ls : List (List ℕ)) : Type 0 where
  before : List (List ℕ)
  line : List ℕ
  after : List (List ℕ)
  given : Given
  fault : SrecFault
  split : ls ≡ before ++ line ∷ after
  give : Give before given
  fails : LineFails given (length before + 1) line fault

lines_judged : (after before : List (List ℕ)) (g : Given) → Give before g
    → ((h : Given) × Give (before ++ after) h) ⊎ Fails (before ++ after)
lines_judged [] before g give = inl (g, subst (λ (l : List (List ℕ)). Give l g) (sym (append-nil before)) give)
lines_judged (line ∷ after) before g give = elim (line_judged g line (length before + 1) g.start refl) [
  | inr fails ↦ inr (record {
    before = before;
    line = line;
    after = after;
    given = g;
    fault = fails.0;
    split = refl;
    give =
        give;
    fails = fails.1;
  })
  | inl r ↦
      subst (λ (l : List (List ℕ)). ((h : Given) × Give l h) ⊎ Fails l) (append_assoc before (line ∷ []) after)
      (lines_judged after (before ++ line ∷ []) (given_with g r.kind r.at r.payload)
      (more before g line r.kind r.at r.payload give r.start r.is r.follows))
]

-- the bytes that lines give, as a list
record Listed (g : Given) : Type 0 where
  bytes : List (ℕ × ℕ)
  same : (q : ℕ) → byte_at bytes q ≡ g.bytes q

listed_with : (g : Given) (kind : Kind) (at : ℕ) (payload : List ℕ) → Listed g → Listed (given_with g kind at payload)
listed_with g Header at payload l = l
listed_with g Count at payload l = l
listed_with g Start at payload l = record { bytes = l.bytes; same = l.same }
listed_with g Bytes at payload l = record {
  bytes = placed at payload ++ l.bytes;
  same = λ q. byte_at-placed_then at q payload l.bytes
      ∙ ap (λ (f : ℕ → Option ℕ). with_bytes f at payload q) (λ i p. l.same p i);
}

listed : (ls : List (List ℕ)) (g : Given) → Give ls g → Listed g
listed _ _ none = record { bytes = []; same = λ q. refl }
listed _ _ (more before g line kind at payload give start is follows) =
    listed_with g kind at payload (listed before g give)

ended : (text : List ℕ) (g : Given) (start : Option ℕ) → Give (lines text) g → g.start ≡ start
    → ((image : Image) × GivesImage text image) ⊎ ((fault : SrecFault) × HasFault text fault)
ended text g None give is = inr (NoEnd, no_end g give is)
ended text g (Some s) give is =
    let l = listed (lines text) g give in
    inl (record { bytes = l.bytes; start = s }, record { given = g; lines_give = give; bytes = l.same; start = is })

pub judged : (text : List ℕ) → ((image : Image) × GivesImage text image) ⊎ ((fault : SrecFault) × HasFault text fault)
judged text = elim (lines_judged (lines text) [] nothing_given none) [
  | inl all ↦ ended text all.0 all.0.start all.1 refl
  | inr f ↦ inr (f.fault, at_line f.before f.after f.line f.given f.fault f.split f.give f.fails)
]
