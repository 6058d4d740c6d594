-- What a reader has, and what is given.
use Rattle.std.proofs.Common.{◌≡◌, ◌≢◌, ℕ, ◌+◌, true, false, List, [], ◌∷◌, ◌++◌, Option, Some, None, IsSome, is_some}
use Rattle.std.proofs.Common.{refl, sym, ◌∙◌, ap, subst}
use Rattle.std.proofs.lemmas.List.{append-nil}
use Rattle.std.specs.Str.Lines.{lines}
use Rattle.cpu12_asm.specs.Bytes.{byte_at}
use Rattle.srecord.specs.declared.{fault.SrecFault.SrecFault, fields.Kind.Kind, fields.Kind.TheVariants.Count}
use Rattle.srecord.specs.declared.fault.SrecFault.TheVariants.{CountDiffers, NoEnd}
use Rattle.srecord.specs.declared.reader.Reader.{Reader}
use Rattle.srecord.specs.{Lines.HasGoodFields, Lines.Opens, Reading.Has, Reading.HasRead}
use Rattle.srecord.specs.Texts.{Give, Given, HasFault, IsRecord, IsTaken, LineFails, MayFollow, RecordFails, at_line}
use Rattle.srecord.specs.Texts.{count_differs, given_with, more, no_end, none, nothing_given}

-- a line whose bytes, as they were seen, have good fields is a record
pub is_record_there : {line : List ℕ} {kind : Kind} {at : ℕ} {payload bytes seen : List ℕ} → seen ≡ bytes
    → Opens line kind bytes → HasGoodFields kind seen at payload
    → IsRecord line kind at payload
is_record_there {kind = kind} {at = at} {payload = payload} {bytes = bytes} same opens fields = record {
  bytes = bytes;
  opens = opens;
  fields = subst (λ (b : List ℕ). HasGoodFields kind b at payload) same fields;
}

-- what a reader has that has taken a line's record is given by the lines up to that one
pub given_more : (before : List (List ℕ)) (g : Given) {line : List ℕ} {kind : Kind} {at : ℕ} {payload : List ℕ}
    {reader : Reader} → Give before g → g.start ≡ None → IsRecord line kind at payload
    → MayFollow g kind at payload × Has reader (given_with g kind at payload)
    → (h : Given) × Give (before ++ line ∷ []) h × Has reader h
given_more before g {line = line} {kind = kind} {at = at} {payload = payload} give no_start is_record taken =
    (given_with g kind at payload, more before g line kind at payload give no_start is_record taken.0, taken.1)

pub taken_too : (bytes given : ℕ → Option ℕ) → ((q : ℕ) → bytes q ≡ given q) → (at : ℕ) (payload : List ℕ)
    → IsTaken bytes at payload → IsTaken given at payload
taken_too bytes given same at payload t = (t.0, t.1, subst (λ (o : Option ℕ). IsSome o) (same (at + t.0)) t.2)

pub counted_otherwise : (g : Given) (n at count records : ℕ) (payload : List ℕ) → count ≡ at → records ≡ g.records
    → count ≢ records
    → RecordFails g n Count at payload (CountDiffers count records)
counted_otherwise g n at count records payload count_is records_are other =
    subst (λ (c : ℕ). RecordFails g n Count at payload (CountDiffers c records)) (sym count_is)
    (subst (λ (r : ℕ). RecordFails g n Count at payload (CountDiffers at r)) (sym records_are)
    (count_differs at payload (λ same. other (count_is ∙ same ∙ sym records_are))))

some_start : (o p : Option ℕ) → true ≡ is_some o → o ≡ p → p ≢ None
some_start None p some same = absurd (cc)
some_start (Some x) p some same = λ nothing. (let bad = same ∙ nothing in cc)

none_start : (o p : Option ℕ) → false ≡ is_some o → o ≡ p → p ≡ None
none_start None p some same = sym same
none_start (Some x) p some same = absurd (cc)

-- whether a start is given, as the reader has one
pub has_start : {reader : Reader} {g : Given} → true ≡ is_some reader.start → Has reader g → g.start ≢ None
has_start {reader = reader} {g = g} some h = some_start reader.start g.start some h.start

pub has_no_start : {reader : Reader} {g : Given} → false ≡ is_some reader.start → Has reader g → g.start ≡ None
has_no_start {reader = reader} {g = g} without h = none_start reader.start g.start without h.start

pub nothing_read : (text : List ℕ) (reader : Reader) → ((q : ℕ) → byte_at reader.bytes q ≡ None) → reader.records ≡ 0
    → reader.start ≡ None → HasRead text 0 text reader
nothing_read text reader no_bytes no_records no_start = record {
  before = [];
  given = nothing_given;
  lines_are = refl;
  number = refl;
  give = none;
  has = record { bytes = no_bytes; records = no_records; start = no_start };
}

pub without_start : (text rest : List ℕ) (count : ℕ) (reader : Reader) → HasRead text count rest reader → rest ≡ []
    → reader.start ≡ None → HasFault text NoEnd
without_start text rest count reader h ended no_start =
    let all : lines text ≡ h.before = h.lines_are ∙ ap (λ (r : List ℕ). h.before ++ lines r) ended
    ∙ append-nil h.before in
    no_end h.given (subst (λ (l : List (List ℕ)). Give l h.given) (sym all) h.give) (sym h.has.start ∙ no_start)

pub fails_there : (text rest line behind : List ℕ) (count : ℕ) (reader : Reader) (fault : SrecFault)
    (h : HasRead text count rest reader)
    → lines rest ≡ line ∷ lines behind → LineFails h.given (count + 1) line fault → HasFault text fault
fails_there text rest line behind count reader fault h first fails =
    at_line h.before (lines behind) line h.given fault (h.lines_are ∙ ap (λ (l : List (List ℕ)). h.before ++ l) first)
    h.give (subst (λ (n : ℕ). LineFails h.given (n + 1) line fault) (sym h.number) fails)
