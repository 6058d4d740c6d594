-- What is written gives the image.
use Rattle.std.proofs.Common.{◌≡◌, ℕ, ◌+◌, ◌-◌, ◌*◌, ◌<◌, ◌≤◌, Bool, true, false, cond, List, [], ◌∷◌, ◌++◌, map}
use Rattle.std.proofs.Common.{length, Option, Some, None, refl, sym, ap, subst, ◌∙◌, arith, inl, inr, append_assoc}
use Rattle.std.specs.Prelude.{codes, ◌&&◌, nat_le, nat_lt, slice_index}
use Rattle.std.proofs.lemmas.Bool.Decides.{nat_tests}
use Rattle.std.proofs.lemmas.List.{append-nil}
use Rattle.std.specs.Str.Lines.{lines}
use Rattle.cpu12_asm.specs.{Bytes.IsAscending, Bytes.byte_at, Bytes.placed, declared.image.Image.Image}
use Rattle.cpu12_asm.proofs.Algebra.{or_else}
use Rattle.srecord.specs.declared.fields.Kind.TheVariants.{Header, Bytes, Count, Start}
use Rattle.srecord.specs.Images.{AreCut, ImageText, Piece, StartsAt, data_text, next, none as nothing_cut}
use Rattle.srecord.specs.Lines.{record_text}
use Rattle.srecord.specs.Texts.{Give, Given, GivesImage, IsFree, given_with, more, none as nothing_yet, nothing_given}
use Rattle.srecord.specs.Texts.{with_bytes}
use Rattle.srecord.proofs.WrittenBytes.{RiseFrom, byte_at-placed_then, none_below, rise, rise_behind}
use Rattle.srecord.proofs.WrittenLines.{AreBytes, are_bytes_all, is_record, lines_record, record_line}

abbrev pub piece_line : Piece → List ℕ
piece_line p = record_line 49 p.at p.bytes

lines_pieces : (bytes : List (ℕ × ℕ)) (pieces : List Piece) → AreCut bytes pieces → (low : ℕ) → RiseFrom low bytes
    → (rest : List ℕ)
    → lines (data_text pieces ++ rest) ≡ map piece_line pieces ++ lines rest
lines_pieces _ _ nothing_cut low rises rest = refl
lines_pieces _ _ (next p behind pieces good cut) low rises rest =
    let r = rise_behind low p.at p.bytes behind good.some rises in
    ap lines (append_assoc (record_text 49 p.at p.bytes) (data_text pieces) rest)
    ∙ lines_record 49 p.at p.bytes (data_text pieces ++ rest) (omega (arith, good.fits, good.some)) good.few
    (are_bytes_all p.bytes good.are_bytes) refl refl
    ∙ ap (λ (l : List (List ℕ)). piece_line p ∷ l) (lines_pieces behind pieces cut (p.at + length p.bytes) r.1 rest)

rise_past : (at : ℕ) (behind : List (ℕ × ℕ)) → RiseFrom at behind → (StartsAt at behind → ⊥) → RiseFrom (at + 1) behind
rise_past at [] rises other = tt
rise_past at (b ∷ behind) rises other = (omega (arith, rises.0, other), rises.1)

-- there is a gap behind each piece that could be longer
few_pieces : (bytes : List (ℕ × ℕ)) (pieces : List Piece) → AreCut bytes pieces → (low : ℕ) → RiseFrom low bytes
    → 2 * length pieces ≤ 65537 - low
few_pieces _ _ nothing_cut low rises = omega arith
few_pieces _ _ (next p behind pieces good cut) low rises =
    let r = rise_behind low p.at p.bytes behind good.some rises in
    elim good.ends [
      | inl full ↦ (let rest = few_pieces behind pieces cut (p.at + length p.bytes) r.1 in
          omega (arith, rest, full, r.0, good.fits))
      | inr ends ↦ (let rest =
          few_pieces behind pieces cut (p.at + length p.bytes + 1)
          (rise_past (p.at + length p.bytes) behind r.1 ends) in omega (arith, rest, good.some, r.0, good.fits))
    ]

pub few_records : (bytes : List (ℕ × ℕ)) (pieces : List Piece) → IsAscending bytes → AreCut bytes pieces
    → length pieces ≤ 32768
few_records bytes pieces ascend cut = let few = few_pieces bytes pieces cut 0 (rise bytes ascend) in omega arith

or_else-none : (o : Option ℕ) → or_else o None ≡ o
or_else-none None = refl
or_else-none (Some x) = refl

or_else-cond : (b : Bool) (v : ℕ) (o f : Option ℕ) → (b ≡ true → o ≡ None)
    → or_else o (cond b (Some v) f) ≡ or_else (cond b (Some v) o) f
or_else-cond true v o f free = ap (λ (x : Option ℕ). or_else x (Some v)) (free refl)
or_else-cond false v o f free = refl

within : (at n q : ℕ) → (nat_le at q && nat_lt q (at + n)) ≡ true → q < at + n
within at n q h = grind (arith, nat_tests)

bytes_joined : (at : ℕ) (bytes : List ℕ) (behind : List (ℕ × ℕ)) (f : ℕ → Option ℕ) (q : ℕ)
    → RiseFrom (at + length bytes) behind
    → or_else (byte_at behind q) (with_bytes f at bytes q) ≡ or_else (byte_at (placed at bytes ++ behind) q) (f q)
bytes_joined at bytes behind f q rises =
    or_else-cond (nat_le at q && nat_lt q (at + length bytes)) (slice_index bytes (q - at)) (byte_at behind q) (f q)
    (λ h. none_below (at + length bytes) q behind rises (within at (length bytes) q h))
    ∙ ap (λ (o : Option ℕ). or_else o (f q)) (sym (byte_at-placed_then at q bytes behind))

none_past : (f : ℕ → Option ℕ) (low at : ℕ) (bytes : List ℕ) → low ≤ at → ((q : ℕ) → low ≤ q → f q ≡ None) → (q : ℕ)
    → at + length bytes ≤ q → with_bytes f at bytes q ≡ None
none_past f low at bytes above free q past = let here : f q ≡ None = free q (omega arith) in grind (arith, nat_tests)

-- lines and the records of pieces behind them
pub record GivePieces (before : List (List ℕ)) (bytes : List (ℕ × ℕ)) (pieces : List Piece) (g : Given) : Type 0 where
  pub given : Given
  pub give : Give (before ++ map piece_line pieces) given
  pub records : given.records ≡ g.records + length pieces
  pub start : given.start ≡ None
  pub bytes_are : (q : ℕ) → given.bytes q ≡ or_else (byte_at bytes q) (g.bytes q)

give_pieces : (bytes : List (ℕ × ℕ)) (pieces : List Piece) → AreCut bytes pieces → (low : ℕ) → RiseFrom low bytes
    → (before : List (List ℕ)) (g : Given) → Give before g → g.start ≡ None → ((q : ℕ) → low ≤ q → g.bytes q ≡ None)
    → GivePieces before bytes pieces g
give_pieces _ _ nothing_cut low rises before g give start free = record {
  given = g;
  give = subst (λ (l : List (List ℕ)). Give l g) (sym (append-nil before)) give;
  records = omega arith;
  start = start;
  bytes_are = λ q. refl;
}
give_pieces _ _ (next p behind pieces good cut) low rises before g give start free =
    let r = rise_behind low p.at p.bytes behind good.some rises in
    let is = is_record 49 Bytes p.at p.bytes refl (omega (arith, good.fits, good.some)) good.few
    (are_bytes_all p.bytes good.are_bytes) good.fits in
    let untaken : IsFree g.bytes p.at p.bytes = λ k lt. free (p.at + k) (omega (arith, r.0)) in
    let one = more before g (piece_line p) Bytes p.at p.bytes give start is untaken in
    let rest = give_pieces behind pieces cut (p.at + length p.bytes) r.1 (before ++ piece_line p ∷ [])
    (given_with g Bytes p.at p.bytes) one start (none_past g.bytes low p.at p.bytes r.0 free) in
    record {
      given = rest.given;
      give = subst (λ (l : List (List ℕ)). Give l rest.given)
          (append_assoc before (piece_line p ∷ []) (map piece_line pieces)) rest.give;
      records = omega (arith, rest.records);
      start = rest.start;
      bytes_are = λ q. rest.bytes_are q ∙ bytes_joined p.at p.bytes behind g.bytes q r.1;
    }

abbrev header_bytes : List ℕ
header_bytes = codes "FZ12"

header_are : AreBytes header_bytes
header_are = (omega arith, (omega arith, (omega arith, (omega arith, tt))))

-- the lines of an image's text
lines_written : (bytes : List (ℕ × ℕ)) (start : ℕ) (text : List ℕ) (t : ImageText bytes start text) → RiseFrom 0 bytes
    → lines text ≡ record_line 48 0 header_bytes
    ∷ (map piece_line t.pieces ++ record_line 53 (length t.pieces) [] ∷ record_line 57 start [] ∷ [])
lines_written bytes start text t rises =
    let n = length t.pieces in
    let behind = record_text 53 n [] ++ record_text 57 start [] in
    let few = few_pieces bytes t.pieces t.cut 0 rises in
    let last : lines (record_text 57 start []) ≡ record_line 57 start [] ∷ [] =
    ap lines (sym (append-nil (record_text 57 start [])))
    ∙ lines_record 57 start [] [] t.fits (omega arith) tt refl refl in
    ap lines t.records
    ∙ lines_record 48 0 header_bytes (data_text t.pieces ++ behind) (omega arith) (omega arith) header_are refl refl
    ∙ ap (λ (l : List (List ℕ)). record_line 48 0 header_bytes ∷ l) (lines_pieces bytes t.pieces t.cut 0 rises behind
    ∙ ap (λ (l : List (List ℕ)). map piece_line t.pieces ++ l)
    (lines_record 53 n [] (record_text 57 start []) (omega arith) (omega arith) tt refl refl
    ∙ ap (λ (l : List (List ℕ)). record_line 53 n [] ∷ l) last))

pub written_gives : (image : Image) (text : List ℕ) → IsAscending image.bytes → ImageText image.bytes image.start text
    → GivesImage text image
written_gives image text ascend t =
    let rises = rise image.bytes ascend in
    let n = length t.pieces in
    let head = record_line 48 0 header_bytes in
    let first : Give (head ∷ []) nothing_given =
    more [] nothing_given head Header 0 header_bytes nothing_yet refl
    (is_record 48 Header 0 header_bytes refl (omega arith) (omega arith) header_are tt) tt in
    let ps = give_pieces image.bytes t.pieces t.cut 0 rises (head ∷ []) nothing_given first refl (λ q low. refl) in
    let few = few_pieces image.bytes t.pieces t.cut 0 rises in
    let counted : n ≡ ps.given.records = omega (arith, ps.records) in
    let count = record_line 53 n [] in
    let end = record_line 57 image.start [] in
    let before = head ∷ map piece_line t.pieces in
    let fifth : Give (before ++ count ∷ []) ps.given =
    more before ps.given count Count n [] ps.give ps.start
    (is_record 53 Count n [] refl (omega arith) (omega arith) tt refl) counted in
    let all = more (before ++ count ∷ []) ps.given end Start image.start [] fifth ps.start
    (is_record 57 Start image.start [] refl t.fits (omega arith) tt refl) tt in
    let lines_are : (before ++ count ∷ []) ++ end ∷ [] ≡ lines text = append_assoc before (count ∷ []) (end ∷ [])
    ∙ sym (lines_written image.bytes image.start text t rises) in
    record {
      given = given_with ps.given Start image.start [];
      lines_give = subst (λ (l : List (List ℕ)). Give l (given_with ps.given Start image.start [])) lines_are all;
      bytes = λ q. sym (ps.bytes_are q ∙ or_else-none (byte_at image.bytes q));
      start = refl;
    }
