-- Lines give one thing, and have a fault or none.
use Rattle.std.proofs.Common.{◌≡◌, ℕ, zero, suc, ◌+◌, true, List, [], ◌∷◌, ◌++◌, length, take, Option, Some, None}
use Rattle.std.proofs.Common.{IsSome, refl, sym, ap, subst, ◌∙◌, arith, length-append}
use Rattle.std.proofs.Math.Seq.{take-append_seam, take-append-add}
use Rattle.std.proofs.lemmas.Bool.Decides.{nat_tests}
use Rattle.std.proofs.lemmas.List.{length-take-le}
use Rattle.std.specs.Str.Lines.{lines}
use Rattle.hex.specs.Hex.{decode_of}
use Rattle.cpu12_asm.specs.{Bytes.byte_at, declared.image.Image.Image}
use Rattle.srecord.specs.declared.{fault.SrecFault.SrecFault, fields.Kind.Kind}
use Rattle.srecord.specs.Lines.{body_of, checksum_of, FieldsFail, HasFields, Opens, OpeningFails, bad_sum, is_wide}
use Rattle.srecord.specs.Lines.{kind_of, parts_of, unopened, unread, wide}
use Rattle.srecord.specs.Texts.{Give, Given, GivesImage, HasFault, IsRecord, LineFails, MayFollow, RecordFails}
use Rattle.srecord.specs.Texts.{after_end, at_line, count_differs, fields_fail, given_with, more, no_end, none}
use Rattle.srecord.specs.Texts.{nothing_given, opening_fails, overlap, record_fails}
use Rattle.srecord.proofs.FieldLemmas.{same_address, same_body, same_payload, same_sum, snoc_last, snoc_same}

parts_same : (line : List ℕ) (p q : ℕ × List ℕ) → parts_of line ≡ Some p → parts_of line ≡ Some q → p ≡ q
parts_same line p q one other = cc

module _ (line : List ℕ) (j k : Kind) (bs cs : List ℕ) (one : Opens line j bs) (other : Opens line k cs) where
  opened_same : ◌≡◌ {A = ℕ × List ℕ} (one.digit, one.digits) (other.digit, other.digits)
  opened_same = parts_same line _ _ one.parts other.parts

  pub kind_same : j ≡ k
  kind_same =
      let here : kind_of one.digit ≡ kind_of other.digit = ap (λ (p : ℕ × List ℕ). kind_of p.0) opened_same in
      let first = one.kind_is in
      let second = other.kind_is in
      cc

  pub bytes_same : bs ≡ cs
  bytes_same =
      let here : decode_of one.digits ≡ decode_of other.digits = ap (λ (p : ℕ × List ℕ). decode_of p.1) opened_same in
      let first = one.bytes_are in
      let second = other.bytes_are in
      cc

module _ (line : List ℕ) (j k : Kind) (a b : ℕ) (p q : List ℕ) (one : IsRecord line j a p)
    (other : IsRecord line k b q) where
  fields_same : body_of a p ++ checksum_of (body_of a p) ∷ [] ≡ body_of b q ++ checksum_of (body_of b q) ∷ []
  fields_same = sym one.fields.bytes_are ∙ bytes_same line j k one.bytes other.bytes one.opens other.opens
      ∙ other.fields.bytes_are

  pub record_kind : j ≡ k
  record_kind = kind_same line j k one.bytes other.bytes one.opens other.opens

  pub record_address : a ≡ b
  record_address = same_address a b p q _ _ fields_same

  pub record_payload : p ≡ q
  record_payload = same_payload a b p q _ _ fields_same

-- lines with a last one
pub record Last (before : List (List ℕ)) (line : List ℕ) (h : Given) : Type 0 where
  pub given : Given
  pub kind : Kind
  pub at : ℕ
  pub payload : List ℕ
  pub give : Give before given
  pub start : given.start ≡ None
  pub is_record : IsRecord line kind at payload
  pub follows : MayFollow given kind at payload
  pub is : h ≡ given_with given kind at payload

as_long : (xs ys : List (List ℕ)) (x y : List ℕ) → xs ++ x ∷ [] ≡ ys ++ y ∷ [] → length xs ≡ length ys
as_long xs ys x y same = omega (arith, ap length same, length-append xs (x ∷ []), length-append ys (y ∷ []))

last_given : (ls : List (List ℕ)) (h : Given) → Give ls h → (before : List (List ℕ)) (line : List ℕ)
    → ls ≡ before ++ line ∷ [] → Last before line h
last_given _ _ none before line same = absurd (omega (arith, ap length same, length-append before (line ∷ [])))
last_given _ _ (more b g l kind at payload give start is follows) before line same = record {
  given = g;
  kind = kind;
  at = at;
  payload = payload;
  give = subst (λ (x : List (List ℕ)). Give x g) (snoc_same b before l line (as_long b before l line same) same) give;
  start = start;
  is_record = subst (λ (x : List ℕ). IsRecord x kind at payload)
      (snoc_last b before l line [] (as_long b before l line same) same) is;
  follows = follows;
  is = refl;
}

nothing_gives : (ls : List (List ℕ)) (h : Given) → Give ls h → ls ≡ [] → h ≡ nothing_given
nothing_gives _ _ none same = refl
nothing_gives _ _ (more b g l kind at payload give start is follows) same =
    absurd (omega (arith, ap length same, length-append b (l ∷ [])))

pub give_one : (ls : List (List ℕ)) (g h : Given) → Give ls g → Give ls h → g ≡ h
give_one _ _ h none other = sym (nothing_gives [] h other refl)
give_one _ _ h (more b g l kind at payload give start is follows) other =
    let last = last_given (b ++ l ∷ []) h other b l refl in
    ap (λ (x : Given). given_with x kind at payload) (give_one b g last.given give last.give)
    ∙ ap (λ (x : Kind). given_with last.given x at payload)
    (record_kind l kind last.kind at last.at payload last.payload is last.is_record)
    ∙ ap (λ (x : ℕ). given_with last.given last.kind x payload)
    (record_address l kind last.kind at last.at payload last.payload is last.is_record)
    ∙ ap (λ (x : List ℕ). given_with last.given last.kind last.at x)
    (record_payload l kind last.kind at last.at payload last.payload is last.is_record)
    ∙ sym last.is

pub same_image : (text : List ℕ) (a b : Image) → GivesImage text a → GivesImage text b
    → (a.start ≡ b.start) × ((q : ℕ) → byte_at a.bytes q ≡ byte_at b.bytes q)
same_image text a b one other =
    let same : one.given ≡ other.given = give_one (lines text) one.given other.given one.lines_give other.lines_give in
    let starts : Some a.start ≡ Some b.start = sym one.start ∙ ap (λ (g : Given). g.start) same ∙ other.start in
    (cc, λ q. one.bytes q ∙ ap (λ (g : Given). g.bytes q) same ∙ sym (other.bytes q))

-- lines that are longer than others, which begin alike, have those and one more
pub first_lines : (b rest before after : List (List ℕ)) (line : List ℕ) (m : ℕ) → length b ≡ length before + suc m
    → b ++ rest ≡ before ++ line ∷ after
    → b ≡ before ++ line ∷ take m after
first_lines b rest before after line m long same =
    sym (take-append_seam b rest) ∙ ap (take (length b)) same ∙ ap (λ (n : ℕ). take n (before ++ line ∷ after)) long
    ∙ take-append-add before (line ∷ after) (suc m)

-- a line among others was good where it stands
pub given_there : (ls : List (List ℕ)) (h : Given) → Give ls h
    → (before : List (List ℕ)) (line : List ℕ) (after : List (List ℕ)) (n : ℕ)
    → length after ≡ n → ls ≡ before ++ line ∷ after → (g : Given) × Last before line g
given_there ls h give before line [] n count same = (h, last_given ls h give before line same)
given_there ls h give before line (x ∷ after) zero count same = absurd (omega arith)
given_there _ _ none before line (x ∷ after) (suc m) count same =
    absurd (omega (arith, ap length same, length-append before (line ∷ x ∷ after)))
given_there _ _ (more b g l kind at payload give start is follows) before line (x ∷ after) (suc m) count same =
    let shorter : length (take m (x ∷ after)) ≡ m = length-take-le m (x ∷ after) (omega (arith, count)) in
    let long : length b ≡ length before + suc m =
    omega (arith, ap length same, length-append b (l ∷ []), length-append before (line ∷ x ∷ after), count) in
    given_there b g give before line (take m (x ∷ after)) m shorter
    (first_lines b (l ∷ []) before (x ∷ after) line m long same)

wide_has_no_kind : (d : ℕ) (k : Kind) → is_wide d ≡ true → kind_of d ≡ Some k → ⊥
wide_has_no_kind d k is some = grind (arith, nat_tests)

pub opens : (n : ℕ) (line : List ℕ) (k : Kind) (bytes : List ℕ) (fault : SrecFault) → Opens line k bytes
    → OpeningFails line n fault → ⊥
opens n line k bytes _ one (wide w) =
    wide_has_no_kind one.digit k
    (ap (λ (p : ℕ × List ℕ). is_wide p.0) (parts_same line _ (w.digit, w.digits) one.parts w.parts) ∙ w.wide)
    one.kind_is
opens n line k bytes _ one (unopened narrow never) = never k bytes one

pub has_fields : (n : ℕ) (k : Kind) (bytes : List ℕ) (at : ℕ) (payload : List ℕ) (fault : SrecFault)
    → HasFields k bytes at payload (checksum_of (body_of at payload)) → FieldsFail k bytes n fault → ⊥
has_fields n k bytes at payload _ one (unread never) = never at payload (checksum_of (body_of at payload)) one
has_fields n k bytes at payload _ one (bad_sum a p sum other wrong) =
    let same : body_of a p ++ sum ∷ [] ≡ body_of at payload ++ checksum_of (body_of at payload) ∷ [] =
    sym other.bytes_are ∙ one.bytes_are in
    wrong (same_sum a at p payload sum _ same ∙ ap checksum_of (sym (same_body a at p payload sum _ same)))

follows_well : (g : Given) (n : ℕ) (k : Kind) (at : ℕ) (payload : List ℕ) (fault : SrecFault) → MayFollow g k at payload
    → RecordFails g n k at payload fault
    → ⊥
follows_well g n _ _ _ _ free (overlap at payload taken) = let none = free taken.0 taken.1 in
    let some = subst (λ (o : Option ℕ). IsSome o) none taken.2 in cc
follows_well g n _ _ _ _ counted (count_differs at payload other) = other counted

-- a line that is read in two ways fails in both
module _ (line : List ℕ) (n : ℕ) (fault : SrecFault) where
  pub fields_fail_too : (j k : Kind) (bs cs : List ℕ) → Opens line j bs → Opens line k cs → FieldsFail j bs n fault
      → FieldsFail k cs n fault
  fields_fail_too j k bs cs one other fails =
      subst (λ (x : Kind). FieldsFail x cs n fault) (kind_same line j k bs cs one other)
      (subst (λ (x : List ℕ). FieldsFail j x n fault) (bytes_same line j k bs cs one other) fails)

  pub record_fails_too : (g h : Given) (j k : Kind) (a b : ℕ) (p q : List ℕ) → g ≡ h → IsRecord line j a p
      → IsRecord line k b q
      → RecordFails g n j a p fault → RecordFails h n k b q fault
  record_fails_too g h j k a b p q same one other fails =
      subst (λ (x : Given). RecordFails x n k b q fault) same
      (subst (λ (x : Kind). RecordFails g n x b q fault) (record_kind line j k a b p q one other)
      (subst (λ (x : ℕ). RecordFails g n j x q fault) (record_address line j k a b p q one other)
      (subst (λ (x : List ℕ). RecordFails g n j a x fault) (record_payload line j k a b p q one other) fails)))

-- a good line does not fail
pub good_line : (before : List (List ℕ)) (line : List ℕ) (h g : Given) (n : ℕ) (fault : SrecFault) → Last before line h
    → Give before g
    → LineFails g n line fault → ⊥
good_line before line h g n _ last give (after_end ended) =
    ended (ap (λ (x : Given). x.start) (give_one before g last.given give last.give) ∙ last.start)
good_line before line h g n _ last give (opening_fails fault start fails) =
    opens n line last.kind last.is_record.bytes fault last.is_record.opens fails
good_line before line h g n _ last give (fields_fail kind bytes fault start other fails) =
    let r = last.is_record in
    has_fields n last.kind r.bytes last.at last.payload fault r.fields
    (fields_fail_too line n fault kind last.kind bytes r.bytes other r.opens fails)
good_line before line h g n _ last give (record_fails kind at payload fault start other fails) =
    let same = give_one before g last.given give last.give in
    follows_well last.given n last.kind last.at last.payload fault last.follows
    (record_fails_too line n fault g last.given kind last.kind at last.at payload last.payload same other
    last.is_record fails)

pub images_have_no_fault : (text : List ℕ) (image : Image) (fault : SrecFault) → GivesImage text image
    → HasFault text fault → ⊥
images_have_no_fault text image _ gives (at_line before after line g fault same give fails) =
    let there = given_there (lines text) gives.given gives.lines_give before line after (length after) refl same in
    good_line before line there.0 g (length before + 1) fault there.1 give fails
images_have_no_fault text image _ gives (no_end g give ended) =
    let bad : Some image.start ≡ None =
    sym gives.start ∙ ap (λ (x : Given). x.start) (give_one (lines text) gives.given g gives.lines_give give)
    ∙ ended in
    cc
