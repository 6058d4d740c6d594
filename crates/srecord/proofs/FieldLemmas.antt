-- The fields of a record's bytes.
use Rattle.std.proofs.Common.{◌≡◌, ◌≢◌, ℕ, ◌+◌, ◌-◌, ◌*◌, ◌/◌, ◌%◌, ◌<◌, ◌≤◌, List, [], ◌∷◌, ◌++◌, length, take, drop}
use Rattle.std.proofs.Common.{get_or, Some, None, false, refl, sym, ap, subst, ◌∙◌, arith, length-append}
use Rattle.std.specs.Prelude.{Err}
use Rattle.std.proofs.lemmas.List.{take_rest, take-append-drop}
use Rattle.std.proofs.Math.Seq.{drop-append_seam, take-append_seam}
use Rattle.hex.specs.{Hex.decode_of, declared.error.FromHexError.FromHexError}
use Rattle.srecord.specs.declared.fault.SrecFault.TheVariants.{BadLine, BadSum}
use Rattle.srecord.specs.declared.fields.Kind.{Kind}
use Rattle.srecord.specs.Lines.{body_of, checksum_of, BeginsWide, FieldsFail, FitsKind, OpeningFails, is_wide}
use Rattle.srecord.specs.Lines.{kind_of, parts_of, bad_sum, unopened, unread}

pub no_parts : (line : List ℕ) (n : ℕ) → parts_of line ≡ None → OpeningFails line n (BadLine n)
no_parts line n none = unopened (λ w. (let some = w.parts in cc)) (λ kind bytes o. (let some = o.parts in cc))

module _ (line : List ℕ) (n digit : ℕ) (digits : List ℕ) (parts : parts_of line ≡ Some (digit, digits)) where
  same_parts : (d : ℕ) (ds : List ℕ) → parts_of line ≡ Some (d, ds) → ◌≡◌ {A = ℕ × List ℕ} (d, ds) (digit, digits)
  same_parts d ds some = cc

  digit_is : (d : ℕ) (ds : List ℕ) → parts_of line ≡ Some (d, ds) → d ≡ digit
  digit_is d ds some = ap (λ (p : ℕ × List ℕ). p.0) (same_parts d ds some)

  digits_are : (d : ℕ) (ds : List ℕ) → parts_of line ≡ Some (d, ds) → ds ≡ digits
  digits_are d ds some = ap (λ (p : ℕ × List ℕ). p.1) (same_parts d ds some)

  narrow : false ≡ is_wide digit → BeginsWide line → ⊥
  narrow other w = let same = ap is_wide (digit_is w.digit w.digits w.parts) in let yes = w.wide in cc

  pub no_kind : false ≡ is_wide digit → kind_of digit ≡ None → OpeningFails line n (BadLine n)
  no_kind other none =
      unopened (narrow other)
      (λ kind bytes o. (let same = ap kind_of (digit_is o.digit o.digits o.parts) in let some = o.kind_is in cc))

  pub no_bytes : (e : FromHexError) → false ≡ is_wide digit → decode_of digits ≡ Err e → OpeningFails line n (BadLine n)
  no_bytes e other err =
      unopened (narrow other)
      (λ kind bytes o. (let same = ap decode_of (digits_are o.digit o.digits o.parts) in let ok = o.bytes_are in cc))

-- the data of a count, an address and data
abbrev pub payload_in : List ℕ → List ℕ
payload_in body = take (length body - 3) (drop 3 body)

pub is_body : (bytes body back : List ℕ) (high low : ℕ) → bytes ≡ body ++ back → 3 ≤ length body
    → get_or bytes 0 0 ≡ length body
    → high ≡ get_or body 1 0 → low ≡ get_or body 2 0 → get_or bytes 2 0 < 256
    → body_of (high * 256 + low) (payload_in body) ≡ body
is_body bytes [] back high low split some count high_is low_is byte = absurd (omega arith)
is_body bytes (b0 ∷ []) back high low split some count high_is low_is byte = absurd (omega arith)
is_body bytes (b0 ∷ b1 ∷ []) back high low split some count high_is low_is byte = absurd (omega arith)
is_body bytes (b0 ∷ b1 ∷ b2 ∷ rest) back high low split some count high_is low_is byte =
    let whole : payload_in (b0 ∷ b1 ∷ b2 ∷ rest) ≡ rest = take_rest (b0 ∷ b1 ∷ b2 ∷ rest) 3 in
    let small : b2 < 256 = omega (arith, byte, ap (λ (b : List ℕ). get_or b 2 0) split) in
    let first : length (payload_in (b0 ∷ b1 ∷ b2 ∷ rest)) + 3 ≡ b0 =
    omega (arith, ap length whole, count, ap (λ (b : List ℕ). get_or b 0 0) split) in
    let second : (high * 256 + low) / 256 ≡ b1 = omega (arith, high_is, low_is, small) in
    let third : (high * 256 + low) % 256 ≡ b2 = omega (arith, high_is, low_is, small) in
    ap (λ (c : ℕ). c ∷ (high * 256 + low) / 256 ∷ (high * 256 + low) % 256 ∷ payload_in (b0 ∷ b1 ∷ b2 ∷ rest)) first
    ∙ ap (λ (h : ℕ). b0 ∷ h ∷ (high * 256 + low) % 256 ∷ payload_in (b0 ∷ b1 ∷ b2 ∷ rest)) second
    ∙ ap (λ (l : ℕ). b0 ∷ b1 ∷ l ∷ payload_in (b0 ∷ b1 ∷ b2 ∷ rest)) third
    ∙ ap (λ (p : List ℕ). b0 ∷ b1 ∷ b2 ∷ p) whole

pub split_there : (bytes body back : List ℕ) (n : ℕ) → body ≡ take n bytes → back ≡ drop n bytes → bytes ≡ body ++ back
split_there bytes body back n front behind = rw (front, behind) (sym (take-append-drop n bytes))

only : (back : List ℕ) → length back ≡ 1 → back ≡ get_or back 0 0 ∷ []
only [] one = absurd (omega arith)
only (s ∷ []) one = refl
only (s ∷ t ∷ back) one = absurd (omega arith)

pub are_fields : (bytes body back made : List ℕ) → bytes ≡ body ++ back → made ≡ body → length back ≡ 1
    → bytes ≡ made ++ get_or back 0 0 ∷ []
are_fields bytes body back made split is one = split ∙ ap (λ (b : List ℕ). b ++ back) (sym is)
    ∙ ap (λ (s : List ℕ). made ++ s) (only back one)

-- the count is that of the bytes behind it
pub is_counted : (bytes : List ℕ) (at : ℕ) (payload : List ℕ) (sum : ℕ) → bytes ≡ body_of at payload ++ sum ∷ []
    → (4 ≤ length bytes) × (get_or bytes 0 0 + 1 ≡ length bytes)
is_counted bytes at payload sum is =
    let count : length bytes ≡ length payload + 4 = ap length is ∙ omega (arith, length-append payload (sum ∷ [])) in
    let first : get_or bytes 0 0 ≡ length payload + 3 = ap (λ (b : List ℕ). get_or b 0 0) is in
    (omega (arith, count), omega (arith, count, first))

pub snoc_same : {X : Type 0} (xs ys : List X) (x y : X) → length xs ≡ length ys → xs ++ x ∷ [] ≡ ys ++ y ∷ [] → xs ≡ ys
snoc_same xs ys x y as_long same =
    sym (take-append_seam xs (x ∷ [])) ∙ ap (take (length xs)) same ∙ ap (λ (n : ℕ). take n (ys ++ y ∷ [])) as_long
    ∙ take-append_seam ys (y ∷ [])

pub snoc_last : {X : Type 0} (xs ys : List X) (x y none : X) → length xs ≡ length ys
    → xs ++ x ∷ [] ≡ ys ++ y ∷ [] → x ≡ y
snoc_last {X = X} xs ys x y none as_long same =
    ap (λ (l : List X). get_or l 0 none)
    (sym (drop-append_seam xs (x ∷ [])) ∙ ap (drop (length xs)) same ∙ ap (λ (n : ℕ). drop n (ys ++ y ∷ [])) as_long
    ∙ drop-append_seam ys (y ∷ []))

module _ (a at : ℕ) (p payload : List ℕ) (s sum : ℕ)
    (same : body_of a p ++ s ∷ [] ≡ body_of at payload ++ sum ∷ []) where
  pub same_address : a ≡ at
  same_address = omega (arith, ap (λ (b : List ℕ). get_or b 1 0) same, ap (λ (b : List ℕ). get_or b 2 0) same)

  pub same_payload : p ≡ payload
  same_payload = let count : length p ≡ length payload = omega (arith, ap (λ (b : List ℕ). get_or b 0 0) same) in
      snoc_same p payload s sum count (ap (drop 3) same)

  pub same_body : body_of a p ≡ body_of at payload
  same_body = ap (λ (x : ℕ). body_of x p) same_address ∙ ap (body_of at) same_payload

  pub same_sum : s ≡ sum
  same_sum = let count : length (body_of a p) ≡ length (body_of at payload) = ap length same_body in
      snoc_last (body_of a p) (body_of at payload) s sum 0 count same

pub only_fields : (kind : Kind) (at : ℕ) (payload : List ℕ) (sum : ℕ) (bytes : List ℕ)
    → bytes ≡ body_of at payload ++ sum ∷ []
    → (FitsKind kind at payload → ⊥) → (n : ℕ) → FieldsFail kind bytes n (BadLine n)
only_fields kind at payload sum bytes is unfit n = unread (λ a p s h.
    (let same : body_of a p ++ s ∷ [] ≡ body_of at payload ++ sum ∷ [] = sym h.bytes_are ∙ is in
    unfit (subst (FitsKind kind at) (same_payload a at p payload s sum same)
    (subst (λ (x : ℕ). FitsKind kind x p) (same_address a at p payload s sum same) h.fits))))

pub wrong_sum : (kind : Kind) (bytes : List ℕ) (at : ℕ) (payload : List ℕ) (sum want n : ℕ)
    → bytes ≡ body_of at payload ++ sum ∷ []
    → FitsKind kind at payload → want ≡ checksum_of (body_of at payload) → sum ≢ want
    → FieldsFail kind bytes n (BadSum n sum want)
wrong_sum kind bytes at payload sum want n is fit right other =
    subst (λ (w : ℕ). FieldsFail kind bytes n (BadSum n sum w)) (sym right)
    (bad_sum at payload sum (record { bytes_are = is; fits = fit }) (λ same. other (same ∙ sym right)))
