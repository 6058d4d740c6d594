-- The bytes of an image have a cut.
use Rattle.handler_check.proofs.Words.{[], ◌++◌, ◌+◌, ◌-◌, ◌<◌, ◌^◌, ◌∙◌, ◌∷◌, ◌≡◌, ◌≤◌, ◌⊎◌, ap, arith, byte_at}
use Rattle.handler_check.proofs.Words.{cases_eq, cases_lt, code_bytes, code_end, decode_at, DecodesEncoded, encode_of}
use Rattle.handler_check.proofs.Words.{FitCode, FitsOperands, get_or, Gives, inl, inr, Instr, IsCut, List, None, Ok}
use Rattle.handler_check.proofs.Words.{Option, refl, Result, size_of, Some, subst, suc, sym, unwrap_or, zero, ℕ}
use Rattle.std.specs.Prelude.{Err}
use Rattle.std.proofs.Common.{append_assoc}
use Rattle.std.proofs.lemmas.List.{append-nil}
use Rattle.cpu12_isa.specs.declared.encodings.Operand.{Operand}
use Rattle.cpu12_isa.specs.declared.encodings.Operand.TheVariants.{Byte, Offset, Word, Address, ByteToAddress, AddressToAddress}
use Rattle.cpu12_isa.specs.Encodings.{FitsOperand, encoding_of}
use Rattle.handler_check.specs.{Images.IsRun}
use Rattle.handler_check.proofs.{Decoding.size_low, Places.bytes-push, Places.fits-push, Extents.below_run}
use Rattle.handler_check.proofs.{Extents.has_bytes}
use Rattle.handler_check.proofs.Given.{HasBytes, gives_both, gives_get, one_given}

-- ---- whether an instruction is there

abbrev IsDecided : Type 0 → Type 0
IsDecided A = A ⊎ (A → ⊥)

below_or : (v n : ℕ) → IsDecided (v < n)
below_or v n = elim (cases_lt v n) [ inl l ↦ inl l | inr l ↦ inr (λ k. omega (arith, l, k)) ]

both_or : {A B : Type 0} → IsDecided A → IsDecided B → IsDecided (A × B)
both_or {A} {B} (inl a) (inl b) = inl (a, b)
both_or {A} {B} (inl a) (inr none) = inr (λ p. none p.1)
both_or {A} {B} (inr none) b = inr (λ p. none p.0)

fits_or : (operand : Operand) → IsDecided (FitsOperand operand)
fits_or (Byte v) = below_or v (2 ^ 8)
fits_or (Offset v) = below_or v (2 ^ 8)
fits_or (Word v) = below_or v (2 ^ 16)
fits_or (Address v) = below_or v (2 ^ 16)
fits_or (ByteToAddress v at) = both_or (below_or v (2 ^ 8)) (below_or at (2 ^ 16))
fits_or (AddressToAddress source at) = both_or (below_or source (2 ^ 16)) (below_or at (2 ^ 16))
fits_or operand = inl tt

byte_or : (o : Option ℕ) (v : ℕ) → IsDecided (o ≡ Some v)
byte_or None v = inr (λ e. (let z : ⊥ = cc in z))
byte_or (Some b) v = elim (cases_eq b v) [
  | inl same ↦ inl (ap (λ n. Some n) same)
  | inr other ↦ inr (λ e. other (let same : b ≡ v = cc in same))
]

gives_or : (image : List (ℕ × ℕ)) (at : ℕ) (vs : List ℕ) → IsDecided (Gives image at vs)
gives_or image at [] = inl tt
gives_or image at (v ∷ vs) = both_or (byte_or (byte_at image at) v) (gives_or image (at + 1) vs)

abbrev StandsThere : List (ℕ × ℕ) → ℕ → Type 0
StandsThere image at = (i : Instr) × (FitsOperands i × Gives image at (encode_of i))

module _ (decodes : DecodesEncoded) (image : List (ℕ × ℕ)) (m : List ℕ) (has : HasBytes image m) where
  instr_or : (at : ℕ) → at < 20480 → IsDecided (StandsThere image at)
  instr_or at l = by_decoding (decode_at m at) refl
    where
      decoded : (i : Instr) → FitsOperands i → Gives image at (encode_of i) → decode_at m at ≡ Ok i
      decoded i fits gives = one_given decodes image m at i has l fits gives

      not_there : (i : Instr) → decode_at m at ≡ Ok i → (FitsOperands i × Gives image at (encode_of i) → ⊥)
          → StandsThere image at → ⊥
      not_there i e none (j, (fits, gives)) =
          let f = decoded j fits gives in
          let same : j ≡ i = cc in
          none (subst (λ k. FitsOperands k × Gives image at (encode_of k)) same (fits, gives))

      by_decoding : (r : Result Instr ℕ) → decode_at m at ≡ r → IsDecided (StandsThere image at)
      by_decoding (Err n) e = inr none
        where
          none : StandsThere image at → ⊥
          none (i, (fits, gives)) = let f = decoded i fits gives in cc
      by_decoding (Ok i) e = elim (both_or (fits_or (encoding_of i).operand) (gives_or image at (encode_of i))) [
        | inl there ↦ inl (i, there)
        | inr none ↦ inr (not_there i e none)
      ]

  -- ---- one instruction after the other

  module _ (end : ℕ) (r : IsRun image end) where
    abbrev HasCut : Type 0
    HasCut = (is : List Instr) × (IsCut image is × (code_end is ≤ end))

    none_behind : (is : List Instr) → end ≤ code_end is → StandsThere image (code_end is) → ⊥
    none_behind is l (i, (fits, gives)) =
        let z = size_low i in
        let first = gives_get image (code_end is) (encode_of i) 0 gives z.0 in
        let b = below_run image end (code_end is + 0) (get_or (encode_of i) 0 0) r first in
        omega (arith, b, l)

    within : (is : List Instr) (i : Instr) → Gives image (code_end is) (encode_of i) → code_end is + size_of i ≤ end
    within is i gives =
        let z = size_low i in
        let some = z.0 in
        let last = gives_get image (code_end is) (encode_of i) (size_of i - 1) gives (omega (arith, some)) in
        let b = below_run image end (code_end is + (size_of i - 1)) (get_or (encode_of i) (size_of i - 1) 0) r last in
        omega (arith, b, some)

    push_bytes : (is : List Instr) (i : Instr) → code_bytes (is ++ i ∷ []) ≡ code_bytes is ++ encode_of i
    push_bytes [] i = append-nil (encode_of i)
    push_bytes (j ∷ is) i = ap (λ bs. encode_of j ++ bs) (push_bytes is i) ∙ sym (append_assoc (encode_of j) (code_bytes is) (encode_of i))

    one_more : (is : List Instr) (i : Instr) → code_end (is ++ i ∷ []) ≡ code_end is + size_of i
    one_more is i = let more = bytes-push is i in omega (arith, more)

    whole : (is : List Instr) → FitCode is → Gives image 16384 (code_bytes is) → code_end is ≤ end
        → (StandsThere image (code_end is) → ⊥) → HasCut
    whole is fits gives l none = (is, (record { fits = fits; stands = gives; ends = λ i f g. none (i, (f, g)) }, l))

    cut_from : (room : ℕ) (is : List Instr) → FitCode is → Gives image 16384 (code_bytes is) → code_end is ≤ end
        → end ≤ code_end is + room → HasCut
    cut_from zero is fits gives l few = whole is fits gives l (none_behind is (omega (arith, few)))
    cut_from (suc room) is fits gives l few = elim (cases_lt (code_end is) end) [
      | inr all ↦ whole is fits gives l (none_behind is all)
      | inl more ↦
          let high = r.within in
          elim (instr_or (code_end is) (omega (arith, more, high))) [
            | inr none ↦ whole is fits gives l none
            | inl (i, (fit, given)) ↦
                let some = (size_low i).0 in
                let behind = one_more is i in
                let in_run = within is i given in
                cut_from room (is ++ i ∷ []) (fits-push is i fits fit)
                (subst (λ bs. Gives image 16384 bs) (sym (push_bytes is i))
                (gives_both image 16384 (code_bytes is) (encode_of i) gives given)) (omega (arith, behind, in_run))
                (omega (arith, few, behind, some))
          ]
    ]

-- ---- a memory with the bytes

-- a list with these numbers
tabled : (n : ℕ) (f : ℕ → ℕ) → (m : List ℕ) × ((k : ℕ) → k < n → get_or m k 0 ≡ f k)
tabled zero f = ([], λ k l. absurd (omega arith))
tabled (suc n) f =
    let rest = tabled n (λ k. f (suc k)) in
    (f 0 ∷ rest.0, at rest.0 rest.1)
  where
    at : (m : List ℕ) → ((k : ℕ) → k < n → get_or m k 0 ≡ f (suc k)) → (k : ℕ) → k < suc n
        → get_or (f 0 ∷ m) k 0 ≡ f k
    at m rest zero l = refl
    at m rest (suc k) l = rest k (omega (arith, l))

pub cut_of_run : DecodesEncoded → (image : List (ℕ × ℕ)) (end : ℕ) → IsRun image end
    → (is : List Instr) × (IsCut image is × (code_end is ≤ end))
cut_of_run decodes image end r =
    let m = tabled (2 ^ 16) (λ k. unwrap_or (byte_at image k) 0) in
    let has = has_bytes image end m.0 [] r (λ at l. m.1 at l) in
    let begins = r.begins in
    cut_from decodes image m.0 has end r end [] tt tt (omega (arith, begins)) (omega arith)
