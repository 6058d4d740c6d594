-- Where the bytes of an image stand.
use Rattle.handler_check.proofs.Words.{◌+◌, ◌-◌, ◌<◌, ◌^◌, ◌∙◌, ◌≡◌, ◌≤◌, ap, AreFirsts, arith, Backward, Bool}
use Rattle.handler_check.proofs.Words.{byte_at, cases_lt, code_end, Dead, decode_at, DecodesEncoded, Empty, encode_of}
use Rattle.handler_check.proofs.Words.{Falls, false, false≢true, FitCode, FitsOperands, get_or, Gives, HandlerFault}
use Rattle.handler_check.proofs.Words.{HasCode, Height, inl, inr, Instr, is_some, is_trapped, IsAt, IsCut, IsFault}
use Rattle.handler_check.proofs.Words.{IsFirstFault, IsOutside, IsSome, IsWhole, length, List, Memory, nat_lt}
use Rattle.handler_check.proofs.Words.{nat_tests, None, NotFree, Ok, Option, Outside, refl, Refused, size_of, Some}
use Rattle.handler_check.proofs.Words.{subst, sym, Target, Trap, true, unwrap_or, ℕ}
use Rattle.handler_check.specs.{Images.IsRun}
use Rattle.handler_check.proofs.{Decoding.size_low, Places.within}
use Rattle.handler_check.proofs.Given.{HasBytes, gives_get, gives_all, given_by, one_given}

pub none_not : (o : Option ℕ) → o ≡ None → IsSome o → ⊥
none_not o e s = false≢true (sym (ap is_some e) ∙ s)

pub some_is : (o : Option ℕ) → IsSome o → (b : ℕ) × (o ≡ Some b)
some_is (Some b) s = (b, refl)
some_is None s = absurd (false≢true s)

-- an image whose bytes stand there
pub whole_of : (image : List (ℕ × ℕ)) (end : ℕ) → IsRun image end → IsWhole image
whole_of image end r = record { begins = r.inside 16384 (omega arith) r.begins; inside = none }
  where
    past : (k : ℕ) → 16384 ≤ k → byte_at image k ≡ None → end ≤ k
    past k l e = elim (cases_lt k end) [ inl h ↦ absurd (none_not (byte_at image k) e (r.inside k l h)) | inr h ↦ h ]

    none : (at : ℕ) → IsOutside image at → ⊥
    none at o = elim o.1 [
      | inl l ↦ none_not (byte_at image at) (r.outside at (inl l)) o.0
      | inr s ↦ elim s [
        | inl l ↦ (let high = r.within in none_not (byte_at image at) (r.outside at (inr (omega arith))) o.0)
        | inr gap ↦ (let beyond = past gap.0 gap.1.0 gap.1.2 in let before = gap.1.1 in
            none_not (byte_at image at) (r.outside at (inr (omega arith))) o.0)
      ]
    ]

pub below_run : (image : List (ℕ × ℕ)) (end at b : ℕ) → IsRun image end → byte_at image at ≡ Some b → at < end
below_run image end at b r e =
    elim (cases_lt at end)
    [ inl l ↦ l | inr l ↦ absurd (none_not (byte_at image at) (r.outside at (inr l)) (ap is_some e)) ]

pub has_bytes : (image : List (ℕ × ℕ)) (end : ℕ) (m old : List ℕ) → IsRun image end
    → ((at : ℕ) → at < 2 ^ 16 → get_or m at 0 ≡ unwrap_or (byte_at image at) (get_or old at 0)) → HasBytes image m
has_bytes image end m old r w at b e =
    let l = below_run image end at b r e in
    let high = r.within in
    w at (omega arith) ∙ ap (λ (o : Option ℕ). unwrap_or o (get_or old at 0)) e

-- the cut of its bytes
cut_is : DecodesEncoded
    → (image : List (ℕ × ℕ)) (end : ℕ) (m : List ℕ) (is : List Instr) (trapped : Bool) (firsts : List Bool)
    → IsRun image end → HasBytes image m → FitCode is → HasCode is m → AreFirsts is trapped firsts
    → 16384 + length firsts ≡ end
    → (trapped ≡ true → (i : Instr) → decode_at m (code_end is) ≡ Ok i → end < code_end is + size_of i) → IsCut image is
cut_is decodes image end m is trapped firsts r h fits code t size stops =
    record { fits = fits; stands = gives_all image 16384 is given; ends = ends trapped refl }
  where
    given : (at : ℕ) (i : Instr) → IsAt is at i → Gives image at (encode_of i)
    given at i w =
        let b = within 16384 is at i w in
        let low = b.0 in
        let up = b.1 in
        let z = size_low i in
        let some_byte = z.0 in
        let last = t.ends in
        let high = r.within in
        given_by image m at i h (omega arith)
        (λ k l. some_is (byte_at image (at + k)) (r.inside (at + k) (omega arith) (omega arith))) (code at i w)

    last_given : (i : Instr) → Gives image (code_end is) (encode_of i) → code_end is + size_of i ≤ end
    last_given i g =
        let z = size_low i in
        let some_byte = z.0 in
        elim (cases_lt end (code_end is + size_of i)) [
          | inl l ↦ absurd (let last : ℕ = code_end is + (size_of i - 1) in
              let b = below_run image end (code_end is + (size_of i - 1)) (get_or (encode_of i) (size_of i - 1) 0) r
              (gives_get image (code_end is) (encode_of i) (size_of i - 1) g (omega arith)) in omega arith)
          | inr l ↦ l
        ]

    ends : (b : Bool) → trapped ≡ b → (i : Instr) → FitsOperands i → Gives image (code_end is) (encode_of i) → ⊥
    ends true e i f g =
        let l = last_given i g in
        let high = r.within in
        let z = size_low i in
        let some_byte = z.0 in
        let s = stops e i (one_given decodes image m (code_end is) i h (omega arith) f g) in
        omega arith
    ends false e i f g =
        let l = last_given i g in
        let z = size_low i in
        let some_byte = z.0 in
        let u : nat_lt (code_end is) (16384 + length firsts) ≡ false = sym t.trap ∙ e in
        let v : 16384 + length firsts ≤ code_end is = grind (arith, nat_tests) in
        omega arith

trapped_is : (image : List (ℕ × ℕ)) (end : ℕ) (is : List Instr) (trapped : Bool) (firsts : List Bool)
    → IsRun image end → AreFirsts is trapped firsts → 16384 + length firsts ≡ end → is_trapped image is ≡ trapped
trapped_is image end is trapped firsts r t size = elim (cases_lt (code_end is) end) [
  | inl l ↦ (let u : nat_lt (code_end is) (16384 + length firsts) ≡ true = grind (arith, nat_tests) in
      r.inside (code_end is) (omega arith) l ∙ sym (t.trap ∙ u))
  | inr l ↦ (let u : nat_lt (code_end is) (16384 + length firsts) ≡ false = grind (arith, nat_tests) in
      ap is_some (r.outside (code_end is) (inr l)) ∙ sym (t.trap ∙ u))
]

-- what is said of the image once its bytes are cut
pub cut_parts : DecodesEncoded → (m old : List ℕ)
    → {image : List (ℕ × ℕ)} {end : ℕ} {is : List Instr} {trapped : Bool} {firsts : List Bool}
    → IsRun image end → ((at : ℕ) → at < 2 ^ 16 → get_or m at 0 ≡ unwrap_or (byte_at image at) (get_or old at 0))
    → FitCode is → HasCode is m → AreFirsts is trapped firsts → 16384 + length firsts ≡ end
    → (trapped ≡ true → (i : Instr) → decode_at m (code_end is) ≡ Ok i → end < code_end is + size_of i)
    → IsWhole image × IsCut image is × (is_trapped image is ≡ trapped)
cut_parts decodes m old {image} {end} {is} {trapped} {firsts} r writes fits code t size stops = (
  whole_of image end r,
  cut_is decodes image end m is trapped firsts r (has_bytes image end m old r writes) fits code t size stops,
  trapped_is image end is trapped firsts r t size,
)

-- its first fault is the image's
pub fault_is : (image : List (ℕ × ℕ)) (is : List Instr) (trapped : Bool) → IsWhole image → IsCut image is
    → is_trapped image is ≡ trapped → (f : HandlerFault) → IsFirstFault is trapped f → IsFault image f
fault_is image is trapped w c e Empty a = absurd a.applies
fault_is image is trapped w c e (Outside at) a = absurd a.applies
fault_is image is trapped w c e (Dead at) a =
    (w, (is, (c, subst (λ (b : Bool). IsFirstFault is b (Dead at)) (sym e) a)))
fault_is image is trapped w c e (Trap at) a =
    (w, (is, (c, subst (λ (b : Bool). IsFirstFault is b (Trap at)) (sym e) a)))
fault_is image is trapped w c e (Refused at) a =
    (w, (is, (c, subst (λ (b : Bool). IsFirstFault is b (Refused at)) (sym e) a)))
fault_is image is trapped w c e (NotFree at to) a =
    (w, (is, (c, subst (λ (b : Bool). IsFirstFault is b (NotFree at to)) (sym e) a)))
fault_is image is trapped w c e (Backward at) a =
    (w, (is, (c, subst (λ (b : Bool). IsFirstFault is b (Backward at)) (sym e) a)))
fault_is image is trapped w c e (Target at to) a =
    (w, (is, (c, subst (λ (b : Bool). IsFirstFault is b (Target at to)) (sym e) a)))
fault_is image is trapped w c e (Height at) a =
    (w, (is, (c, subst (λ (b : Bool). IsFirstFault is b (Height at)) (sym e) a)))
fault_is image is trapped w c e (Falls at) a =
    (w, (is, (c, subst (λ (b : Bool). IsFirstFault is b (Falls at)) (sym e) a)))
fault_is image is trapped w c e Memory a = absurd a.applies
