-- What is decoded has its opcode there.
use Rattle.std.proofs.Common.{◌≡◌, ◌==◌, ◌&&◌, ◌++◌, ℕ, Bool, true, false, Result, Ok, Err, List, [], ◌∷◌, get_or, refl}
use Rattle.std.proofs.Common.{ap, sym, ◌∙◌, subst, inl, inr}
use Rattle.std.specs.Prelude.{if◌then◌else◌}
use Rattle.std.proofs.lemmas.Bool.Decides.{nat_tests}
use Rattle.std.proofs.Common.{arith}
use Rattle.std.proofs.lemmas.Bool.{cases_Bool}
use Rattle.cpu12_isa.specs.{declared.instr.Instr.Instr, declared.encodings.Page.Page, Encodings.encoding_of, Encodings.prebytes}
use Rattle.cpu12_isa.specs.declared.encodings.Page.TheVariants.{One, Two, Transfer, AddIndexed}
use Rattle.cpu12_isa.specs.Code.{is_on, entry, page_of, StandFrom, DecodedHasOpcode}

-- the entry is an instruction of the page, at its opcode
abbrev is_entry : Page → ℕ → Instr → Bool
is_entry page n i = is_on page (encoding_of i).page && ((encoding_of i).opcode == n)

abbrev are_entries : Page → List (ℕ × Instr) → Bool
are_entries page [] = true
are_entries page (e ∷ es) = is_entry page e.0 e.1 && are_entries page es

both_true : (a b : Bool) → (a && b) ≡ true → (a ≡ true) × (b ≡ true)
both_true true b h = (refl, h)
both_true false b h = absurd (let e : false ≡ true = h in cc)

same_number : (a b : ℕ) → (a == b) ≡ true → a ≡ b
same_number a b h = grind (arith, nat_tests)

ok_same : (i j : Instr) → ◌≡◌ {A = Result Instr ℕ} (Ok i) (Ok j) → i ≡ j
ok_same i j e = cc

same_page : (p q : Page) → is_on p q ≡ true → p ≡ q
same_page One One h = refl
same_page Two Two h = refl
same_page Transfer Transfer h = refl
same_page AddIndexed AddIndexed h = refl
same_page p q h = absurd (let e : false ≡ true = h in cc)

found_is_entry : (page : Page) (t : List (ℕ × Instr)) (n : ℕ) (i : Instr) → are_entries page t ≡ true → entry t n ≡ Ok i
    → is_entry page n i ≡ true
found_is_entry page [] n i a h = absurd (let e : ◌≡◌ {A = Result Instr ℕ} (Err n) (Ok i) = h in cc)
found_is_entry page (e ∷ es) n i a h = elim (cases_Bool (n == e.0)) [
  | inl t ↦
      let is : e.1 ≡ i = ok_same e.1 i (sym (ap (λ (b : Bool). choose b) t) ∙ h) in
      let here = (both_true (is_entry page e.0 e.1) (are_entries page es) a).0 in
      subst (λ (j : Instr). is_entry page n j ≡ true) is
      (subst (λ (k : ℕ). is_entry page k e.1 ≡ true) (sym (same_number n e.0 t)) here)
  | inr f ↦ found_is_entry page es n i (both_true (is_entry page e.0 e.1) (are_entries page es) a).1
      (sym (ap (λ (b : Bool). choose b) f) ∙ h)
]
  where
    choose : Bool → Result Instr ℕ
    choose b = if b then Ok e.1 else entry es n

-- of a page that has a byte before its opcodes
on_page_with : (page : Page) (bytes : List ℕ) (before : ℕ) (i : Instr) → are_entries page (page_of page bytes) ≡ true
    → prebytes page ≡ before ∷ []
    → get_or bytes 0 0 ≡ before → entry (page_of page bytes) (get_or bytes 1 0) ≡ Ok i
    → StandFrom bytes 0 (prebytes (encoding_of i).page ++ ((encoding_of i).opcode ∷ []))
on_page_with page bytes before i all pre first found =
    let both = both_true (is_on page (encoding_of i).page) ((encoding_of i).opcode == get_or bytes 1 0)
    (found_is_entry page (page_of page bytes) (get_or bytes 1 0) i all found) in
    let opcode = same_number (encoding_of i).opcode (get_or bytes 1 0) both.1 in
    let wanted : prebytes (encoding_of i).page ≡ before ∷ [] =
    ap prebytes (sym (same_page page (encoding_of i).page both.0)) ∙ pre in
    subst (λ (front : List ℕ). StandFrom bytes 0 (front ++ ((encoding_of i).opcode ∷ []))) (sym wanted)
    (first, (sym opcode, tt))

on_first_page : (bytes : List ℕ) (i : Instr) → entry (page_of One bytes) (get_or bytes 0 0) ≡ Ok i
    → StandFrom bytes 0 (prebytes (encoding_of i).page ++ ((encoding_of i).opcode ∷ []))
on_first_page bytes i found =
    let both = both_true (is_on One (encoding_of i).page) ((encoding_of i).opcode == get_or bytes 0 0)
    (found_is_entry One (page_of One bytes) (get_or bytes 0 0) i refl found) in
    let opcode = same_number (encoding_of i).opcode (get_or bytes 0 0) both.1 in
    let wanted : prebytes (encoding_of i).page ≡ [] = ap prebytes (sym (same_page One (encoding_of i).page both.0)) in
    subst (λ (front : List ℕ). StandFrom bytes 0 (front ++ ((encoding_of i).opcode ∷ []))) (sym wanted) (sym opcode, tt)

pub decoded_has_opcode : DecodedHasOpcode
decoded_has_opcode bytes i h = elim (cases_Bool (get_or bytes 0 0 == 0x18)) [
  | inl t ↦ on_page_with Two bytes 0x18 i refl refl (same_number (get_or bytes 0 0) 0x18 t)
      (sym (ap (λ (b : Bool). first b) t) ∙ h)
  | inr f ↦ behind (sym (ap (λ (b : Bool). first b) f) ∙ h)
]
  where
    third : Bool → Result Instr ℕ
    third b = if b then entry (page_of AddIndexed bytes) (get_or bytes 1 0) else entry (page_of One bytes)
        (get_or bytes 0 0)

    second : Bool → Result Instr ℕ
    second b = if b then entry (page_of Transfer bytes) (get_or bytes 1 0) else third (get_or bytes 0 0 == 0xEB)

    first : Bool → Result Instr ℕ
    first b = if b then entry (page_of Two bytes) (get_or bytes 1 0) else second (get_or bytes 0 0 == 0xB7)

    last : third (get_or bytes 0 0 == 0xEB) ≡ Ok i
        → StandFrom bytes 0 (prebytes (encoding_of i).page ++ ((encoding_of i).opcode ∷ []))
    last e = elim (cases_Bool (get_or bytes 0 0 == 0xEB)) [
      | inl t ↦ on_page_with AddIndexed bytes 0xEB i refl refl (same_number (get_or bytes 0 0) 0xEB t)
          (sym (ap (λ (b : Bool). third b) t) ∙ e)
      | inr f ↦ on_first_page bytes i (sym (ap (λ (b : Bool). third b) f) ∙ e)
    ]

    behind : second (get_or bytes 0 0 == 0xB7) ≡ Ok i
        → StandFrom bytes 0 (prebytes (encoding_of i).page ++ ((encoding_of i).opcode ∷ []))
    behind e = elim (cases_Bool (get_or bytes 0 0 == 0xB7)) [
      | inl t ↦ on_page_with Transfer bytes 0xB7 i refl refl (same_number (get_or bytes 0 0) 0xB7 t)
          (sym (ap (λ (b : Bool). second b) t) ∙ e)
      | inr f ↦ last (sym (ap (λ (b : Bool). second b) f) ∙ e)
    ]
