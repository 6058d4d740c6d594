-- Mnemonics are words of their shape.
use Rattle.std.proofs.Common.{◌≡◌, ℕ, Bool, true, false, List, [], ◌∷◌, refl, ap, inl, inr}
use Rattle.std.specs.List.{list_all, list_any}
use Rattle.std.proofs.lemmas.Bool.{cases_Bool}
use Rattle.std.proofs.lemmas.Slice.Eq.{bytes_eq-Decides}
use Rattle.cpu12_isa.specs.{declared.instr.Instr.Instr, Encodings.every, Encodings.encoding_of, Mnemonics.text_of}
use Rattle.cpu12_asm.specs.{Expressions.is_mnemonic, Expressions.names_instruction, Shapes.may_be_mnemonic}

abbrev is_spelled : Instr → Bool
is_spelled i = may_be_mnemonic (text_of (encoding_of i).mnemonic)

names_none : (word : List ℕ) (i : Instr) → may_be_mnemonic word ≡ false → is_spelled i ≡ true
    → names_instruction word i ≡ false
names_none word i other has = elim (cases_Bool (names_instruction word i)) [
  | inl names ↦ (let same = ap may_be_mnemonic ((bytes_eq-Decides word (text_of (encoding_of i).mnemonic)).0 names) in
      absurd (cc))
  | inr none ↦ none
]

any_none : (word : List ℕ) (rows : List Instr) → may_be_mnemonic word ≡ false → list_all is_spelled rows ≡ true
    → list_any (names_instruction word) rows ≡ false
any_none word [] other all = refl
any_none word (i ∷ rows) other all = elim (cases_Bool (is_spelled i)) [
  | inl has ↦ (let rest : list_all is_spelled rows ≡ true = rw has at all in
      rw (names_none word i other has, any_none word rows other rest) refl)
  | inr bad ↦ (let no : list_all is_spelled (i ∷ rows) ≡ false = rw bad refl in absurd (cc))
]

-- a word of another shape is no mnemonic
pub is_mnemonic-other : (word : List ℕ) → may_be_mnemonic word ≡ false → is_mnemonic word ≡ false
is_mnemonic-other word other = any_none word every other refl
