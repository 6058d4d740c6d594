-- Expressions: terms joined by + and -, in capitals.
-- Beside the promise.
use Rattle.std.specs.Prelude.{ℕ, ◌+◌, ◌*◌, ◌-◌, ◌==◌, ◌&&◌, ◌||◌, nat_lt, nat_le, if◌then◌else◌, Bool, true, false, not}
use Rattle.std.specs.Prelude.{List, [], ◌∷◌, length, Option, Some, None, fold, codes}
use Rattle.std.specs.Char.{is_ascii_digit}
use Rattle.std.specs.List.{list_all, list_any}
use Rattle.std.specs.Str.{bytes_eq}
use Rattle.cpu12_isa.specs.{declared.instr.Instr.Instr, Encodings.encoding_of, Encodings.every, Mnemonics.text_of}
use Rattle.cpu12_asm.specs.{declared.expressions.Term.Term, declared.expressions.Sum.Sum, Lines.pieces}
use Rattle.cpu12_asm.specs.declared.expressions.Term.TheVariants.{Value, Large, Unknown, Bad}

abbrev pub is_letter : ℕ → Bool
is_letter b = (nat_le 0x41 b && nat_le b 0x5A) || (b == 0x5F)

abbrev pub is_in_name : ℕ → Bool
is_in_name b = is_letter b || is_ascii_digit b

-- the word is the mnemonic of an instruction
abbrev pub names_instruction : List ℕ → Instr → Bool
names_instruction word i = bytes_eq word (text_of (encoding_of i).mnemonic)

abbrev pub is_mnemonic : List ℕ → Bool
is_mnemonic word = list_any (names_instruction word) every

abbrev pub is_directive : List ℕ → Bool
is_directive word =
    bytes_eq word (codes "ORG") || (bytes_eq word (codes "EQU")
    || (bytes_eq word (codes "FCB") || bytes_eq word (codes "FDB")))

abbrev pub is_operation : List ℕ → Bool
is_operation word = is_directive word || is_mnemonic word

-- a letter, then letters and digits, and no operation
abbrev pub has_letters_of_name : List ℕ → Bool
has_letters_of_name [] = false
has_letters_of_name (b ∷ bs) = is_letter b && list_all is_in_name (b ∷ bs)

abbrev pub is_name : List ℕ → Bool
is_name word = has_letters_of_name word && not (is_operation word)

abbrev pub is_hex_digit : ℕ → Bool
is_hex_digit b = is_ascii_digit b || (nat_le 0x41 b && nat_le b 0x46)

abbrev pub hex_value : ℕ → ℕ
hex_value b = if is_ascii_digit b then b - 0x30 else b - 0x37

abbrev pub decimal_value : List ℕ → ℕ
decimal_value digits = fold (λ n b. n * 10 + (b - 0x30)) 0 digits

abbrev pub hexadecimal_value : List ℕ → ℕ
hexadecimal_value digits = fold (λ n b. n * 16 + hex_value b) 0 digits

abbrev pub is_number : (ℕ → Bool) → List ℕ → Bool
is_number is_digit digits = nat_lt 0 (length digits) && list_all is_digit digits

abbrev pub number : ℕ → Term
number n = if nat_le n 65535 then Value n else Large

abbrev pub name_value : Option ℕ → Term
name_value None = Unknown
name_value (Some v) = Value v

-- what a term stands for, where names have values
abbrev pub plain_term : (List ℕ → Option ℕ) → List ℕ → Term
plain_term value word =
    if is_number is_ascii_digit word then number (decimal_value word) else (
    if is_name word then name_value (value word) else Bad)

abbrev pub term_of : (List ℕ → Option ℕ) → List ℕ → Term
term_of value [] = Bad
term_of value (b ∷ bs) =
    if b == 0x24 then (if is_number is_hex_digit bs then number (hexadecimal_value bs) else Bad)
    else plain_term value (b ∷ bs)

-- a sum with one term more; after the first of a group the others are taken away
abbrev pub with_term : Sum → Term → Sum
with_term s (Value v) =
    if s.negative then record s { taken = s.taken + v } else record s { added = s.added + v; negative = true }
with_term s Large = record s { large = true; negative = true }
with_term s Unknown = record s { unknown = true; negative = true }
with_term s Bad = record s { bad = true; negative = true }

-- a sum with the terms of a group, of which the first is added
abbrev pub with_group : (List ℕ → Option ℕ) → Sum → List ℕ → Sum
with_group value s group =
    fold (λ t word. with_term t (term_of value word)) (record s { negative = false }) (pieces 0x2D group)

abbrev pub nothing : Sum
nothing = record { added = 0; taken = 0; large = false; unknown = false; bad = false; negative = false }

-- an expression's sum
abbrev pub sum_of : (List ℕ → Option ℕ) → List ℕ → Sum
sum_of value text = fold (with_group value) nothing (pieces 0x2B text)
