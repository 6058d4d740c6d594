-- The first line of a text.
use Rattle.std.proofs.Common.{◌≡◌, ℕ, ◌+◌, ◌-◌, ◌<◌, ◌≤◌, ◌==◌, List, [], ◌∷◌, take, drop, length, refl, sym, ap, ◌∙◌}
use Rattle.std.proofs.Common.{subst, inl, inr, arith}
use Rattle.std.proofs.lemmas.List.{take_rest}
use Rattle.std.proofs.lemmas.Bool.{cases_Bool}
use Rattle.std.proofs.lemmas.Bool.Decides.{nat_tests}
use Rattle.std.proofs.lemmas.List.Splits.{slice_split_first, length-slice_split}
use Rattle.std.specs.List.{slice_split, position_or_len}
use Rattle.std.specs.Str.Lines.{lines, lines_of_parts, strip_carriage_return}

-- the parts of a text between newlines
abbrev pub parts : List ℕ → List (List ℕ)
parts text = slice_split (λ b. b == 10) text

pub first_ends : (line : List ℕ) (behind : List (List ℕ)) → 0 < length behind
    → lines_of_parts (line ∷ behind) ≡ strip_carriage_return line ∷ lines_of_parts behind
first_ends line [] some = absurd (omega arith)
first_ends line (next ∷ behind) some = refl

-- a line with its end
pub lines_cut : (text : List ℕ) (n : ℕ) → n ≡ position_or_len (λ b. b == 10) text → n < length text
    → lines text ≡ strip_carriage_return (take n text) ∷ lines (take (length text - (n + 1)) (drop (n + 1) text))
lines_cut text n is lt =
    let within : position_or_len (λ b. b == 10) text < length text = subst (λ (k : ℕ). k < length text) is lt in
    let first : parts text ≡ take n text ∷ parts (drop (n + 1) text) = slice_split_first (λ b. b == 10) text 0 within
    ∙ ap (λ (k : ℕ). take k text ∷ parts (drop (k + 1) text)) (sym is) in
    ap lines_of_parts first
    ∙ first_ends (take n text) (parts (drop (n + 1) text))
    (let some = length-slice_split (λ b. b == 10) (drop (n + 1) text) in omega arith)
    ∙ ap (λ (t : List ℕ). strip_carriage_return (take n text) ∷ lines t) (sym (take_rest text (n + 1)))

one_part : (text : List ℕ) → length text ≤ position_or_len (λ b. b == 10) text → parts text ≡ text ∷ []
one_part [] none = refl
one_part (b ∷ text) none = elim (cases_Bool (b == 10)) [
  | inl here ↦ (let at_front : position_or_len (λ k. k == 10) (b ∷ text) ≡ 0 = rw here refl in absurd (omega arith))
  | inr other ↦
      let more : position_or_len (λ k. k == 10) (b ∷ text) ≡ 1 + position_or_len (λ k. k == 10) text = rw other refl in
      let rest : parts text ≡ text ∷ [] = one_part text (omega arith) in
      rw (other, rest) refl
]

some_is_line : (text : List ℕ) → 0 < length text → lines_of_parts (text ∷ []) ≡ text ∷ []
some_is_line [] some = absurd (omega arith)
some_is_line (b ∷ text) some = grind (arith, nat_tests)

-- a last line without an end
pub lines_whole : (text : List ℕ) → 0 < length text → length text ≤ position_or_len (λ b. b == 10) text
    → lines text ≡ text ∷ lines []
lines_whole text some none = ap lines_of_parts (one_part text none) ∙ some_is_line text some
