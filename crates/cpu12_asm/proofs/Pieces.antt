-- The first piece of a text.
use Rattle.std.proofs.Common.{◌≡◌, ℕ, ◌+◌, ◌-◌, ◌<◌, ◌≤◌, ◌==◌, List, [], ◌∷◌, take, drop, length, refl, sym, ap, ◌∙◌}
use Rattle.std.proofs.Common.{subst, inl, inr, arith}
use Rattle.std.proofs.lemmas.List.{take_rest}
use Rattle.std.proofs.lemmas.Bool.{cases_Bool}
use Rattle.std.proofs.lemmas.List.Splits.{slice_split_first, length-slice_split}
use Rattle.std.specs.List.{position_or_len}
use Rattle.std.specs.Str.Lines.{strip_carriage_return}
use Rattle.cpu12_asm.specs.Lines.{pieces, without_returns, lines_of}

-- the text has a piece after the first
pieces-first : (c : ℕ) (text : List ℕ) (n : ℕ) → n ≡ position_or_len (λ b. b == c) text → n < length text
    → pieces c text ≡ take n text ∷ pieces c (drop (n + 1) text)
pieces-first c text n e l =
    let within : position_or_len (λ b. b == c) text < length text = subst (λ (k : ℕ). k < length text) e l in
    slice_split_first (λ b. b == c) text 0 within ∙ ap (λ (k : ℕ). take k text ∷ pieces c (drop (k + 1) text)) (sym e)

pub pieces-cut : (c : ℕ) (text : List ℕ) (n : ℕ) → n ≡ position_or_len (λ b. b == c) text → n < length text
    → pieces c text ≡ take n text ∷ pieces c (take (length text - (n + 1)) (drop (n + 1) text))
pieces-cut c text n e l = pieces-first c text n e l
    ∙ ap (λ (t : List ℕ). take n text ∷ pieces c t) (sym (take_rest text (n + 1)))

-- the text is one piece
pub pieces-whole : (c : ℕ) (text : List ℕ) → length text ≤ position_or_len (λ b. b == c) text
    → pieces c text ≡ text ∷ []
pieces-whole c [] l = refl
pieces-whole c (b ∷ text) l = elim (cases_Bool (b == c)) [
  | inl here ↦ (let none : position_or_len (λ k. k == c) (b ∷ text) ≡ 0 = rw here refl in absurd (omega arith))
  | inr other ↦
      let more : position_or_len (λ k. k == c) (b ∷ text) ≡ 1 + position_or_len (λ k. k == c) text = rw other refl in
      let rest : pieces c text ≡ text ∷ [] = pieces-whole c text (omega arith) in
      rw (other, rest) refl
]

-- a line with another behind it
pub lines-first : (line text rest : List ℕ) → pieces 0x0A text ≡ line ∷ pieces 0x0A rest
    → lines_of text ≡ strip_carriage_return line ∷ lines_of rest
lines-first line text rest e =
    ap without_returns e
    ∙ behind line (pieces 0x0A rest) (let n = length-slice_split (λ b. b == 0x0A) rest in omega arith)
  where
    behind : (line : List ℕ) (lines : List (List ℕ)) → 0 < length lines
        → without_returns (line ∷ lines) ≡ strip_carriage_return line ∷ without_returns lines
    behind line [] l = absurd (omega arith)
    behind line (next ∷ lines) l = refl
