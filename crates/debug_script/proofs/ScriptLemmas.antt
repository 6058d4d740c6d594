-- A text by its first line.
use Rattle.std.proofs.Common.{◌≡◌, ℕ, ◌+◌, ◌-◌, ◌<◌, ◌≤◌, ◌==◌, List, [], ◌∷◌, ◌++◌, take, drop, length, refl, sym, ap}
use Rattle.std.proofs.Common.{◌∙◌, subst, inl, inr, arith}
use Rattle.std.proofs.Common.{append_assoc}
use Rattle.std.specs.Prelude.{Option, Some, None, Result, Ok, Err}
use Rattle.std.proofs.lemmas.List.{take_rest}
use Rattle.std.proofs.lemmas.Bool.{cases_Bool}
use Rattle.std.proofs.lemmas.List.Splits.{slice_split_first, length-slice_split}
use Rattle.std.specs.List.{position_or_len}
use Rattle.debug_script.specs.declared.order.Order.{Order}
use Rattle.debug_script.specs.Scripts.{order_of, orders_from, pieces, script_of, with_order}

-- the orders of the lines read, before those of the others
abbrev pub before : List Order → Result (List Order) ℕ → Result (List Order) ℕ
before orders (Ok others) = Ok (orders ++ others)
before orders (Err n) = Err n

pub first_piece : (text : List ℕ) (n : ℕ) → n ≡ position_or_len (λ b. b == 0x0A) text → n < length text
    → pieces text ≡ take n text ∷ pieces (take (length text - (n + 1)) (drop (n + 1) text))
first_piece text n e l =
    let within : position_or_len (λ b. b == 0x0A) text < length text = subst (λ (k : ℕ). k < length text) e l in
    slice_split_first (λ b. b == 0x0A) text 0 within
    ∙ ap (λ (k : ℕ). take k text ∷ pieces (drop (k + 1) text)) (sym e)
    ∙ ap (λ (t : List ℕ). take n text ∷ pieces t) (sym (take_rest text (n + 1)))

pub whole_piece : (text : List ℕ) → length text ≤ position_or_len (λ b. b == 0x0A) text → pieces text ≡ text ∷ []
whole_piece [] l = refl
whole_piece (b ∷ text) l = elim (cases_Bool (b == 0x0A)) [
  | inl here ↦ (let none : position_or_len (λ k. k == 0x0A) (b ∷ text) ≡ 0 = rw here refl in absurd (omega arith))
  | inr other ↦
      let more : position_or_len (λ k. k == 0x0A) (b ∷ text) ≡ 1 + position_or_len (λ k. k == 0x0A) text =
      rw other refl in
      let rest : pieces text ≡ text ∷ [] = whole_piece text (omega arith) in
      rw (other, rest) refl
]

-- a line with others behind it
with_others : (n : ℕ) (line : List ℕ) (others : List (List ℕ)) → 0 < length others
    → orders_from n (line ∷ others) ≡ with_order n (order_of line) (orders_from (n + 1) others)
with_others n line [] l = absurd (omega arith)
with_others n line (next ∷ others) l = refl

line_first : (text line rest : List ℕ) (n : ℕ) → pieces text ≡ line ∷ pieces rest
    → orders_from n (pieces text) ≡ with_order n (order_of line) (orders_from (n + 1) (pieces rest))
line_first text line rest n e =
    ap (orders_from n) e
    ∙ with_others n line (pieces rest) (let s = length-slice_split (λ b. b == 0x0A) rest in omega arith)

one_more : (orders : List Order) (o : Order) (n : ℕ) (others : Result (List Order) ℕ)
    → before orders (with_order n (Some o) others) ≡ before (orders ++ o ∷ []) others
one_more orders o n (Ok others) = ap (λ (os : List Order). Ok os) (sym (append_assoc orders (o ∷ []) others))
one_more orders o n (Err k) = refl

-- the text so far with one line more
pub line_more : (all : Result (List Order) ℕ) (orders : List Order) (o : Order) (text line rest : List ℕ) (n : ℕ)
    → all ≡ before orders (orders_from n (pieces text)) → pieces text ≡ line ∷ pieces rest → Some o ≡ order_of line
    → all ≡ before (orders ++ o ∷ []) (orders_from (n + 1) (pieces rest))
line_more all orders o text line rest n so_far e is =
    let others = orders_from (n + 1) (pieces rest) in
    so_far ∙ ap (before orders) (line_first text line rest n e)
    ∙ ap (λ (found : Option Order). before orders (with_order n found others)) (sym is)
    ∙ one_more orders o n others

-- the next line is of no form
pub line_fails : (all : Result (List Order) ℕ) (orders : List Order) (text line rest : List ℕ) (n : ℕ)
    → all ≡ before orders (orders_from n (pieces text)) → pieces text ≡ line ∷ pieces rest → None ≡ order_of line
    → all ≡ Err n
line_fails all orders text line rest n so_far e is =
    let others = orders_from (n + 1) (pieces rest) in
    so_far ∙ ap (before orders) (line_first text line rest n e)
    ∙ ap (λ (found : Option Order). before orders (with_order n found others)) (sym is)

pub text_begins : (text : List ℕ) → script_of text ≡ before [] (orders_from 1 (pieces text))
text_begins text = same (orders_from 1 (pieces text))
  where
    same : (r : Result (List Order) ℕ) → r ≡ before [] r
    same (Ok orders) = refl
    same (Err n) = refl
