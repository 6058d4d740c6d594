-- A sum keeps its value where more names have values.
use Rattle.std.proofs.Common.{◌≡◌, ℕ, ◌+◌, ◌-◌, Bool, true, false, cond, List, [], ◌∷◌, Option, Some, None, Result, Ok}
use Rattle.std.proofs.Common.{Err, refl, sym, ap, ◌∙◌, inl, inr}
use Rattle.std.specs.Prelude.{◌⊎◌, ◌==◌, fold}
use Rattle.std.proofs.lemmas.Bool.{cases_Bool}
use Rattle.std.specs.Char.{is_ascii_digit}
use Rattle.cpu12_asm.specs.declared.{expressions.Term.Term, expressions.Sum.Sum, faults.LineFault.LineFault}
use Rattle.cpu12_asm.specs.declared.expressions.Term.TheVariants.{Value, Large, Unknown, Bad}
use Rattle.cpu12_asm.specs.declared.faults.LineFault.TheVariants.{UnknownName, Range}
use Rattle.cpu12_asm.specs.{Lines.pieces, Values.fits, Values.within}
use Rattle.cpu12_asm.specs.Expressions.{decimal_value, hexadecimal_value, is_hex_digit, is_name, is_number}
use Rattle.cpu12_asm.specs.Expressions.{name_value, nothing, number, plain_term, sum_of, term_of, with_group}
use Rattle.cpu12_asm.specs.Expressions.{with_term}

-- what has a value keeps it
abbrev pub AreKept : (List ℕ → Option ℕ) → (List ℕ → Option ℕ) → Type 0
AreKept f g = (name : List ℕ) (x : ℕ) → f name ≡ Some x → g name ≡ Some x

-- a term is not known, or it is the other
abbrev IsKept : Term → Term → Type 0
IsKept t u = (t ≡ Unknown) ⊎ (t ≡ u)

kept_in : (b : Bool) (t u v : Term) → IsKept t u → IsKept (cond b v t) (cond b v u)
kept_in true t u v kept = inr refl
kept_in false t u v kept = kept

kept_if : (b : Bool) (t u v : Term) → IsKept t u → IsKept (cond b t v) (cond b u v)
kept_if true t u v kept = kept
kept_if false t u v kept = inr refl

unknown_in : (b : Bool) (s t : Sum) → s.unknown ≡ true → t.unknown ≡ true → (cond b s t).unknown ≡ true
unknown_in true s t one other = one
unknown_in false s t one other = other

unknown_stays : (s : Sum) (t : Term) → s.unknown ≡ true → (with_term s t).unknown ≡ true
unknown_stays s (Value v) unknown =
    unknown_in s.negative (record s { taken = s.taken + v }) (record s { added = s.added + v; negative = true })
    unknown unknown
unknown_stays s Large unknown = unknown
unknown_stays s Unknown unknown = refl
unknown_stays s Bad unknown = unknown

abbrev with_word : (List ℕ → Option ℕ) → Sum → List ℕ → Sum
with_word value s word = with_term s (term_of value word)

words_stay : (value : List ℕ → Option ℕ) (s : Sum) (words : List (List ℕ)) → s.unknown ≡ true
    → (fold (with_word value) s words).unknown ≡ true
words_stay value s [] unknown = unknown
words_stay value s (w ∷ words) unknown =
    words_stay value (with_word value s w) words (unknown_stays s (term_of value w) unknown)

groups_stay : (value : List ℕ → Option ℕ) (s : Sum) (groups : List (List ℕ)) → s.unknown ≡ true
    → (fold (with_group value) s groups).unknown ≡ true
groups_stay value s [] unknown = unknown
groups_stay value s (w ∷ groups) unknown = groups_stay value (with_group value s w) groups
    (words_stay value (record s { negative = false }) (pieces 0x2D w) unknown)

known_within : (b : Bool) (r : Result ℕ LineFault) (x : ℕ) → cond b (Err UnknownName) r ≡ Ok x → b ≡ false
known_within true r x is = absurd (cc)
known_within false r x is = refl

module _ (f g : List ℕ → Option ℕ) (kept : AreKept f g) where
  name_kept : (word : List ℕ) (o : Option ℕ) → f word ≡ o → IsKept (name_value o) (name_value (g word))
  name_kept word None is = inl refl
  name_kept word (Some x) is = inr (ap name_value (sym (kept word x is)))

  plain_kept : (word : List ℕ) → IsKept (plain_term f word) (plain_term g word)
  plain_kept word =
      kept_in (is_number is_ascii_digit word) (cond (is_name word) (name_value (f word)) Bad)
      (cond (is_name word) (name_value (g word)) Bad)
      (number (decimal_value word))
      (kept_if (is_name word) (name_value (f word)) (name_value (g word)) Bad (name_kept word (f word) refl))

  term_kept : (word : List ℕ) → IsKept (term_of f word) (term_of g word)
  term_kept [] = inr refl
  term_kept (b ∷ bs) = kept_in (b == 0x24) (plain_term f (b ∷ bs)) (plain_term g (b ∷ bs))
      (cond (is_number is_hex_digit bs) (number (hexadecimal_value bs)) Bad) (plain_kept (b ∷ bs))

  words_kept : (s : Sum) (words : List (List ℕ)) → (fold (with_word f) s words).unknown ≡ false
      → fold (with_word f) s words ≡ fold (with_word g) s words
  words_kept s [] known = refl
  words_kept s (w ∷ words) known = elim (term_kept w) [
    | inl none ↦ (let unknown =
        words_stay f (with_word f s w) words (ap (λ (t : Term). (with_term s t).unknown) none) in absurd (cc))
    | inr same ↦ words_kept (with_word f s w) words known
        ∙ ap (λ (t : Term). fold (with_word g) (with_term s t) words) same
  ]

  groups_kept : (s : Sum) (groups : List (List ℕ)) → (fold (with_group f) s groups).unknown ≡ false
      → fold (with_group f) s groups ≡ fold (with_group g) s groups
  groups_kept s [] known = refl
  groups_kept s (w ∷ groups) known = elim (cases_Bool (with_group f s w).unknown) [
    | inl none ↦ (let unknown = groups_stay f (with_group f s w) groups none in absurd (cc))
    | inr here ↦ groups_kept (with_group f s w) groups known
        ∙ ap (λ (t : Sum). fold (with_group g) t groups)
        (words_kept (record s { negative = false }) (pieces 0x2D w) here)
  ]

  pub within_kept : (limit : ℕ) (text : List ℕ) (x : ℕ) → within limit (sum_of f text) ≡ Ok x
      → within limit (sum_of g text) ≡ Ok x
  within_kept limit text x is =
      let s = sum_of f text in
      let known = known_within s.unknown (cond (fits limit s) (Ok (s.added - s.taken)) (Err Range)) x is in
      ap (within limit) (sym (groups_kept nothing (pieces 0x2B text) known)) ∙ is
