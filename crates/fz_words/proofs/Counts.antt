-- How many words clap takes for a command, for every count at once.
use Rattle.std.proofs.Common.{◌≡◌, ◌==◌, ℕ, zero, suc, Bool, true, false, cond, nat_lt, List, [], ◌∷◌, ◌++◌, length}
use Rattle.std.proofs.Common.{refl, sym, ◌∙◌, ap, append_assoc, append-nil, arith}
use Rattle.std.specs.Prelude.{Some, codes}
use Rattle.std.proofs.Math.Bool.{and-false}
use Rattle.std.proofs.lemmas.Bool.{and_right, eq-eqb, lt-ltb, ne_eqb}
use Rattle.clap.specs.Walk.{Text, Held, Rule, idle, positional, is_empty, is_multiple, nothing_held, takes_several}
use Rattle.clap.specs.Walk.{walk_from}
use Rattle.clap.specs.Simple.{Shape, built_leaf, filled, inherited, is_ready_leaf, marked_built, with_index}
use Rattle.clap.specs.Simple.{with_leaf_noted}
use Rattle.clap.specs.Kinds.{Kinds, or_else, range_kinds, values_kinds}
use Rattle.clap.specs.declared.error.kind.ErrorKind.TheVariants as kind
use Rattle.clap.specs.declared.builder.value_parser.ValueParser.TheVariants as vp
use Rattle.clap.proofs.OnLiterals.{clap_on_literals}
use Rattle.fz_words.specs.{Table.has_hyphen, App.leaf_app, App.open_top, App.words_rule}
use Rattle.fz_words.proofs.Plain.{ArePlain, at, level_from, takes_one, refuses_one}

-- a subcommand with so many words as clap builds it
abbrev pub leaf_of : Text → ℕ → Shape
leaf_of w n = built_leaf (inherited (with_leaf_noted (marked_built open_top)) (leaf_app w n).top)

-- its argument
abbrev built_rule : ℕ → Rule
built_rule n = with_index 1 (filled (words_rule n))

abbrev pub leaf_fault : Text → ℕ → List Text → Kinds
leaf_fault w n ws = level_from (leaf_of w n) (walk_from nothing_held) ws

-- these words are the argument's so far
abbrev given : List Text → Held
given vs = record nothing_held { pending = Some (codes "words", vs) }

texts_taken : (vs : List Text) → values_kinds false vp.String vs ≡ []
texts_taken [] = refl
texts_taken (v ∷ vs) = texts_taken vs

by_count : (b : Bool) → is_empty (or_else (or_else (cond b [] (kind.WrongNumberOfValues ∷ [])) []) []) ≡ b
by_count true = refl
by_count false = refl

range_count : (n k : ℕ) → is_empty (or_else (or_else (range_kinds (suc n) (suc n) (suc k)) []) []) ≡ (suc n == suc k)
range_count n k =
    rw (and_right (nat_lt 0 (suc n)) (suc k == 0) (ne_eqb (suc k) 0 (λ e. omega arith)), eq-eqb (suc n) (suc n) refl)
    (by_count (suc n == suc k))

-- two words or more
module _ (w : Text) (m : ℕ) where
  abbrev count : ℕ
  count = suc (suc m)

  abbrev leaf : Shape
  leaf = leaf_of w count

  abbrev level : List Text → List Text → Kinds
  level vs ws = level_from leaf (at positional (given vs) 1) ws

  several : takes_several (built_rule count) ≡ true
  several = rw (eq-eqb count count refl) (lt-ltb 1 count (omega arith))

  ended : (v : Text) (vs : List Text) → is_empty (level (v ∷ vs) []) ≡ (count == length (v ∷ vs))
  unfolding clap_on_literals
  ended v vs = rw (texts_taken vs) (range_count (suc m) (length vs))

  more : (v u : Text) (vs ws : List Text) → has_hyphen u ≡ false
      → level (v ∷ vs) (u ∷ ws) ≡ level (v ∷ vs ++ u ∷ []) ws
  more v u vs ws plain =
      takes_one leaf positional (given (v ∷ vs)) 1 u ws plain refl refl
      (at positional (given (v ∷ vs ++ u ∷ [])) 1) (rw several refl) (rw several refl)

  all_given : (v : Text) (vs ws : List Text) → ArePlain ws
      → is_empty (level (v ∷ vs) ws) ≡ (count == length (v ∷ vs ++ ws))
  all_given v vs [] plain = ended v vs ∙ ap (λ (l : List Text). count == suc (length l)) (sym (append-nil vs))
  all_given v vs (u ∷ ws) plain = ap is_empty (more v u vs ws plain.0) ∙ all_given v (vs ++ u ∷ []) ws plain.1
      ∙ ap (λ (l : List Text). count == suc (length l)) (append_assoc vs (u ∷ []) ws)

  first : (v : Text) (ws : List Text) → has_hyphen v ≡ false → leaf_fault w count (v ∷ ws) ≡ level (v ∷ []) ws
  first v ws plain =
      takes_one leaf idle nothing_held 1 v ws plain refl refl (at positional (given (v ∷ [])) 1) refl (rw several refl)

-- clap takes as many words as the command has, and no other number
pub count_taken : (w : Text) (n : ℕ) (ws : List Text) → ArePlain ws → is_empty (leaf_fault w n ws) ≡ (n == length ws)
unfolding clap_on_literals
count_taken w zero [] plain = refl
count_taken w zero (v ∷ ws) plain =
    ap is_empty (refuses_one (leaf_of w 0) idle nothing_held 1 v ws plain.0 refl refl kind.UnknownArgument [] refl)
    ∙ sym (ne_eqb 0 (suc (length ws)) (λ e. omega arith))
count_taken w (suc zero) [] plain = refl
count_taken w (suc zero) (v ∷ []) plain =
    ap is_empty (takes_one (leaf_of w 1) idle nothing_held 1 v [] plain.0 refl refl (at idle (given (v ∷ [])) 2) refl refl)
count_taken w (suc zero) (v ∷ u ∷ ws) plain =
    ap is_empty (takes_one (leaf_of w 1) idle nothing_held 1 v (u ∷ ws) plain.0 refl refl
    (at idle (given (v ∷ [])) 2) refl refl
    ∙ refuses_one (leaf_of w 1) idle (given (v ∷ [])) 2 u ws plain.1.0 refl refl kind.UnknownArgument [] refl)
    ∙ sym (ne_eqb 1 (suc (suc (length ws))) (λ e. omega arith))
count_taken w (suc (suc m)) [] plain = sym (ne_eqb (suc (suc m)) 0 (λ e. omega arith))
count_taken w (suc (suc m)) (v ∷ ws) plain = ap is_empty (first w m v ws plain.0) ∙ all_given w m v [] ws plain.1

pub ready : (w : Text) (n : ℕ) → is_ready_leaf (leaf_of w n) ≡ true
ready w zero = refl
ready w (suc n) = rw (and-false (is_multiple (built_rule (suc n)))) refl
