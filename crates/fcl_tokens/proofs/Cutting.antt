-- The lexer's loop.
use Rattle.std.proofs.Common.{◌≡◌, ℕ, zero, suc, ◌+◌, ◌<◌, ◌≤◌, Bool, true, false, eqb, List, [], ◌∷◌, ◌++◌, length}
use Rattle.std.proofs.Common.{drop, Ok, Err, refl, sym, ap, ◌∙◌, append_assoc, arith}
use Rattle.std.specs.{List.prefix_len, Prelude.◌||◌}
use Rattle.std.proofs.lemmas.List.Folds.{length-prefix_len}
use Rattle.std.proofs.lemmas.Bool.{eqb-true}
use Rattle.std.proofs.lemmas.List.{append-nil, length-drop}
use Rattle.fcl_tokens.specs.declared.{lexer.LexKind.LexKind, lexer.Piece.Piece}
use Rattle.fcl_tokens.specs.declared.lexer.Piece.TheVariants as piece
use Rattle.fcl_tokens.specs.declared.token.Token.{Token}
use Rattle.fcl_tokens.specs.Lexing.{piece_of, run, lexed, Lexed, in_front, next_piece}

abbrev pub fronted : List Token → List ℕ → Lexed → Lexed
fronted ts ats (Ok l) = Ok (ts ++ l.0, ats ++ l.1)
fronted ts ats (Err e) = Err e

pub record Cutting (ts : List Token) (ats : List ℕ) (at : ℕ) (rest : List ℕ) (total : Lexed) : Type 0 where
  pub fuel : ℕ
  pub enough : length rest ≤ fuel
  pub so_far : fronted ts ats (lexed fuel at rest) ≡ total

pub cut_skips : (ts : List Token) (ats : List ℕ) (at n : ℕ) (bytes : List ℕ) (total : Lexed) → 0 < length bytes
    → piece.Skip n ≡ piece_of at bytes → 0 < n
    → Cutting ts ats at bytes total → Cutting ts ats (at + n) (drop n bytes) total
unfolding lexed
cut_skips ts ats at n [] total long h pos c = absurd (omega arith)
cut_skips ts ats at n (b ∷ bytes) total long h pos c = go c.fuel c.enough c.so_far
  where
    go : (fuel : ℕ) → length (b ∷ bytes) ≤ fuel → fronted ts ats (lexed fuel at (b ∷ bytes)) ≡ total
        → Cutting ts ats (at + n) (drop n (b ∷ bytes)) total
    go zero enough e = absurd (omega arith)
    go (suc fuel) enough e = record {
      fuel = fuel;
      enough = omega (arith, length-drop n (b ∷ bytes));
      so_far = ap (λ (p : Piece). fronted ts ats (next_piece at p (λ n. lexed fuel (at + n) (drop n (b ∷ bytes))))) h
          ∙ e;
    }

pub cut_takes : (ts : List Token) (ats : List ℕ) (at n : ℕ) (t : Token) (bytes : List ℕ) (total : Lexed)
    → 0 < length bytes
    → piece.Token t n ≡ piece_of at bytes → 0 < n → Cutting ts ats at bytes total
    → Cutting (ts ++ t ∷ []) (ats ++ at ∷ []) (at + n) (drop n bytes) total
unfolding lexed
cut_takes ts ats at n t [] total long h pos c = absurd (omega arith)
cut_takes ts ats at n t (b ∷ bytes) total long h pos c = go c.fuel c.enough c.so_far
  where
    regroup : (l : Lexed) → fronted (ts ++ t ∷ []) (ats ++ at ∷ []) l ≡ fronted ts ats (in_front t at l)
    regroup (Ok l) = ap (λ (s : List Token). Ok (s, (ats ++ at ∷ []) ++ l.1)) (append_assoc ts (t ∷ []) l.0)
        ∙ ap (λ (s : List ℕ). Ok (ts ++ t ∷ l.0, s)) (append_assoc ats (at ∷ []) l.1)
    regroup (Err e) = refl

    go : (fuel : ℕ) → length (b ∷ bytes) ≤ fuel → fronted ts ats (lexed fuel at (b ∷ bytes)) ≡ total
        → Cutting (ts ++ t ∷ []) (ats ++ at ∷ []) (at + n) (drop n (b ∷ bytes)) total
    go zero enough e = absurd (omega arith)
    go (suc fuel) enough e = record {
      fuel = fuel;
      enough = omega (arith, length-drop n (b ∷ bytes));
      so_far = regroup (lexed fuel (at + n) (drop n (b ∷ bytes))) ∙ ap (λ (p : Piece). fronted ts ats
          (next_piece at p (λ n. lexed fuel (at + n) (drop n (b ∷ bytes))))) h ∙ e;
    }

pub cut_fails : (ts : List Token) (ats : List ℕ) (at : ℕ) (k : LexKind) (bytes : List ℕ) (total : Lexed)
    → 0 < length bytes → piece.Fault k ≡ piece_of at bytes
    → Cutting ts ats at bytes total → total ≡ Err (record { kind = k; at = at })
unfolding lexed
cut_fails ts ats at k [] total long h c = absurd (omega arith)
cut_fails ts ats at k (b ∷ bytes) total long h c = go c.fuel c.enough c.so_far
  where
    go : (fuel : ℕ) → length (b ∷ bytes) ≤ fuel → fronted ts ats (lexed fuel at (b ∷ bytes)) ≡ total
        → total ≡ Err (record { kind = k; at = at })
    go zero enough e = absurd (omega arith)
    go (suc fuel) enough e =
        sym e ∙ ap (λ (p : Piece). fronted ts ats (next_piece at p (λ n. lexed fuel (at + n) (drop n (b ∷ bytes)))))
        (sym h)

pub cut_done : (ts : List Token) (ats : List ℕ) (at : ℕ) (bytes : List ℕ) (total : Lexed) → length bytes ≡ 0
    → Cutting ts ats at bytes total
    → total ≡ Ok (ts, ats)
unfolding lexed
cut_done ts ats at (b ∷ bytes) total nothing c = absurd (omega arith)
cut_done ts ats at [] total nothing c = go c.fuel c.so_far
  where
    done : fronted ts ats (Ok ([], [])) ≡ Ok (ts, ats)
    done = ap (λ (s : List Token). Ok (s, ats ++ [])) (append-nil ts) ∙ ap (λ (s : List ℕ). Ok (ts, s)) (append-nil ats)

    go : (fuel : ℕ) → fronted ts ats (lexed fuel at []) ≡ total → total ≡ Ok (ts, ats)
    go zero e = sym e ∙ done
    go (suc fuel) e = sym e ∙ done

-- a run that begins is not empty
pub run_first : (p : ℕ → Bool) (b : ℕ) (bytes : List ℕ) → p b ≡ true → 0 < run p (b ∷ bytes)
run_first p b bytes h =
    let len : run p (b ∷ bytes) ≡ prefix_len p (b ∷ bytes) = length-prefix_len p (b ∷ bytes) in
    let more : prefix_len p (b ∷ bytes) ≡ 1 + prefix_len p bytes = rw h refl in
    omega (arith, len, more)

pub or_left : (x y : Bool) → x ≡ true → (x || y) ≡ true
or_left true y e = refl
or_left false y e = absurd cc

pub positive : (n : ℕ) (r : Bool) → r ≡ eqb n 0 → r ≡ false → 0 < n
positive zero r a b = absurd cc
positive (suc n) r a b = omega arith

pub nothing : (n : ℕ) (r : Bool) → r ≡ eqb n 0 → r ≡ true → n ≡ 0
nothing n r a b = eqb-true _ _ (sym a ∙ b)
