-- A loop of the parser, as far as it has come.
use Rattle.std.proofs.Common.{◌≡◌, ℕ, zero, suc, ◌≤◌, ◌<◌, true, false, List, [], ◌∷◌, ◌++◌, length, map, Result, Ok}
use Rattle.std.proofs.Common.{Err, refl, sym, ap, subst, ◌∙◌, append_assoc, arith}
use Rattle.std.proofs.lemmas.List.{append-nil, length-append, map_push}
use Rattle.fcl_tokens.specs.declared.token.Token.{Token}
use Rattle.fcl_syntax.specs.declared.{fault.Fault.Fault, fault.ParseError.ParseError}
use Rattle.fcl_syntax.specs.declared.fault.ParseError.TheVariants as errors
use Rattle.fcl_syntax.specs.Annotations.{tokens_of}
use Rattle.fcl_syntax.specs.Readers.{TakesSome, ◌>>=◌, starts, with_front, loop, FailsAs}
use Rattle.fcl_syntax.proofs.{Parser.Starts, Parser.Parser}

abbrev pub prefixed : {A : Type 0} → List A → Result (List A × List Token) Fault → Result (List A × List Token) Fault
prefixed front r = r >>= λ x. Ok (front ++ x.0, x.1)

pub record Going {A : Type 0} (first : List ℕ) (read : List Token → Result (A × List Token) Fault) (front : List A)
    (rest : List Token)
    (total : Result (List A × List Token) Fault) : Type 0 where
  pub fuel : ℕ
  pub enough : length rest ≤ fuel
  pub so_far : prefixed front (loop first read fuel rest) ≡ total

pub shrinks : {A : Type 0} (p : Parser A) (ts : List Token) (a : A) (rest : List Token) → p.read ts ≡ Ok (a, rest)
    → length rest < length ts
shrinks p ts a rest h =
    let s = p.stands ts a rest h in
    let b = p.begins a [] in
    go (tokens_of (p.text a)) s.parts (subst (Starts p.first) (append-nil (tokens_of (p.text a))) b)
  where
    go : (l : List Token) → ts ≡ l ++ rest → Starts p.first l → length rest < length ts
    go [] e s = absurd s
    go (x ∷ l) e s = omega (arith, ap length e, length-append l rest)

regroup : {A : Type 0} (front : List A) (a : A) (r : Result (List A × List Token) Fault)
    → prefixed front (with_front a r) ≡ prefixed (front ++ a ∷ []) r
regroup front a (Ok x) = ap (λ (items : _). Ok (items, x.1)) (sym (append_assoc front (a ∷ []) x.0))
regroup front a (Err f) = refl

pub goes_on : {A : Type 0} (first : List ℕ) (read : List Token → Result (A × List Token) Fault) (front : List A)
    (ts : List Token) (a : A) (after : List Token)
    (total : Result (List A × List Token) Fault)
    → starts first ts ≡ true → read ts ≡ Ok (a, after) → length after < length ts → Going first read front ts total
    → Going first read (front ++ a ∷ []) after total
goes_on first read front ts a after total begins h shorter g = go g.fuel g.enough g.so_far
  where
    go : (n : ℕ) → length ts ≤ n → prefixed front (loop first read n ts) ≡ total
        → Going first read (front ++ a ∷ []) after total
    go zero enough so_far = absurd (omega arith)
    go (suc n) enough so_far =
        let one : prefixed front (loop first read (suc n) ts) ≡ prefixed (front ++ a ∷ []) (loop first read n after) =
        rw (begins, h) (regroup front a (loop first read n after)) in
        record { fuel = n; enough = omega arith; so_far = sym one ∙ so_far }

pub fails_in : {A : Type 0} (first : List ℕ) (read : List Token → Result (A × List Token) Fault) (front : List A)
    (ts : List Token) (e : ParseError)
    (total : Result (List A × List Token) Fault)
    → starts first ts ≡ true → FailsAs e (read ts) → Going first read front ts total → FailsAs e total
fails_in first read front ts errors.Memory total begins h g = tt
fails_in first read front ts (errors.Fault f) total begins h g = go g.fuel g.enough g.so_far
  where
    shorter : (ts : List Token) → length ts ≤ 0 → starts first ts ≡ true → ⊥
    shorter [] len b = cc
    shorter (x ∷ xs) len b = omega arith

    go : (n : ℕ) → length ts ≤ n → prefixed front (loop first read n ts) ≡ total → total ≡ Err f
    go zero enough so_far = absurd (shorter ts enough begins)
    go (suc n) enough so_far =
        let one : prefixed front (loop first read (suc n) ts) ≡ Err f = rw (begins, h) refl in
        sym so_far ∙ one

pub is_done : {A : Type 0} (first : List ℕ) (read : List Token → Result (A × List Token) Fault) (front : List A)
    (ts : List Token)
    (total : Result (List A × List Token) Fault)
    → starts first ts ≡ false → Going first read front ts total → total ≡ Ok (front, ts)
is_done first read front ts total ends g = go g.fuel g.so_far
  where
    done : prefixed front (Ok ([], ts)) ≡ Ok (front, ts)
    done = ap (λ (items : _). Ok (items, ts)) (append-nil front)

    go : (n : ℕ) → prefixed front (loop first read n ts) ≡ total → total ≡ Ok (front, ts)
    go zero so_far = sym so_far ∙ done
    go (suc n) so_far =
        let one : prefixed front (loop first read (suc n) ts) ≡ Ok (front, ts) = rw ends done in
        sym so_far ∙ one

-- one more item, which is pushed
pub pushed : {X A : Type 0} (view : X → A) (first : List ℕ) (read : List Token → Result (A × List Token) Fault)
    (items more : List X) (x : X)
    (ts after : List Token) (total : Result (List A × List Token) Fault)
    → more ≡ items ++ x ∷ [] → starts first ts ≡ true → read ts ≡ Ok (view x, after) → length after < length ts
    → Going first read (map view items) ts total
    → Going first read (map view more) after total
pushed view first read items more x ts after total is begins h shorter g =
    let e : map view more ≡ map view items ++ view x ∷ [] = rw is (map_push view items x) in
    rw e (goes_on first read (map view items) ts (view x) after total begins h shorter g)

-- what reads as a parser takes a token at least
pub parser_takes : {A : Type 0} (p : Parser A) → TakesSome p.read
parser_takes p = record { shrinks = shrinks p }
