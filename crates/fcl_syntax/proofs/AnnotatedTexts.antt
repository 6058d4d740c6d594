-- Laws of texts with annotations, and of sequences.
use Rattle.std.proofs.Common.{◌≡◌, ℕ, suc, ◌+◌, Bool, true, false, cond, eqb, List, [], ◌∷◌, ◌++◌, length, Option, Some}
use Rattle.std.proofs.Common.{None, Result, Ok, Err, refl, sym, ap, subst, ◌∙◌, append_assoc, arith, inl, inr, ◌⊎◌}
use Rattle.std.proofs.lemmas.Bool.{eqb-true}
use Rattle.std.proofs.lemmas.List.{length-append}
use Rattle.fcl_tokens.specs.declared.token.Token.{Token}
use Rattle.fcl_syntax.specs.declared.{fault.Fault.Fault, fault.Kind.Kind}
use Rattle.fcl_syntax.specs.{TokenClasses.class_of, TokenClasses.mem, Readers.◌>>=◌}
use Rattle.fcl_syntax.specs.Annotations.{Sym, tokens_of, IsClean}
use Rattle.fcl_syntax.specs.First.{looks_on, SameNext, SameHead}
use Rattle.fcl_syntax.proofs.Parser.{disjoint, Stops, Starts, annotation_at, first_annotation, or_else, answer, Parser}

pub bind_ok : {A B : Type 0} (r : Result A Fault) (f : A → Result B Fault) (y : B) → (r >>= f) ≡ Ok y
    → (x : A) × (r ≡ Ok x) × (f x ≡ Ok y)
bind_ok (Ok x) f y e = (x, refl, e)
bind_ok (Err d) f y e = absurd cc

pub bind_err : {A B : Type 0} (r : Result A Fault) (f : A → Result B Fault) (d : Fault) → (r >>= f) ≡ Err d
    → (r ≡ Err d) ⊎
    ((x : A) × (r ≡ Ok x) × (f x ≡ Err d))
bind_err (Ok x) f d e = inr (x, refl, e)
bind_err (Err c) f d e = inl cc

abbrev done : {A : Type 0} → A → Result A Fault
done x = Ok x

pub ok_is : {A : Type 0} (x y : A) → done x ≡ done y → x ≡ y
ok_is x y e = cc

pub not_both : {A E : Type 0} (r : Result A E) (a : A) (e : E) → r ≡ Ok a → r ≡ Err e → ⊥
not_both (Ok x) a e p q = cc
not_both (Err c) a e p q = cc

pub same_err : {A E : Type 0} (r : Result A E) (d e : E) → r ≡ Err d → r ≡ Err e → d ≡ e
same_err (Ok x) d e p q = absurd cc
same_err (Err c) d e p q = cc

pub tokens_of-append : (a b : List Sym) → tokens_of (a ++ b) ≡ tokens_of a ++ tokens_of b
tokens_of-append [] b = refl
tokens_of-append (s ∷ a) b = ap (λ (l : List Token). s.token ∷ l) (tokens_of-append a b)

-- two texts before a rest, as the first before the second and the rest
pub tokens_of-append-rest : (a b : List Sym) (rest : List Token)
    → tokens_of (a ++ b) ++ rest ≡ tokens_of a ++ (tokens_of b ++ rest)
tokens_of-append-rest a b rest =
    ap (λ (l : List Token). l ++ rest) (tokens_of-append a b) ∙ append_assoc (tokens_of a) (tokens_of b) rest

pub parts_joined : (a b : List Sym) (rest : List Token) {ts between : List Token} → ts ≡ tokens_of a ++ between
    → between ≡ tokens_of b ++ rest → ts ≡ tokens_of (a ++ b) ++ rest
parts_joined a b rest first second =
    first ∙ ap (λ (l : List Token). tokens_of a ++ l) second ∙ sym (tokens_of-append-rest a b rest)

pub length-tokens : (a : List Sym) → length (tokens_of a) ≡ length a
length-tokens [] = refl
length-tokens (s ∷ a) = ap suc (length-tokens a)

pub IsClean-append : (a b : List Sym) → IsClean a → IsClean b → IsClean (a ++ b)
IsClean-append [] b p q = q
IsClean-append (s ∷ a) b p q = (p.0, IsClean-append a b p.1 q)

pub clean_front : (a b : List Sym) → IsClean (a ++ b) → IsClean a
clean_front [] b h = tt
clean_front (s ∷ a) b h = (h.0, clean_front a b h.1)

pub clean_back : (a b : List Sym) → IsClean (a ++ b) → IsClean b
clean_back [] b h = h
clean_back (s ∷ a) b h = clean_back a b h.1

annotation_at-or_else : (m : Option Kind) (n : ℕ) (o q : Option Fault)
    → annotation_at m n (or_else o q) ≡ or_else (annotation_at m n o) q
annotation_at-or_else None n o q = refl
annotation_at-or_else (Some k) n o q = refl

pub first_annotation-append : (a b : List Sym) (n : ℕ)
    → first_annotation (a ++ b) n ≡ or_else (first_annotation a (length b + n)) (first_annotation b n)
first_annotation-append [] b n = refl
first_annotation-append (s ∷ a) b n =
    let e : length (a ++ b) + n ≡ length a + (length b + n) = omega (arith, length-append a b) in
    rw (e, first_annotation-append a b n)
    (annotation_at-or_else s.annotation (suc (length a + (length b + n))) (first_annotation a (length b + n))
    (first_annotation b n))

pub first_annotation-append-rest : (a b : List Sym) (rest : List Token)
    → first_annotation (a ++ b) (length rest)
    ≡ or_else (first_annotation a (length (tokens_of b ++ rest))) (first_annotation b (length rest))
first_annotation-append-rest a b rest =
    let len : length b + length rest ≡ length (tokens_of b ++ rest) =
    omega (arith, length-append (tokens_of b) rest, length-tokens b) in
    first_annotation-append a b (length rest)
    ∙ ap (λ (n : ℕ). or_else (first_annotation a n) (first_annotation b (length rest))) len

pub first_annotation-clean : (a : List Sym) (n : ℕ) → IsClean a → first_annotation a n ≡ None
first_annotation-clean [] n h = refl
first_annotation-clean (s ∷ a) n h = rw (h.0) (first_annotation-clean a n h.1)

-- what reads a text answers its tree, where nothing in it is refused
pub clean_read : {A : Type 0} (p : Parser A) (a : A) (rest : List Token) → IsClean (p.text a) → Stops p.goes rest
    → p.read (tokens_of (p.text a) ++ rest) ≡ Ok (a, rest)
clean_read p a rest clean stops = p.again a rest stops
    ∙ ap (λ (m : Option Fault). answer m a rest) (first_annotation-clean (p.text a) (length rest) clean)

-- one reader behind another, by what each answers
pub answer-bind : {A B T : Type 0} (read : List Token → Result (B × List Token) Fault) (make : A → B → T)
    (m n : Option Fault) (a : A) (b : B) (ts rest : List Token) → read ts ≡ answer n b rest
    → (answer m a ts >>= λ x. read x.1 >>= λ y. Ok (make x.0 y.0, y.1)) ≡ answer (or_else m n) (make a b) rest
answer-bind read make None None a b ts rest h = rw h refl
answer-bind read make None (Some e) a b ts rest h = rw h refl
answer-bind read make (Some e) n a b ts rest h = refl

-- ---- sets

cond_false : (b c : Bool) → cond b false c ≡ true → (b ≡ false) × (c ≡ true)
cond_false true c e = absurd cc
cond_false false c e = (refl, e)

pub disjoint-mem : (xs ys : List ℕ) (n : ℕ) → disjoint xs ys ≡ true → mem n ys ≡ true → mem n xs ≡ false
disjoint-mem [] ys n d h = refl
disjoint-mem (x ∷ xs) ys n d h =
    let g = cond_false (mem x ys) (disjoint xs ys) d in
    elim (eqb n x) as (λ b. eqb n x ≡ b → cond b true (mem n xs) ≡ false) [
      | true ↦ λ e. let same : n ≡ x = eqb-true _ _ e in
          absurd (let no : mem x ys ≡ true = subst (λ (k : ℕ). mem k ys ≡ true) same h in cc)
      | false ↦ λ e. disjoint-mem xs ys n g.1 h
    ] refl

pub starts-stops : (goes first : List ℕ) (ts : List Token) → disjoint goes first ≡ true → Starts first ts
    → Stops goes ts
starts-stops goes first [] d h = absurd h
starts-stops goes first (x ∷ xs) d h = disjoint-mem goes first (class_of x) d h

-- whether a rest stops a text does not depend on what its first token is followed by
pub Stops-same : (k : Kind) (goes : List ℕ) (front bad b : List Token) → SameHead k bad b → Stops goes (front ++ bad)
    → Stops goes (front ++ b)
Stops-same k goes [] [] [] s h = tt
Stops-same k goes [] [] (y ∷ b) s h = absurd s
Stops-same k goes [] (x ∷ a) [] s h = absurd s
Stops-same k goes [] (x ∷ a) (y ∷ b) s h = subst (λ (z : Token). mem (class_of z) goes ≡ false) s.0 h
Stops-same k goes (f ∷ front) bad b s h = h

SameNext-append : (l : Bool) (a c bad : List Token) → SameNext l a bad → SameNext l (a ++ c) bad
SameNext-append false a c bad s = tt
SameNext-append true [] c bad s = absurd s
SameNext-append true (x ∷ a) c [] s = absurd s
SameNext-append true (x ∷ a) c (y ∷ b) s = s

pub SameHead-append : (k : Kind) (x : Token) (a c bad : List Token) → SameHead k (x ∷ a) bad
    → SameHead k (x ∷ (a ++ c)) bad
SameHead-append k x a c [] s = absurd s
SameHead-append k x a c (y ∷ b) s = (s.0, SameNext-append (looks_on k) a c b s.1)
