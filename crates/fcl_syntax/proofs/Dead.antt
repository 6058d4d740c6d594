-- Annotated choices, and a parser seen as another type.
use Rattle.std.proofs.Common.{◌≡◌, ℕ, ◌+◌, Bool, true, false, List, [], ◌∷◌, ◌++◌, length, Result, Ok, Err, refl, sym}
use Rattle.std.proofs.Common.{ap, subst, ◌∙◌, arith, inl, inr, ◌⊎◌}
use Rattle.std.proofs.lemmas.Bool.{cases_Bool}
use Rattle.std.proofs.lemmas.List.{length-append}
use Rattle.fcl_tokens.specs.declared.token.Token.{Token}
use Rattle.fcl_syntax.specs.declared.{fault.Fault.Fault, fault.Kind.Kind}
use Rattle.fcl_syntax.specs.declared.fault.Kind.TheVariants.{Expected, Deep, Unsupported}
use Rattle.fcl_syntax.specs.TokenClasses.{class_of, mem}
use Rattle.fcl_syntax.specs.Annotations.{either_text, Sym, tokens_of, IsClean, annotated}
use Rattle.fcl_syntax.specs.First.{looks_on, SameNext, SameHead, Shown}
use Rattle.fcl_syntax.specs.Readers.{cond_read, fault_at, starts}
use Rattle.fcl_syntax.proofs.Parser.{disjoint, Stops, Starts, first_annotation, answer, Stands, Shows, Fails, Parser}
use Rattle.fcl_syntax.proofs.AnnotatedTexts.{length-tokens}
use Rattle.fcl_syntax.proofs.Small.{seen_as, widen, answer-seen, seen_err, seen_stands, seen_fails, to_right}
use Rattle.fcl_syntax.proofs.Small.{starts-not, starts-same}

-- ---- a parser seen as another type

module _ {A B : Type 0} (p : Parser A) (to : A → B) (from : B → A) (text : B → List Sym)
    (round : (b : B) → to (from b) ≡ b)
    (same_text : (a : A) → text (to a) ≡ p.text a) where
  abbrev pub via_read : List Token → Result (B × List Token) Fault
  via_read ts = seen_as to (p.read ts)

  pub from_text : (b : B) → p.text (from b) ≡ text b
  from_text b = sym (same_text (from b)) ∙ ap text (round b)

  pub via_begins : (b : B) (rest : List Token) → Starts p.first (tokens_of (text b) ++ rest)
  via_begins b rest = subst (λ (l : List Sym). Starts p.first (tokens_of l ++ rest)) (from_text b)
      (p.begins (from b) rest)

  pub via_again : (b : B) (rest : List Token) → Stops p.goes rest → via_read (tokens_of (text b) ++ rest) ≡ answer
      (first_annotation (text b) (length rest)) b rest
  via_again b rest stops =
      subst (λ (l : List Sym). via_read (tokens_of l ++ rest) ≡ answer (first_annotation l (length rest)) b rest)
      (from_text b)
      (ap (seen_as to) (p.again (from b) rest stops)
      ∙ answer-seen to (first_annotation (p.text (from b)) (length rest)) (from b) rest
      ∙ ap (λ (y : B). answer (first_annotation (p.text (from b)) (length rest)) y rest) (round b))

  pub via_fails : (ts : List Token) (e : Fault) → via_read ts ≡ Err e → Fails text via_read ts e
  via_fails ts e h = seen_fails p to text same_text via_read ts e (p.fails ts e (seen_err to (p.read ts) e h))
      (λ b same. refl)

  abbrev pub via : Parser B
  via = record {
    text = text;
    read = via_read;
    first = p.first;
    goes = p.goes;
    some = to p.some;
    some_clean = subst IsClean (sym (same_text p.some)) p.some_clean;
    begins = via_begins;
    stands = seen_stands p to text same_text;
    again = via_again;
    fails = via_fails;
  }

-- ---- a parser, or what is refused at its first token

pub record Dead (X : Type 0) : Type 0 where
  pub text : X → List Sym
  pub kind : Kind
  pub among : List ℕ
  pub head : X → Token
  pub tail : X → List Sym
  pub is : (x : X) → text x ≡ annotated kind (head x) ∷ tail x
  pub classes : (x : X) → mem (class_of (head x)) among ≡ true
  pub cover : (y : Token) → mem (class_of y) among ≡ true → (x : X) × (head x ≡ y)
  pub here : looks_on kind ≡ false

abbrev pub unless : {A : Type 0} → Bool → Fault → Result A Fault → Result A Fault
unless b e r = cond_read b (Err e) r

pub unless_ok : {A : Type 0} (b : Bool) (e : Fault) (r : Result A Fault) (y : A) → unless b e r ≡ Ok y
    → (b ≡ false) × (r ≡ Ok y)
unless_ok true e r y h = absurd cc
unless_ok false e r y h = (refl, h)

pub to_shows : {T : Type 0} (text : T → List Sym) (k : Kind) (front bad : List Token) → Shown text k front bad
    → Shows text k front bad
to_shows text Expected front bad s = tt
to_shows text Deep front bad s = s
to_shows text (Unsupported n) front bad s = s

next-same : (l : Bool) (a b : List Token) → l ≡ false → SameNext l a b
next-same false a b e = tt
next-same true a b e = absurd cc

module _ {X A : Type 0} (d : Dead X) (p : Parser A) where
  abbrev pub dead_text : X ⊎ A → List Sym
  dead_text = either_text d.text p.text

  abbrev pub dead_read : List Token → Result ((X ⊎ A) × List Token) Fault
  dead_read ts = unless (starts d.among ts) (fault_at d.kind (length ts)) (to_right (p.read ts))

module _ {X A : Type 0} (d : Dead X) (p : Parser A) (apart : disjoint d.among p.first ≡ true) (first : List ℕ)
    (first_dead : (x : Token) → mem (class_of x) d.among ≡ true → mem (class_of x) first ≡ true)
    (first_right : (x : Token) → mem (class_of x) p.first ≡ true → mem (class_of x) first ≡ true) where
  pub dead_begins : (t : X ⊎ A) (rest : List Token) → Starts first (tokens_of (dead_text d p t) ++ rest)
  dead_begins (inl x) rest =
      subst (λ (l : List Sym). Starts first (tokens_of l ++ rest)) (sym (d.is x)) (first_dead (d.head x) (d.classes x))
  dead_begins (inr a) rest = widen first p.first (tokens_of (p.text a) ++ rest) first_right (p.begins a rest)

  pub dead_stands : (ts : List Token) (t : X ⊎ A) (rest : List Token) → dead_read d p ts ≡ Ok (t, rest)
      → Stands (dead_text d p) p.goes ts t rest
  dead_stands ts t rest e =
      seen_stands p (λ a. inr a) (dead_text d p) (λ a. refl) ts t rest
      (unless_ok (starts d.among ts) (fault_at d.kind (length ts)) (to_right (p.read ts)) (t, rest) e).1

  pub dead_again : (t : X ⊎ A) (rest : List Token) → Stops p.goes rest
      → dead_read d p (tokens_of (dead_text d p t) ++ rest) ≡ answer
      (first_annotation (dead_text d p t) (length rest)) t rest
  dead_again (inl x) rest stops =
      subst (λ (l : List Sym). dead_read d p (tokens_of l ++ rest) ≡ answer (first_annotation l (length rest))
      (inl x) rest) (sym (d.is x))
      (let len : length (tokens_of (d.tail x) ++ rest) ≡ length (d.tail x) + length rest = omega
      (arith, length-append (tokens_of (d.tail x)) rest, length-tokens (d.tail x)) in
      rw (d.classes x, len) refl)
  dead_again (inr a) rest stops =
      let ts : List Token = tokens_of (p.text a) ++ rest in
      ap (λ (b : Bool). unless b (fault_at d.kind (length ts)) (to_right {A = X} (p.read ts)))
      (starts-not d.among p.first ts apart (p.begins a rest))
      ∙ ap (λ (r : Result (A × List Token) Fault). to_right {A = X} r) (p.again a rest stops)
      ∙ answer-seen {B = X ⊎ A} (λ (x : A). inr x) (first_annotation (p.text a) (length rest)) a rest

  dead_here : (ts : List Token) → starts d.among ts ≡ true
      → Fails (dead_text d p) (dead_read d p) ts (fault_at d.kind (length ts))
  dead_here [] h = absurd cc
  dead_here (y ∷ ts) h =
      let c = d.cover y h in
      record {
        front = [];
        bad = y ∷ ts;
        parts = refl;
        left = refl;
        viable = record { tree = inr p.some; more = tokens_of (p.text p.some); clean = p.some_clean; parts = refl };
        shows = to_shows (dead_text d p) d.kind [] (y ∷ ts) (record {
          tree = inl c.0;
          before = [];
          token = d.head c.0;
          after = d.tail c.0;
          split = d.is c.0;
          fronts = refl;
          same = (c.1, next-same (looks_on d.kind) (tokens_of (d.tail c.0)) ts d.here);
        });
        local = at;
      }
    where
      at : (b : List Token) → SameHead d.kind (y ∷ ts) b → dead_read d p b ≡ Err (fault_at d.kind (length b))
      at [] s = absurd s
      at (z ∷ b) s = rw (subst (λ (w : Token). mem (class_of w) d.among ≡ true) s.0 h) refl

  right_fails : (ts : List Token) (e : Fault) → starts d.among ts ≡ false → Fails p.text p.read ts e
      → Fails (dead_text d p) (dead_read d p) ts e
  right_fails ts e not_so f = seen_fails p (λ a. inr a) (dead_text d p) (λ a. refl) (dead_read d p) ts e f (λ b same.
      ap (λ (c : Bool). unless c (fault_at d.kind (length (f.front ++ b))) (to_right {A = X} (p.read (f.front ++ b))))
      (starts-same d.among e.kind f.front f.bad b same ∙ ap (starts d.among) (sym f.parts) ∙ not_so))

  same_err : (c e : Fault) → unless true c (to_right {A = X} (p.read [])) ≡ Err e → c ≡ e
  same_err c e h = cc

  pub dead_fails : (ts : List Token) (e : Fault) → dead_read d p ts ≡ Err e → Fails (dead_text d p) (dead_read d p) ts e
  dead_fails ts e h =
      elim (cases_Bool (starts d.among ts)) [
        | inl is_so ↦ subst (Fails (dead_text d p) (dead_read d p) ts) (same_err (fault_at d.kind (length ts)) e
            (subst (λ (b : Bool). unless b (fault_at d.kind (length ts)) (to_right {A = X} (p.read ts)) ≡ Err e) is_so
            h)) (dead_here ts is_so)
        | inr not_so ↦ right_fails ts e not_so
            (p.fails ts e (seen_err {B = X ⊎ A} (λ (x : A). inr x) (p.read ts) e (subst
            (λ (b : Bool). unless b (fault_at d.kind (length ts)) (to_right {A = X} (p.read ts)) ≡ Err e) not_so h)))
      ]

  abbrev pub dead_or : Parser (X ⊎ A)
  dead_or = record {
    text = dead_text d p;
    read = dead_read d p;
    first = first;
    goes = p.goes;
    some = inr p.some;
    some_clean = p.some_clean;
    begins = dead_begins;
    stands = dead_stands;
    again = dead_again;
    fails = dead_fails;
  }
