-- One token, a choice, an annotated choice, and a parser seen as another type.
use Rattle.std.proofs.Common.{◌≡◌, ℕ, Bool, true, false, List, [], ◌∷◌, ◌++◌, length, Option, Some, None, Result, Ok}
use Rattle.std.proofs.Common.{Err, refl, sym, ap, subst, ◌∙◌, inl, inr, ◌⊎◌}
use Rattle.std.proofs.lemmas.Bool.{cases_Bool}
use Rattle.std.proofs.lemmas.List.{append-nil}
use Rattle.fcl_tokens.specs.declared.token.Token.{Token}
use Rattle.fcl_syntax.specs.declared.{fault.Fault.Fault, fault.Kind.Kind, fault.Kind.TheVariants.Expected}
use Rattle.fcl_syntax.specs.{TokenClasses.class_of, TokenClasses.mem, First.SameHead}
use Rattle.fcl_syntax.specs.Annotations.{either_text, IsClean, Sym, tokens_of, plain}
use Rattle.fcl_syntax.specs.Readers.{cond_read, ◌>>=◌, fault_at, starts, found, one_at}
use Rattle.fcl_syntax.proofs.Parser.{disjoint, Stops, Starts, first_annotation, answer, Stands, Shows, Fails, Parser}
use Rattle.fcl_syntax.proofs.AnnotatedTexts.{bind_ok, ok_is, disjoint-mem}
use Rattle.fcl_syntax.proofs.Seq.{Fails-in}

-- ---- one token of a class

pub record Single (A : Type 0) : Type 0 where
  pub want : Token → Option A
  pub make : A → Token
  pub among : List ℕ
  pub example : A
  pub back : (x : Token) (a : A) → want x ≡ Some a → make a ≡ x
  pub forth : (a : A) → want (make a) ≡ Some a
  pub classes : (a : A) → mem (class_of (make a)) among ≡ true

module _ {A : Type 0} (c : Single A) where
  abbrev pub one_text : A → List Sym
  one_text a = plain (c.make a) ∷ []

  pub one_stands : (ts : List Token) (a : A) (rest : List Token) → one_at c.want ts ≡ Ok (a, rest)
      → Stands (one_text) [] ts a rest
  one_stands [] a rest e = absurd cc
  one_stands (x ∷ xs) a rest e = from_found (c.want x) refl e
    where
      stopped : (l : List Token) → Stops [] l
      stopped [] = tt
      stopped (y ∷ l) = refl

      from_found : (o : Option A) → c.want x ≡ o → found o (x ∷ xs) xs ≡ Ok (a, rest)
          → Stands one_text [] (x ∷ xs) a rest
      from_found None w e = absurd cc
      from_found (Some b) w e =
          let same : b ≡ a = ap (λ (p : A × List Token). p.0) (ok_is (b, xs) (a, rest) e) in
          let rests : xs ≡ rest = ap (λ (p : A × List Token). p.1) (ok_is (b, xs) (a, rest) e) in
          let token : c.make a ≡ x = ap c.make (sym same) ∙ c.back x b w in
          record { parts = rw (token, rests) refl; clean = (refl, tt); stops = stopped rest }

  pub one_fails : (ts : List Token) (e : Fault) → one_at c.want ts ≡ Err e → Fails one_text (one_at c.want) ts e
  one_fails [] e h = record {
    front = [];
    bad = [];
    parts = refl;
    left = ap (λ (r : Result (A × List Token) Fault). elim r as (λ _. ℕ) [ Ok x ↦ 0 | Err d ↦ d.left ]) (sym h);
    viable = record { tree = c.example; more = c.make c.example ∷ []; clean = (refl, tt); parts = refl };
    shows = subst (λ (d : Fault). Shows one_text d.kind [] []) (err_is h) tt;
    local = λ b same. subst (λ (d : Fault). SameHead d.kind [] b → one_at c.want b ≡ Err (fault_at d.kind (length b)))
        (err_is h) (here b) same;
  }
    where
      err_is : {d : Fault} → one_at c.want [] ≡ Err d → fault_at Expected 0 ≡ d
      err_is h = cc

      here : (b : List Token) → SameHead Expected [] b → one_at c.want b ≡ Err (fault_at Expected (length b))
      here [] s = refl
      here (y ∷ b) s = absurd s
  one_fails (x ∷ xs) e h = from_found (c.want x) refl h
    where
      from_found : (o : Option A) → c.want x ≡ o → found o (x ∷ xs) xs ≡ Err e
          → Fails one_text (one_at c.want) (x ∷ xs) e
      from_found (Some b) w h = absurd cc
      from_found None w h =
          let is : fault_at Expected (length (x ∷ xs)) ≡ e = cc in
          subst (λ (d : Fault). Fails one_text (one_at c.want) (x ∷ xs) d) is (record {
            front = [];
            bad = x ∷ xs;
            parts = refl;
            left = refl;
            viable = record { tree = c.example; more = c.make c.example ∷ []; clean = (refl, tt); parts = refl };
            shows = tt;
            local = here;
          })
        where
          here : (b : List Token) → SameHead Expected (x ∷ xs) b → one_at c.want b ≡ Err (fault_at Expected (length b))
          here [] s = absurd s
          here (y ∷ b) s = rw (← s.0, w) refl

  abbrev pub one : Parser A
  one = record {
    text = one_text;
    read = one_at c.want;
    first = c.among;
    goes = [];
    some = c.example;
    some_clean = (refl, tt);
    begins = λ a rest. c.classes a;
    stands = one_stands;
    again = λ a rest stops. rw (c.forth a) refl;
    fails = one_fails;
  }

-- ---- a parser seen as another type, or as one side of a choice

abbrev pub seen_as : {A B : Type 0} → (A → B) → Result (A × List Token) Fault → Result (B × List Token) Fault
seen_as to r = r >>= λ a. Ok (to a.0, a.1)

pub answer-seen : {A B : Type 0} (to : A → B) (m : Option Fault) (a : A) (rest : List Token)
    → seen_as to (answer m a rest) ≡ answer m (to a) rest
answer-seen to None a rest = refl
answer-seen to (Some e) a rest = refl

pub seen_err : {A B : Type 0} (to : A → B) (r : Result (A × List Token) Fault) (e : Fault) → seen_as to r ≡ Err e
    → r ≡ Err e
seen_err to (Ok x) e h = absurd cc
seen_err to (Err d) e h = cc

module _ {A B : Type 0} (p : Parser A) (to : A → B) (text : B → List Sym)
    (same_text : (a : A) → text (to a) ≡ p.text a) where
  pub seen_stands : (ts : List Token) (t : B) (rest : List Token) → seen_as to (p.read ts) ≡ Ok (t, rest)
      → Stands text p.goes ts t rest
  seen_stands ts t rest e =
      let x = bind_ok (p.read ts) (λ a. Ok (to a.0, a.1)) (t, rest) e in
      let s = p.stands ts x.0.0 x.0.1 x.1 in
      let made : B × List Token = (to x.0.0, x.0.1) in
      let whole : Stands text p.goes ts made.0 made.1 = record {
        parts = s.parts ∙ ap (λ (l : List Sym). tokens_of l ++ x.0.1) (sym (same_text x.0.0));
        clean = subst IsClean (sym (same_text x.0.0)) s.clean;
        stops = s.stops;
      } in
      subst (λ (z : B × List Token). Stands text p.goes ts z.0 z.1) (ok_is made (t, rest) x.2) whole

  -- by a reader that reads it where the fault may be
  pub seen_fails : (read : List Token → Result (B × List Token) Fault) (ts : List Token) (e : Fault)
      (f : Fails p.text p.read ts e)
      → ((b : List Token) → SameHead e.kind f.bad b → read (f.front ++ b) ≡ seen_as to (p.read (f.front ++ b)))
      → Fails text read ts e
  seen_fails read ts e f reads = Fails-in p.text text read ts e [] to (λ a. [])
      (λ a. same_text a ∙ sym (append-nil (p.text a))) tt (λ a. tt) f refl
      (λ b same. reads b same ∙ ap (seen_as to) (f.local b same))

-- ---- a choice by the first token

abbrev pub to_left : {A B : Type 0} → Result (A × List Token) Fault → Result ((A ⊎ B) × List Token) Fault
to_left r = seen_as (λ a. inl a) r

abbrev pub to_right : {A B : Type 0} → Result (B × List Token) Fault → Result ((A ⊎ B) × List Token) Fault
to_right r = seen_as (λ b. inr b) r

abbrev pub choose : {A B : Type 0} → Bool → Result (A × List Token) Fault → Result (B × List Token) Fault
    → Result ((A ⊎ B) × List Token) Fault
choose b p q = cond_read b (to_left p) (to_right q)

pub starts-is : (first : List ℕ) (ts : List Token) → Starts first ts → starts first ts ≡ true
starts-is first [] h = absurd h
starts-is first (x ∷ xs) h = h

pub starts-not : (first other : List ℕ) (ts : List Token) → disjoint first other ≡ true → Starts other ts
    → starts first ts ≡ false
starts-not first other [] d h = absurd h
starts-not first other (x ∷ xs) d h = disjoint-mem first other (class_of x) d h

pub starts-same : (first : List ℕ) (k : Kind) (front bad b : List Token) → SameHead k bad b
    → starts first (front ++ b) ≡ starts first (front ++ bad)
starts-same first k [] [] [] s = refl
starts-same first k [] [] (y ∷ b) s = absurd s
starts-same first k [] (x ∷ a) [] s = absurd s
starts-same first k [] (x ∷ a) (y ∷ b) s = ap (λ (z : Token). mem (class_of z) first) (sym s.0)
starts-same first k (f ∷ front) bad b s = refl

pub widen : (first f : List ℕ) (ts : List Token)
    → ((x : Token) → mem (class_of x) f ≡ true → mem (class_of x) first ≡ true) → Starts f ts → Starts first ts
widen first f [] w h = absurd h
widen first f (x ∷ xs) w h = w x h

module _ {A B : Type 0} (p : Parser A) (q : Parser B) where
  abbrev pub alt_text : A ⊎ B → List Sym
  alt_text = either_text p.text q.text

  abbrev pub alt_read : List Token → Result ((A ⊎ B) × List Token) Fault
  alt_read ts = choose (starts p.first ts) (p.read ts) (q.read ts)

module _ {A B : Type 0} (p : Parser A) (q : Parser B) (apart : disjoint p.first q.first ≡ true)
    (same_goes : p.goes ≡ q.goes) (first : List ℕ)
    (first_left : (x : Token) → mem (class_of x) p.first ≡ true → mem (class_of x) first ≡ true)
    (first_right : (x : Token) → mem (class_of x) q.first ≡ true → mem (class_of x) first ≡ true) where
  pub alt_begins : (t : A ⊎ B) (rest : List Token) → Starts first (tokens_of (alt_text p q t) ++ rest)
  alt_begins (inl a) rest = widen first p.first (tokens_of (p.text a) ++ rest) first_left (p.begins a rest)
  alt_begins (inr b) rest = widen first q.first (tokens_of (q.text b) ++ rest) first_right (q.begins b rest)

  left_stands : (ts : List Token) (t : A ⊎ B) (rest : List Token) → to_left {B = B} (p.read ts) ≡ Ok (t, rest)
      → Stands (alt_text p q) q.goes ts t rest
  left_stands ts t rest e =
      let s = seen_stands p (λ a. inl a) (alt_text p q) (λ a. refl) ts t rest e in
      record { parts = s.parts; clean = s.clean; stops = subst (λ (g : List ℕ). Stops g rest) same_goes s.stops }

  pub alt_stands : (ts : List Token) (t : A ⊎ B) (rest : List Token) → alt_read p q ts ≡ Ok (t, rest)
      → Stands (alt_text p q) q.goes ts t rest
  alt_stands ts t rest e =
      elim (cases_Bool (starts p.first ts)) [
        | inl is_so ↦ left_stands ts t rest
            (subst (λ (b : Bool). choose b (p.read ts) (q.read ts) ≡ Ok (t, rest)) is_so e)
        | inr not_so ↦ seen_stands q (λ b. inr b) (alt_text p q) (λ b. refl) ts t rest
            (subst (λ (b : Bool). choose b (p.read ts) (q.read ts) ≡ Ok (t, rest)) not_so e)
      ]

  pub alt_again : (t : A ⊎ B) (rest : List Token) → Stops q.goes rest
      → alt_read p q (tokens_of (alt_text p q t) ++ rest) ≡ answer
      (first_annotation (alt_text p q t) (length rest)) t rest
  alt_again (inl a) rest stops =
      let ts : List Token = tokens_of (p.text a) ++ rest in
      ap (λ (b : Bool). choose b (p.read ts) (q.read ts)) (starts-is p.first ts (p.begins a rest))
      ∙ ap (λ (r : Result (A × List Token) Fault). to_left {B = B} r)
      (p.again a rest (subst (λ (g : List ℕ). Stops g rest) (sym same_goes) stops))
      ∙ answer-seen {B = A ⊎ B} (λ (x : A). inl x) (first_annotation (p.text a) (length rest)) a rest
  alt_again (inr b) rest stops =
      let ts : List Token = tokens_of (q.text b) ++ rest in
      ap (λ (b : Bool). choose b (p.read ts) (q.read ts)) (starts-not p.first q.first ts apart (q.begins b rest))
      ∙ ap (λ (r : Result (B × List Token) Fault). to_right {A = A} r) (q.again b rest stops)
      ∙ answer-seen {B = A ⊎ B} (λ (x : B). inr x) (first_annotation (q.text b) (length rest)) b rest

  left_fails : (ts : List Token) (e : Fault) → starts p.first ts ≡ true → Fails p.text p.read ts e
      → Fails (alt_text p q) (alt_read p q) ts e
  left_fails ts e is_so f = seen_fails p (λ a. inl a) (alt_text p q) (λ a. refl) (alt_read p q) ts e f (λ b same.
      ap (λ (c : Bool). choose c (p.read (f.front ++ b)) (q.read (f.front ++ b)))
      (starts-same p.first e.kind f.front f.bad b same ∙ ap (starts p.first) (sym f.parts) ∙ is_so))

  right_fails : (ts : List Token) (e : Fault) → starts p.first ts ≡ false → Fails q.text q.read ts e
      → Fails (alt_text p q) (alt_read p q) ts e
  right_fails ts e not_so f = seen_fails q (λ b. inr b) (alt_text p q) (λ b. refl) (alt_read p q) ts e f (λ b same.
      ap (λ (c : Bool). choose c (p.read (f.front ++ b)) (q.read (f.front ++ b)))
      (starts-same p.first e.kind f.front f.bad b same ∙ ap (starts p.first) (sym f.parts) ∙ not_so))

  pub alt_fails : (ts : List Token) (e : Fault) → alt_read p q ts ≡ Err e → Fails (alt_text p q) (alt_read p q) ts e
  alt_fails ts e h =
      elim (cases_Bool (starts p.first ts)) [
        | inl is_so ↦ left_fails ts e is_so (p.fails ts e (seen_err {B = A ⊎ B} (λ (x : A). inl x) (p.read ts) e
            (subst (λ (b : Bool). choose b (p.read ts) (q.read ts) ≡ Err e) is_so h)))
        | inr not_so ↦ right_fails ts e not_so (q.fails ts e (seen_err {B = A ⊎ B} (λ (x : B). inr x) (q.read ts) e
            (subst (λ (b : Bool). choose b (p.read ts) (q.read ts) ≡ Err e) not_so h)))
      ]

  abbrev pub alt : Parser (A ⊎ B)
  alt = record {
    text = alt_text p q;
    read = alt_read p q;
    first = first;
    goes = q.goes;
    some = inr q.some;
    some_clean = q.some_clean;
    begins = alt_begins;
    stands = alt_stands;
    again = alt_again;
    fails = alt_fails;
  }
