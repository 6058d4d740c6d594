-- P {Q} and {P} Q as parsers.
use Rattle.std.proofs.Common.{◌≡◌, ℕ, Bool, true, false, cond, eqb, List, [], ◌∷◌, ◌++◌, length, Option}
use Rattle.std.proofs.Common.{Result, Ok, Err, refl, sym, ap, subst, ◌∙◌, append_assoc, arith, inl, inr}
use Rattle.std.proofs.lemmas.List.{append-nil}
use Rattle.fcl_tokens.specs.declared.token.Token.{Token}
use Rattle.fcl_syntax.specs.declared.{fault.Fault.Fault, fault.Kind.Kind}
use Rattle.fcl_syntax.specs.{TokenClasses.class_of, TokenClasses.mem, First.SameHead}
use Rattle.fcl_syntax.specs.Annotations.{Sym, tokens_of}
use Rattle.fcl_syntax.specs.Readers.{◌>>=◌, fault_at, starts}
use Rattle.fcl_syntax.proofs.Parser.{disjoint, Stops, Starts, first_annotation, answer, Stands, Fails, Parser}
use Rattle.fcl_syntax.proofs.AnnotatedTexts.{bind_ok, bind_err, ok_is, tokens_of-append-rest, parts_joined}
use Rattle.fcl_syntax.proofs.AnnotatedTexts.{IsClean-append, first_annotation-append-rest, first_annotation-clean}
use Rattle.fcl_syntax.proofs.AnnotatedTexts.{clean_read, answer-bind, starts-stops, Stops-same}
use Rattle.fcl_syntax.proofs.{Seq.Fails-in, Small.starts-not, Small.starts-same, Small.widen}
use Rattle.fcl_syntax.proofs.Loop.{texts, rep, Settled, all_settled, Ran, FailsIn, rep_runs, rep_again, rep_local}
use Rattle.fcl_syntax.proofs.Loop.{rep_fails, stops_before, starts-Starts}

pub mem-append : (xs ys : List ℕ) (n : ℕ) → mem n (xs ++ ys) ≡ cond (mem n xs) true (mem n ys)
mem-append [] ys n = refl
mem-append (x ∷ xs) ys n = rw (mem-append xs ys n) (go (eqb n x))
  where
    go : (b : Bool) → cond b true (cond (mem n xs) true (mem n ys)) ≡ cond (cond b true (mem n xs)) true (mem n ys)
    go true = refl
    go false = refl

cond_no : (b c : Bool) → cond b true c ≡ false → (b ≡ false) × (c ≡ false)
cond_no true c e = absurd cc
cond_no false c e = (refl, e)

pub Stops-parts : (f g : List ℕ) (rest : List Token) → Stops (f ++ g) rest → (starts f rest ≡ false) × Stops g rest
Stops-parts f g [] h = (refl, tt)
Stops-parts f g (x ∷ xs) h = cond_no (mem (class_of x) f) (mem (class_of x) g) (sym (mem-append f g (class_of x)) ∙ h)

pub Stops-both : (f g : List ℕ) (rest : List Token) → starts f rest ≡ false → Stops g rest → Stops (f ++ g) rest
Stops-both f g [] h s = tt
Stops-both f g (x ∷ xs) h s = rw (mem-append f g (class_of x), h) s

pub texts-append : {A : Type 0} (p : Parser A) (a b : List A) → texts p (a ++ b) ≡ texts p a ++ texts p b
texts-append p [] b = refl
texts-append p (x ∷ a) b = ap (λ (l : List Sym). p.text x ++ l) (texts-append p a b)
    ∙ sym (append_assoc (p.text x) (texts p a) (texts p b))

-- ---- P {Q}

module _ {A B : Type 0} (p : Parser A) (q : Parser B) where
  abbrev pub then_text : A × List B → List Sym
  then_text t = p.text t.0 ++ texts q t.1

  abbrev pub then_read : List Token → Result ((A × List B) × List Token) Fault
  then_read ts = p.read ts >>= λ a. rep q (length a.1) a.1 >>= λ r. Ok ((a.0, r.0), r.1)

module _ {A B : Type 0} (p : Parser A) (q : Parser B) (apart : disjoint q.goes q.first ≡ true)
    (same_goes : p.goes ≡ q.goes) where
  pub then_begins : (t : A × List B) (rest : List Token) → Starts p.first (tokens_of (then_text p q t) ++ rest)
  then_begins t rest =
      subst (Starts p.first) (sym (tokens_of-append-rest (p.text t.0) (texts q t.1) rest))
      (p.begins t.0 (tokens_of (texts q t.1) ++ rest))

  settled_stops : (items : List B) (ts rest : List Token) → ts ≡ tokens_of (texts q items) ++ rest → Stops p.goes ts
      → Settled q.goes items rest
      → Stops q.goes rest
  settled_stops [] ts rest e s h = subst (λ (g : List ℕ). Stops g rest) same_goes (subst (Stops p.goes) e s)
  settled_stops (b ∷ items) ts rest e s h = h

  pub then_stands : (ts : List Token) (t : A × List B) (rest : List Token) → then_read p q ts ≡ Ok (t, rest)
      → Stands (then_text p q) (q.first ++ q.goes) ts t rest
  then_stands ts t rest e =
      let x = bind_ok (p.read ts) (λ a. rep q (length a.1) a.1 >>= λ r. Ok ((a.0, r.0), r.1)) (t, rest) e in
      let y = bind_ok (rep q (length x.0.1) x.0.1) (λ r. Ok ((x.0.0, r.0), r.1)) (t, rest) x.2 in
      let s = p.stands ts x.0.0 x.0.1 x.1 in
      let r = rep_runs q apart (length x.0.1) x.0.1 y.0.0 y.0.1 (omega arith) y.1 in
      let made : (A × List B) × List Token = ((x.0.0, y.0.0), y.0.1) in
      let whole : Stands (then_text p q) (q.first ++ q.goes) ts made.0 made.1 = record {
        parts = parts_joined (p.text x.0.0) (texts q y.0.0) y.0.1 s.parts r.parts;
        clean = IsClean-append (p.text x.0.0) (texts q y.0.0) s.clean r.clean;
        stops = Stops-both q.first q.goes y.0.1 r.ends (settled_stops y.0.0 x.0.1 y.0.1 r.parts s.stops r.stops);
      } in
      subst (λ (z : (A × List B) × List Token). Stands (then_text p q) (q.first ++ q.goes) ts z.0 z.1) {x = made}
      (ok_is made (t, rest) y.2) whole

  pub then_again : (t : A × List B) (rest : List Token) → Stops (q.first ++ q.goes) rest
      → then_read p q (tokens_of (then_text p q t) ++ rest) ≡ answer
      (first_annotation (then_text p q t) (length rest)) t rest
  then_again t rest stops =
      let both = Stops-parts q.first q.goes rest stops in
      let after : List Token = tokens_of (texts q t.1) ++ rest in
      let hp = p.again t.0 after
      (subst (λ (g : List ℕ). Stops g after) (sym same_goes) (stops_before q apart t.1 rest both.1)) in
      let hr = rep_again q apart (length after) t.1 rest (omega arith) both.0 (all_settled q.goes t.1 rest both.1) in
      ap (then_read p q) (tokens_of-append-rest (p.text t.0) (texts q t.1) rest)
      ∙ ap (λ (r : Result (A × List Token) Fault). r >>= λ a. rep q (length a.1) a.1 >>= λ r. Ok ((a.0, r.0), r.1)) hp
      ∙ answer-bind (λ ts. rep q (length ts) ts) (λ a items. (a, items)) (first_annotation (p.text t.0) (length after))
      (first_annotation (texts q t.1) (length rest)) t.0 t.1 after rest hr
      ∙ ap (λ (m : Option Fault). answer m t rest) (sym (first_annotation-append-rest (p.text t.0) (texts q t.1) rest))

  then_first : (ts : List Token) (e : Fault) → Fails p.text p.read ts e → Fails (then_text p q) (then_read p q) ts e
  then_first ts e f = Fails-in p.text (then_text p q) (then_read p q) ts e [] (λ a. (a, [])) (λ a. []) (λ a. refl) tt
      (λ a. tt) f refl (λ b same.
      ap (λ (r : Result (A × List Token) Fault). r >>= λ a. rep q (length a.1) a.1 >>= λ r. Ok ((a.0, r.0), r.1))
      (f.local b same))

  one_more : (a : A) (before : List B) (b : B)
      → then_text p q (a, before ++ b ∷ []) ≡ (p.text a ++ texts q before) ++ (q.text b ++ [])
  one_more a before b = ap (λ (l : List Sym). p.text a ++ l) (texts-append q before (b ∷ []))
      ∙ sym (append_assoc (p.text a) (texts q before) (q.text b ++ []))

  then_more : (ts : List Token) (e : Fault) (a : A) (rest : List Token) → Stands p.text p.goes ts a rest
      → FailsIn q rest e
      → Fails (then_text p q) (then_read p q) ts e
  then_more ts e a rest s g =
      let f = g.inner in
      let head : List Sym = p.text a ++ texts q g.before in
      Fails-in q.text (then_text p q) (then_read p q) ts e head (λ b. (a, g.before ++ b ∷ [])) (λ b. [])
      (one_more a g.before) (IsClean-append (p.text a) (texts q g.before) s.clean g.clean) (λ b. tt) f
      (parts_joined (p.text a) (texts q g.before) g.ts' s.parts g.parts) (λ b same.
      let after : List Token = tokens_of (texts q g.before) ++ (f.front ++ b) in
      let begun : starts q.first (f.front ++ b) ≡ true = starts-same q.first e.kind f.front f.bad b same
      ∙ ap (starts q.first) (sym f.parts) ∙ g.begun in
      let stops : Stops p.goes after = subst (λ (g : List ℕ). Stops g after) (sym same_goes)
      (stops_before q apart g.before (f.front ++ b) (starts-stops q.goes q.first (f.front ++ b) apart
      (starts-Starts q apart (f.front ++ b) begun))) in
      let hr = rep_local q apart (length after) g.before (f.front ++ b) (fault_at e.kind (length b))
      (omega arith) g.clean begun (f.local b same) in
      ap (then_read p q) (tokens_of-append-rest (p.text a) (texts q g.before) (f.front ++ b))
      ∙ ap (λ (r : Result (A × List Token) Fault). r >>= λ a. rep q (length a.1) a.1 >>= λ r. Ok ((a.0, r.0), r.1))
      (clean_read p a after s.clean stops)
      ∙ ap (λ (r : Result (List B × List Token) Fault). r >>= λ r. Ok ((a, r.0), r.1)) hr)

  pub then_fails : (ts : List Token) (e : Fault) → then_read p q ts ≡ Err e → Fails (then_text p q) (then_read p q) ts e
  then_fails ts e h =
      elim (bind_err (p.read ts) (λ a. rep q (length a.1) a.1 >>= λ r. Ok ((a.0, r.0), r.1)) e h) [
        | inl first ↦ then_first ts e (p.fails ts e first)
        | inr x ↦ elim (bind_err (rep q (length x.0.1) x.0.1) (λ r. Ok ((x.0.0, r.0), r.1)) e x.2) [
          | inl second ↦ then_more ts e x.0.0 x.0.1 (p.stands ts x.0.0 x.0.1 x.1)
              (rep_fails q apart (length x.0.1) x.0.1 e second)
          | inr y ↦ absurd (let never = y.2 in cc)
        ]
      ]

  abbrev pub then_rep : Parser (A × List B)
  then_rep = record {
    text = then_text p q;
    read = then_read p q;
    first = p.first;
    goes = q.first ++ q.goes;
    some = (p.some, []);
    some_clean = IsClean-append (p.text p.some) [] p.some_clean tt;
    begins = then_begins;
    stands = then_stands;
    again = then_again;
    fails = then_fails;
  }

-- ---- {P} Q

module _ {A B : Type 0} (p : Parser A) (q : Parser B) where
  abbrev pub many_text : List A × B → List Sym
  many_text t = texts p t.0 ++ q.text t.1

  abbrev pub many_read : List Token → Result ((List A × B) × List Token) Fault
  many_read ts = rep p (length ts) ts >>= λ r. q.read r.1 >>= λ b. Ok ((r.0, b.0), b.1)

module _ {A B : Type 0} (p : Parser A) (q : Parser B) (apart : disjoint p.goes p.first ≡ true)
    (apart_end : disjoint p.goes q.first ≡ true)
    (apart_first : disjoint p.first q.first ≡ true) (first : List ℕ)
    (first_item : (x : Token) → mem (class_of x) p.first ≡ true → mem (class_of x) first ≡ true)
    (first_end : (x : Token) → mem (class_of x) q.first ≡ true → mem (class_of x) first ≡ true) where
  pub many_begins : (t : List A × B) (rest : List Token) → Starts first (tokens_of (many_text p q t) ++ rest)
  many_begins t rest = go t.0
    where
      go : (items : List A) → Starts first (tokens_of (many_text p q (items, t.1)) ++ rest)
      go [] = widen first q.first (tokens_of (q.text t.1) ++ rest) first_end (q.begins t.1 rest)
      go (a ∷ items) =
          let e : tokens_of (many_text p q (a ∷ items, t.1)) ++ rest ≡ tokens_of (p.text a)
          ++ (tokens_of (texts p items ++ q.text t.1) ++ rest) =
          ap (λ (l : List Sym). tokens_of l ++ rest) (append_assoc (p.text a) (texts p items) (q.text t.1))
          ∙ tokens_of-append-rest (p.text a) (texts p items ++ q.text t.1) rest in
          subst (Starts first) (sym e)
          (widen first p.first
          (tokens_of (p.text a) ++ (tokens_of (texts p items ++ q.text t.1) ++ rest)) first_item
          (p.begins a (tokens_of (texts p items ++ q.text t.1) ++ rest)))

  pub many_stands : (ts : List Token) (t : List A × B) (rest : List Token) → many_read p q ts ≡ Ok (t, rest)
      → Stands (many_text p q) q.goes ts t rest
  many_stands ts t rest e =
      let x = bind_ok (rep p (length ts) ts) (λ r. q.read r.1 >>= λ b. Ok ((r.0, b.0), b.1)) (t, rest) e in
      let y = bind_ok (q.read x.0.1) (λ b. Ok ((x.0.0, b.0), b.1)) (t, rest) x.2 in
      let r = rep_runs p apart (length ts) ts x.0.0 x.0.1 (omega arith) x.1 in
      let s = q.stands x.0.1 y.0.0 y.0.1 y.1 in
      let made : (List A × B) × List Token = ((x.0.0, y.0.0), y.0.1) in
      let whole : Stands (many_text p q) q.goes ts made.0 made.1 = record {
        parts = parts_joined (texts p x.0.0) (q.text y.0.0) y.0.1 r.parts s.parts;
        clean = IsClean-append (texts p x.0.0) (q.text y.0.0) r.clean s.clean;
        stops = s.stops;
      } in
      subst (λ (z : (List A × B) × List Token). Stands (many_text p q) q.goes ts z.0 z.1)
      (ok_is made (t, rest) y.2) whole

  pub many_again : (t : List A × B) (rest : List Token) → Stops q.goes rest
      → many_read p q (tokens_of (many_text p q t) ++ rest) ≡ answer
      (first_annotation (many_text p q t) (length rest)) t rest
  many_again t rest stops =
      let after : List Token = tokens_of (q.text t.1) ++ rest in
      let begins = q.begins t.1 rest in
      let hr = rep_again p apart (length (tokens_of (texts p t.0) ++ after)) t.0 after (omega arith)
      (starts-not p.first q.first after apart_first begins)
      (all_settled p.goes t.0 after (starts-stops p.goes q.first after apart_end begins)) in
      let hq = q.again t.1 rest stops in
      ap (many_read p q) (tokens_of-append-rest (texts p t.0) (q.text t.1) rest)
      ∙ ap (λ (r : Result (List A × List Token) Fault). r >>= λ r. q.read r.1 >>= λ b. Ok ((r.0, b.0), b.1)) hr
      ∙ answer-bind q.read (λ items b. (items, b)) (first_annotation (texts p t.0) (length after))
      (first_annotation (q.text t.1) (length rest)) t.0 t.1 after rest hq
      ∙ ap (λ (m : Option Fault). answer m t rest) (sym (first_annotation-append-rest (texts p t.0) (q.text t.1) rest))

  item_more : (before : List A) (a : A)
      → many_text p q (before ++ a ∷ [], q.some) ≡ texts p before ++ (p.text a ++ q.text q.some)
  item_more before a = ap (λ (l : List Sym). l ++ q.text q.some) (texts-append p before (a ∷ []))
      ∙ append_assoc (texts p before) (p.text a ++ []) (q.text q.some)
      ∙ ap (λ (l : List Sym). texts p before ++ (l ++ q.text q.some)) (append-nil (p.text a))

  many_item : (ts : List Token) (e : Fault) → FailsIn p ts e → Fails (many_text p q) (many_read p q) ts e
  many_item ts e g =
      let f = g.inner in
      Fails-in p.text (many_text p q) (many_read p q) ts e (texts p g.before) (λ a. (g.before ++ a ∷ [], q.some))
      (λ a. q.text q.some) (item_more g.before) g.clean (λ a. q.some_clean) f g.parts (λ b same.
      let begun : starts p.first (f.front ++ b) ≡ true = starts-same p.first e.kind f.front f.bad b same
      ∙ ap (starts p.first) (sym f.parts) ∙ g.begun in
      ap (λ (r : Result (List A × List Token) Fault). r >>= λ r. q.read r.1 >>= λ b. Ok ((r.0, b.0), b.1))
      (rep_local p apart (length (tokens_of (texts p g.before) ++ (f.front ++ b))) g.before (f.front ++ b)
      (fault_at e.kind (length b)) (omega arith) g.clean begun (f.local b same)))

  many_end : (ts : List Token) (e : Fault) (items : List A) (rest : List Token) → Ran p ts items rest
      → Fails q.text q.read rest e
      → Fails (many_text p q) (many_read p q) ts e
  many_end ts e items rest r f = Fails-in q.text (many_text p q) (many_read p q) ts e (texts p items)
      (λ b. (items, b)) (λ b. []) (λ b. ap (λ (l : List Sym). texts p items ++ l) (sym (append-nil (q.text b)))) r.clean
      (λ b. tt) f r.parts (λ b same.
      let after : List Token = f.front ++ b in
      let ends : starts p.first after ≡ false = starts-same p.first e.kind f.front f.bad b same
      ∙ ap (starts p.first) (sym f.parts) ∙ r.ends in
      let settled : Settled p.goes items after =
      Settled-same items e.kind f.front f.bad b same (subst (Settled p.goes items) f.parts r.stops) in
      let hr : rep p (length (tokens_of (texts p items) ++ after)) (tokens_of (texts p items) ++ after) ≡ Ok
      (items, after) =
      rep_again p apart (length (tokens_of (texts p items) ++ after)) items after (omega arith) ends settled
      ∙ ap (λ (m : Option Fault). answer m items after) (first_annotation-clean (texts p items) (length after) r.clean)
      in
      ap (λ (r : Result (List A × List Token) Fault). r >>= λ r. q.read r.1 >>= λ b. Ok ((r.0, b.0), b.1)) hr
      ∙ ap (λ (r : Result (B × List Token) Fault). r >>= λ b. Ok ((items, b.0), b.1)) (f.local b same))
    where
      Settled-same : (items : List A) (k : Kind) (front bad b : List Token) → SameHead k bad b
          → Settled p.goes items (front ++ bad)
          → Settled p.goes items (front ++ b)
      Settled-same [] k front bad b same h = tt
      Settled-same (a ∷ items) k front bad b same h = Stops-same k p.goes front bad b same h

  pub many_fails : (ts : List Token) (e : Fault) → many_read p q ts ≡ Err e → Fails (many_text p q) (many_read p q) ts e
  many_fails ts e h =
      elim (bind_err (rep p (length ts) ts) (λ r. q.read r.1 >>= λ b. Ok ((r.0, b.0), b.1)) e h) [
        | inl first ↦ many_item ts e (rep_fails p apart (length ts) ts e first)
        | inr x ↦ elim (bind_err (q.read x.0.1) (λ b. Ok ((x.0.0, b.0), b.1)) e x.2) [
          | inl second ↦ many_end ts e x.0.0 x.0.1 (rep_runs p apart (length ts) ts x.0.0 x.0.1 (omega arith) x.1)
              (q.fails x.0.1 e second)
          | inr y ↦ absurd (let never = y.2 in cc)
        ]
      ]

  abbrev pub many : Parser (List A × B)
  many = record {
    text = many_text p q;
    read = many_read p q;
    first = first;
    goes = q.goes;
    some = ([], q.some);
    some_clean = q.some_clean;
    begins = many_begins;
    stands = many_stands;
    again = many_again;
    fails = many_fails;
  }
