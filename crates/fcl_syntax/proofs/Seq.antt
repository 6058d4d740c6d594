-- One parser after another.
use Rattle.std.proofs.Common.{◌≡◌, true, List, [], ◌∷◌, ◌++◌, length, Option, Result, Ok, Err, refl}
use Rattle.std.proofs.Common.{sym, ap, subst, ◌∙◌, append_assoc, inl, inr}
use Rattle.std.proofs.lemmas.List.{append-nil}
use Rattle.fcl_tokens.specs.declared.token.Token.{Token}
use Rattle.fcl_syntax.specs.declared.{fault.Fault.Fault, fault.Kind.Kind}
use Rattle.fcl_syntax.specs.declared.fault.Kind.TheVariants.{Expected, Deep, Unsupported}
use Rattle.fcl_syntax.specs.Annotations.{Sym, tokens_of, IsClean, annotated}
use Rattle.fcl_syntax.specs.{First.SameHead, First.Shown, Readers.◌>>=◌, Readers.fault_at}
use Rattle.fcl_syntax.proofs.Parser.{disjoint, Stops, Starts, first_annotation, answer, Stands, Viable, Shows}
use Rattle.fcl_syntax.proofs.Parser.{Fails, Parser}
use Rattle.fcl_syntax.proofs.AnnotatedTexts.{bind_ok, bind_err, ok_is, tokens_of-append, tokens_of-append-rest}
use Rattle.fcl_syntax.proofs.AnnotatedTexts.{parts_joined, IsClean-append, first_annotation-append-rest, clean_read}
use Rattle.fcl_syntax.proofs.AnnotatedTexts.{answer-bind, starts-stops, Stops-same, SameHead-append}

-- what is shown of a part is shown of a whole whose text begins and goes on with others
pub Shown-in : {A B : Type 0} (ta : A → List Sym) (tb : B → List Sym) (k : Kind) (front bad : List Token)
    (head : List Sym) (b : A → B) (tail : A → List Sym)
    → ((a : A) → tb (b a) ≡ head ++ (ta a ++ tail a)) → Shown ta k front bad → Shown tb k (tokens_of head ++ front) bad
Shown-in ta tb k front bad head b tail is s = record {
  tree = b s.tree;
  before = head ++ s.before;
  token = s.token;
  after = s.after ++ tail s.tree;
  split = is s.tree ∙ ap (λ (l : List Sym). head ++ (l ++ tail s.tree)) s.split ∙ ap (λ (l : List Sym). head ++ l)
      (append_assoc s.before (annotated k s.token ∷ s.after) (tail s.tree))
      ∙ sym (append_assoc head s.before (annotated k s.token ∷ (s.after ++ tail s.tree)));
  fronts = tokens_of-append head s.before ∙ ap (λ (l : List Token). tokens_of head ++ l) s.fronts;
  same = subst (λ (l : List Token). SameHead k (s.token ∷ l) bad) (sym (tokens_of-append s.after (tail s.tree)))
      (SameHead-append k s.token (tokens_of s.after) (tokens_of (tail s.tree)) bad s.same);
}

pub Shows-in : {A B : Type 0} (ta : A → List Sym) (tb : B → List Sym) (k : Kind) (front bad : List Token)
    (head : List Sym) (b : A → B) (tail : A → List Sym)
    → ((a : A) → tb (b a) ≡ head ++ (ta a ++ tail a)) → Shows ta k front bad → Shows tb k (tokens_of head ++ front) bad
Shows-in ta tb Expected front bad head b tail is s = tt
Shows-in ta tb Deep front bad head b tail is s = Shown-in ta tb Deep front bad head b tail is s
Shows-in ta tb (Unsupported n) front bad head b tail is s = Shown-in ta tb (Unsupported n) front bad head b tail is s

pub Viable-in : {A B : Type 0} (ta : A → List Sym) (tb : B → List Sym) (front : List Token) (head : List Sym)
    (b : A → B) (tail : A → List Sym)
    → ((a : A) → tb (b a) ≡ head ++ (ta a ++ tail a)) → IsClean head → ((a : A) → IsClean (tail a)) → Viable ta front
    → Viable tb (tokens_of head ++ front)
Viable-in ta tb front head b tail is ch ct v = record {
  tree = b v.tree;
  more = v.more ++ tokens_of (tail v.tree);
  clean = subst IsClean (sym (is v.tree))
      (IsClean-append head (ta v.tree ++ tail v.tree) ch
      (IsClean-append (ta v.tree) (tail v.tree) v.clean (ct v.tree)));
  parts = ap tokens_of (is v.tree) ∙ tokens_of-append head (ta v.tree ++ tail v.tree)
      ∙ ap (λ (l : List Token). tokens_of head ++ l)
      (tokens_of-append (ta v.tree) (tail v.tree) ∙ ap (λ (l : List Token). l ++ tokens_of (tail v.tree)) v.parts
      ∙ append_assoc front v.more (tokens_of (tail v.tree)))
      ∙ sym (append_assoc (tokens_of head) front (v.more ++ tokens_of (tail v.tree)));
}

-- where a part fails, so does a whole whose text begins and goes on with others
pub Fails-in : {A B : Type 0} (ta : A → List Sym) (tb : B → List Sym) {ra : List Token → Result (A × List Token) Fault}
    (rb : List Token → Result (B × List Token) Fault) {ts : List Token} (whole : List Token) (e : Fault)
    (head : List Sym) (b : A → B) (tail : A → List Sym)
    → ((a : A) → tb (b a) ≡ head ++ (ta a ++ tail a)) → IsClean head → ((a : A) → IsClean (tail a))
    → (f : Fails ta ra ts e) → whole ≡ tokens_of head ++ ts
    → ((l : List Token) → SameHead e.kind f.bad l
    → rb (tokens_of head ++ (f.front ++ l)) ≡ Err (fault_at e.kind (length l)))
    → Fails tb rb whole e
Fails-in ta tb rb whole e head b tail is ch ct f parts local = record {
  front = tokens_of head ++ f.front;
  bad = f.bad;
  parts = parts ∙ ap (λ (l : List Token). tokens_of head ++ l) f.parts
      ∙ sym (append_assoc (tokens_of head) f.front f.bad);
  left = f.left;
  viable = Viable-in ta tb f.front head b tail is ch ct f.viable;
  shows = Shows-in ta tb e.kind f.front f.bad head b tail is f.shows;
  local = λ l same. ap rb (append_assoc (tokens_of head) f.front l) ∙ local l same;
}

module _ {A B : Type 0} (p : Parser A) (q : Parser B) where
  abbrev pub seq_text : A × B → List Sym
  seq_text t = p.text t.0 ++ q.text t.1

  abbrev pub seq_read : List Token → Result ((A × B) × List Token) Fault
  seq_read ts = p.read ts >>= λ a. q.read a.1 >>= λ b. Ok ((a.0, b.0), b.1)

module _ {A B : Type 0} (p : Parser A) (q : Parser B) (apart : disjoint p.goes q.first ≡ true) where
  pub seq_begins : (t : A × B) (rest : List Token) → Starts p.first (tokens_of (seq_text p q t) ++ rest)
  seq_begins t rest = subst (Starts p.first) (sym (tokens_of-append-rest (p.text t.0) (q.text t.1) rest))
      (p.begins t.0 (tokens_of (q.text t.1) ++ rest))

  pub seq_stands : (ts : List Token) (t : A × B) (rest : List Token) → seq_read p q ts ≡ Ok (t, rest)
      → Stands (seq_text p q) q.goes ts t rest
  seq_stands ts t rest e =
      let x = bind_ok (p.read ts) (λ a. q.read a.1 >>= λ b. Ok ((a.0, b.0), b.1)) (t, rest) e in
      let y = bind_ok (q.read x.0.1) (λ b. Ok ((x.0.0, b.0), b.1)) (t, rest) x.2 in
      let sp = p.stands ts x.0.0 x.0.1 x.1 in
      let sq = q.stands x.0.1 y.0.0 y.0.1 y.1 in
      let made : (A × B) × List Token = ((x.0.0, y.0.0), y.0.1) in
      let whole : Stands (seq_text p q) q.goes ts made.0 made.1 = record {
        parts = parts_joined (p.text x.0.0) (q.text y.0.0) y.0.1 sp.parts sq.parts;
        clean = IsClean-append (p.text x.0.0) (q.text y.0.0) sp.clean sq.clean;
        stops = sq.stops;
      } in
      subst (λ (z : (A × B) × List Token). Stands (seq_text p q) q.goes ts z.0 z.1) (ok_is made (t, rest) y.2) whole

  pub seq_again : (t : A × B) (rest : List Token) → Stops q.goes rest
      → seq_read p q (tokens_of (seq_text p q t) ++ rest) ≡ answer
      (first_annotation (seq_text p q t) (length rest)) t rest
  seq_again t rest stops =
      let after : List Token = tokens_of (q.text t.1) ++ rest in
      let hp = p.again t.0 after (starts-stops p.goes q.first after apart (q.begins t.1 rest)) in
      let hq = q.again t.1 rest stops in
      ap (seq_read p q) (tokens_of-append-rest (p.text t.0) (q.text t.1) rest)
      ∙ ap (λ (r : Result (A × List Token) Fault). r >>= λ a. q.read a.1 >>= λ b. Ok ((a.0, b.0), b.1)) hp
      ∙ answer-bind q.read (λ a b. (a, b)) (first_annotation (p.text t.0) (length after))
      (first_annotation (q.text t.1) (length rest)) t.0 t.1 after rest hq
      ∙ ap (λ (m : Option Fault). answer m t rest) (sym (first_annotation-append-rest (p.text t.0) (q.text t.1) rest))

  pub fails_first : (ts : List Token) (e : Fault) → Fails p.text p.read ts e → Fails (seq_text p q) (seq_read p q) ts e
  fails_first ts e f = Fails-in p.text (seq_text p q) (seq_read p q) ts e [] (λ a. (a, q.some)) (λ a. q.text q.some)
      (λ a. refl) tt (λ a. q.some_clean) f refl (λ b same.
      ap (λ (r : Result (A × List Token) Fault). r >>= λ a. q.read a.1 >>= λ b. Ok ((a.0, b.0), b.1)) (f.local b same))

  pub fails_second : (ts : List Token) (e : Fault) (a : A) (rest : List Token) → Stands p.text p.goes ts a rest
      → Fails q.text q.read rest e
      → Fails (seq_text p q) (seq_read p q) ts e
  fails_second ts e a rest s f = Fails-in q.text (seq_text p q) (seq_read p q) ts e (p.text a) (λ b. (a, b)) (λ b. [])
      (λ b. ap (λ (l : List Sym). p.text a ++ l) (sym (append-nil (q.text b)))) s.clean (λ b. tt) f s.parts (λ b same.
      let stops : Stops p.goes (f.front ++ b) =
      Stops-same e.kind p.goes f.front f.bad b same (subst (Stops p.goes) f.parts s.stops) in
      ap (λ (r : Result (A × List Token) Fault). r >>= λ a. q.read a.1 >>= λ b. Ok ((a.0, b.0), b.1))
      (clean_read p a (f.front ++ b) s.clean stops)
      ∙ ap (λ (r : Result (B × List Token) Fault). r >>= λ b. Ok ((a, b.0), b.1)) (f.local b same))

  pub seq_fails : (ts : List Token) (e : Fault) → seq_read p q ts ≡ Err e → Fails (seq_text p q) (seq_read p q) ts e
  seq_fails ts e h =
      elim (bind_err (p.read ts) (λ a. q.read a.1 >>= λ b. Ok ((a.0, b.0), b.1)) e h) [
        | inl first ↦ fails_first ts e (p.fails ts e first)
        | inr x ↦ elim (bind_err (q.read x.0.1) (λ b. Ok ((x.0.0, b.0), b.1)) e x.2) [
          | inl second ↦ fails_second ts e x.0.0 x.0.1 (p.stands ts x.0.0 x.0.1 x.1) (q.fails x.0.1 e second)
          | inr y ↦ absurd (let no = y.2 in cc)
        ]
      ]

  abbrev pub seq : Parser (A × B)
  seq = record {
    text = seq_text p q;
    read = seq_read p q;
    first = p.first;
    goes = q.goes;
    some = (p.some, q.some);
    some_clean = IsClean-append (p.text p.some) (q.text q.some) p.some_clean q.some_clean;
    begins = seq_begins;
    stands = seq_stands;
    again = seq_again;
    fails = seq_fails;
  }
