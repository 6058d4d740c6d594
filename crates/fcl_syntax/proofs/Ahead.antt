-- One token and a parser, unless the token behind the first is one of some: then the first is refused.
use Rattle.std.proofs.Common.{◌≡◌, ℕ, suc, ◌+◌, Bool, true, false, List, [], ◌∷◌, ◌++◌, length, Option, Some, None}
use Rattle.std.proofs.Common.{Result, Ok, Err, refl, sym, ap, subst, ◌∙◌, arith, inl, inr, ◌⊎◌}
use Rattle.std.proofs.lemmas.List.{append-nil}
use Rattle.fcl_tokens.specs.declared.token.Token.{Token}
use Rattle.fcl_syntax.specs.declared.{fault.Fault.Fault, fault.Kind.Kind, fault.Kind.TheVariants.Unsupported}
use Rattle.fcl_syntax.specs.{TokenClasses.class_of, TokenClasses.mem, First.SameHead}
use Rattle.fcl_syntax.specs.Annotations.{Sym, tokens_of, plain, annotated}
use Rattle.fcl_syntax.specs.Readers.{◌>>=◌, fault_at, starts, one_at}
use Rattle.fcl_syntax.proofs.Parser.{disjoint, Stops, Starts, first_annotation, answer, Stands, Fails, Parser}
use Rattle.fcl_syntax.proofs.AnnotatedTexts.{bind_ok, bind_err, ok_is}
use Rattle.fcl_syntax.proofs.{Seq.Fails-in, Dead.unless, Dead.unless_ok}
use Rattle.fcl_syntax.proofs.Small.{Single, one_text, one_stands, one_fails, starts-not, starts-same}

pub record Ahead (Y : Type 0) : Type 0 where
  pub among : List ℕ
  pub token : Y → Token
  pub classes : (y : Y) → mem (class_of (token y)) among ≡ true
  pub cover : (x : Token) → mem (class_of x) among ≡ true → (y : Y) × (token y ≡ x)

abbrev pub refused : Kind
refused = Unsupported 12

abbrev pub to_inl : {A B Y : Type 0} → A → Result (B × List Token) Fault
    → Result (((A × B) ⊎ (A × Y)) × List Token) Fault
to_inl a r = r >>= λ b. Ok (inl (a, b.0), b.1)

module _ {A B Y : Type 0} (c : Single A) (d : Ahead Y) (q : Parser B) where
  abbrev pub ahead_text : (A × B) ⊎ (A × Y) → List Sym
  ahead_text (inl t) = plain (c.make t.0) ∷ q.text t.1
  ahead_text (inr t) = annotated refused (c.make t.0) ∷ plain (d.token t.1) ∷ []

  abbrev pub ahead_rest : A × List Token → Result (((A × B) ⊎ (A × Y)) × List Token) Fault
  ahead_rest a = unless (starts d.among a.1) (fault_at refused (suc (length a.1))) (to_inl a.0 (q.read a.1))

  abbrev pub ahead_read : List Token → Result (((A × B) ⊎ (A × Y)) × List Token) Fault
  ahead_read ts = one_at c.want ts >>= ahead_rest

module _ {A B Y : Type 0} (c : Single A) (d : Ahead Y) (q : Parser B) (apart : disjoint d.among q.first ≡ true) where
  pub ahead_begins : (t : (A × B) ⊎ (A × Y)) (rest : List Token)
      → Starts c.among (tokens_of (ahead_text c d q t) ++ rest)
  ahead_begins (inl t) rest = c.classes t.0
  ahead_begins (inr t) rest = c.classes t.0

  pub ahead_stands : (ts : List Token) (t : (A × B) ⊎ (A × Y)) (rest : List Token) → ahead_read c d q ts ≡ Ok (t, rest)
      → Stands (ahead_text c d q) q.goes ts t rest
  ahead_stands ts t rest e =
      let x = bind_ok (one_at c.want ts) (ahead_rest c d q) (t, rest) e in
      let u = unless_ok (starts d.among x.0.1) (fault_at refused (suc (length x.0.1))) (to_inl x.0.0 (q.read x.0.1))
      (t, rest) x.2 in
      let y = bind_ok (q.read x.0.1) (λ b. Ok (inl (x.0.0, b.0), b.1)) (t, rest) u.1 in
      let s = one_stands c ts x.0.0 x.0.1 x.1 in
      let r = q.stands x.0.1 y.0.0 y.0.1 y.1 in
      let made : ((A × B) ⊎ (A × Y)) × List Token = (inl (x.0.0, y.0.0), y.0.1) in
      let whole : Stands (ahead_text c d q) q.goes ts made.0 made.1 = record {
        parts = s.parts ∙ ap (λ (l : List Token). c.make x.0.0 ∷ l) r.parts;
        clean = (refl, r.clean);
        stops = r.stops;
      } in
      subst (λ (z : ((A × B) ⊎ (A × Y)) × List Token). Stands (ahead_text c d q) q.goes ts z.0 z.1)
      (ok_is made (t, rest) y.2) whole

  step : (m : Option Fault) (a : A) (b : B) (rest : List Token)
      → to_inl {Y = Y} a (answer m b rest) ≡ answer {T = (A × B) ⊎ (A × Y)} m (inl (a, b)) rest
  step None a b rest = refl
  step (Some e) a b rest = refl

  read_one : (a : A) (l : List Token) → one_at c.want (c.make a ∷ l) ≡ Ok (a, l)
  read_one a l = rw (c.forth a) refl

  pub ahead_again : (t : (A × B) ⊎ (A × Y)) (rest : List Token) → Stops q.goes rest
      → ahead_read c d q (tokens_of (ahead_text c d q t) ++ rest) ≡ answer
      (first_annotation (ahead_text c d q t) (length rest)) t rest
  ahead_again (inl t) rest stops =
      let after : List Token = tokens_of (q.text t.1) ++ rest in
      ap (λ (r : Result (A × List Token) Fault). r >>= ahead_rest c d q) (read_one t.0 after)
      ∙ ap (λ (b : Bool). unless b (fault_at refused (suc (length after))) (to_inl {Y = Y} t.0 (q.read after)))
      (starts-not d.among q.first after apart (q.begins t.1 rest))
      ∙ ap (λ (r : Result (B × List Token) Fault). to_inl {Y = Y} t.0 r) (q.again t.1 rest stops)
      ∙ step (first_annotation (q.text t.1) (length rest)) t.0 t.1 rest
  ahead_again (inr t) rest stops =
      let after : List Token = d.token t.1 ∷ rest in
      let len : suc (length rest) ≡ 1 + length rest = omega arith in
      ap (λ (r : Result (A × List Token) Fault). r >>= ahead_rest c d q) (read_one t.0 after)
      ∙ ap (λ (b : Bool). unless b (fault_at refused (suc (length after))) (to_inl {Y = Y} t.0 (q.read after)))
      (d.classes t.1)
      ∙ ap (λ (n : ℕ). Err (fault_at refused (suc n))) len

  ahead_first : (ts : List Token) (e : Fault) → Fails (one_text c) (one_at c.want) ts e
      → Fails (ahead_text c d q) (ahead_read c d q) ts e
  ahead_first ts e f = Fails-in (one_text c) (ahead_text c d q) (ahead_read c d q) ts e [] (λ a. inl (a, q.some))
      (λ a. q.text q.some) (λ a. refl) tt (λ a. q.some_clean) f refl (λ b same.
      ap (λ (r : Result (A × List Token) Fault). r >>= ahead_rest c d q) (f.local b same))

  ahead_here : (a : A) (rest : List Token) → starts d.among rest ≡ true
      → Fails (ahead_text c d q) (ahead_read c d q) (c.make a ∷ rest)
      (fault_at refused (suc (length rest)))
  ahead_here a [] h = absurd cc
  ahead_here a (x ∷ rest) h =
      let y = d.cover x h in
      record {
        front = [];
        bad = c.make a ∷ x ∷ rest;
        parts = refl;
        left = refl;
        viable = record {
          tree = inl (a, q.some);
          more = c.make a ∷ tokens_of (q.text q.some);
          clean =
              (refl, q.some_clean);
          parts = refl;
        };
        shows = record {
          tree = inr (a, y.0);
          before = [];
          token = c.make a;
          after = plain (d.token y.0) ∷ [];
          split = refl;
          fronts = refl;
          same = (refl, y.1);
        };
        local = at;
      }
    where
      at : (b : List Token) → SameHead refused (c.make a ∷ x ∷ rest) b
          → ahead_read c d q b ≡ Err (fault_at refused (length b))
      at [] s = absurd s
      at (z ∷ []) s = absurd (s.1)
      at (z ∷ w ∷ b) s =
          ap (λ (v : Token). ahead_read c d q (v ∷ w ∷ b)) (sym s.0)
          ∙ ap (λ (r : Result (A × List Token) Fault). r >>= ahead_rest c d q) (read_one a (w ∷ b))
          ∙ ap (λ (t : Bool). unless t (fault_at refused (suc (length (w ∷ b)))) (to_inl {Y = Y} a (q.read (w ∷ b))))
          (subst (λ (v : Token). mem (class_of v) d.among ≡ true) s.1 h)

  ahead_second : (ts : List Token) (e : Fault) (a : A) (rest : List Token) → Stands (one_text c) [] ts a rest
      → starts d.among rest ≡ false
      → Fails q.text q.read rest e → Fails (ahead_text c d q) (ahead_read c d q) ts e
  ahead_second ts e a rest s not_so f = Fails-in q.text (ahead_text c d q) (ahead_read c d q) ts e
      (plain (c.make a) ∷ []) (λ b. inl (a, b)) (λ b. [])
      (λ b. ap (λ (l : List Sym). plain (c.make a) ∷ l) (sym (append-nil (q.text b)))) (refl, tt) (λ b. tt) f s.parts
      (λ b same.
      let after : List Token = f.front ++ b in
      ap (λ (r : Result (A × List Token) Fault). r >>= ahead_rest c d q) (read_one a after)
      ∙ ap (λ (t : Bool). unless t (fault_at refused (suc (length after))) (to_inl {Y = Y} a (q.read after)))
      (starts-same d.among e.kind f.front f.bad b same ∙ ap (starts d.among) (sym f.parts) ∙ not_so)
      ∙ ap (λ (r : Result (B × List Token) Fault). to_inl {Y = Y} a r) (f.local b same))

  inner_err : (r : Result (B × List Token) Fault) (a : A) (e : Fault) → to_inl {Y = Y} a r ≡ Err e → r ≡ Err e
  inner_err (Ok x) a e h = absurd cc
  inner_err (Err f) a e h = cc

  pub ahead_fails : (ts : List Token) (e : Fault) → ahead_read c d q ts ≡ Err e
      → Fails (ahead_text c d q) (ahead_read c d q) ts e
  ahead_fails ts e h =
      elim (bind_err (one_at c.want ts) (ahead_rest c d q) e h) [
        | inl first ↦ ahead_first ts e (one_fails c ts e first)
        | inr x ↦ second x.0.0 x.0.1 (one_stands c ts x.0.0 x.0.1 x.1) (starts d.among x.0.1) refl x.2
      ]
    where
      second : (a : A) (rest : List Token) → Stands (one_text c) [] ts a rest → (b : Bool) → starts d.among rest ≡ b
          → unless b (fault_at refused (suc (length rest))) (to_inl {Y = Y} a (q.read rest)) ≡ Err e
          → Fails (ahead_text c d q) (ahead_read c d q) ts e
      second a rest s true w h =
          let is : fault_at refused (suc (length rest)) ≡ e = cc in
          subst (Fails (ahead_text c d q) (ahead_read c d q) ts) is
          (subst (λ (l : List Token). Fails (ahead_text c d q) (ahead_read c d q) l
          (fault_at refused (suc (length rest)))) (sym s.parts) (ahead_here a rest w))
      second a rest s false w h = ahead_second ts e a rest s w (q.fails rest e (inner_err (q.read rest) a e h))

  abbrev pub ahead : Parser ((A × B) ⊎ (A × Y))
  ahead = record {
    text = ahead_text c d q;
    read = ahead_read c d q;
    first = c.among;
    goes = q.goes;
    some = inl (c.example, q.some);
    some_clean = (refl, q.some_clean);
    begins = ahead_begins;
    stands = ahead_stands;
    again = ahead_again;
    fails = ahead_fails;
  }
