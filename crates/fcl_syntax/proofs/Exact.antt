-- A parser's reader answers the tree, or the first fault.
use Rattle.std.proofs.Common.{◌≡◌, ℕ, suc, ◌+◌, ◌≤◌, Bool, true, false, List, [], ◌∷◌, ◌++◌, length, Option, Some, None}
use Rattle.std.proofs.Common.{Result, Ok, Err, refl, sym, ap, subst, ◌∙◌, append_assoc, arith, inl, inr, ◌⊎◌}
use Rattle.std.proofs.lemmas.List.{append-nil, length-append}
use Rattle.std.proofs.lemmas.Bool.{cases_lt}
use Rattle.fcl_tokens.specs.declared.token.Token.{Token}
use Rattle.fcl_syntax.specs.declared.{fault.Fault.Fault, fault.Kind.Kind}
use Rattle.fcl_syntax.specs.Annotations.{Sym, tokens_of, IsClean, plain, annotated, Spells}
use Rattle.fcl_syntax.specs.First.{looks_on, SameNext, SameHead, Shown, IsAnnotation, IsPlain, IsPlainAnnotation}
use Rattle.fcl_syntax.specs.First.{Begins, NoTextHas, NoAnnotation, Here, FirstFault}
use Rattle.fcl_syntax.specs.Readers.{ended, ◌>>=◌, fault_at}
use Rattle.fcl_syntax.specs.declared.fault.Kind.TheVariants.{Expected, Deep, Unsupported}
use Rattle.fcl_syntax.proofs.Parser.{Stops, annotation_at, first_annotation, answer, Stands, Viable, Fails, Parser}
use Rattle.fcl_syntax.proofs.AnnotatedTexts.{bind_ok, bind_err, ok_is, tokens_of-append, length-tokens}
use Rattle.fcl_syntax.proofs.AnnotatedTexts.{first_annotation-clean, clean_read, not_both, same_err}

abbrev pub whole : {T : Type 0} → Parser T → List Token → Result T Fault
whole p ts = p.read ts >>= ended

clean_annotation : (m : Option Kind) → m ≡ None → IsPlainAnnotation m
clean_annotation None e = tt
clean_annotation (Some k) e = absurd cc

pub clean_plain : (s : List Sym) → IsClean s → IsPlain s
clean_plain [] h = tt
clean_plain (x ∷ s) h = (clean_annotation x.annotation h.0, clean_plain s h.1)

pub begins_of : {T : Type 0} (text : T → List Sym) (front : List Token) → Viable text front → Begins text front
begins_of text front v =
    record { tree = v.tree; more = v.more; plain = clean_plain (text v.tree) v.clean; parts = v.parts }

-- the first annotation of a text of the grammar is Deep
pub first_annotation-plain : (s : List Sym) (n : ℕ) (e : Fault) → IsPlain s → first_annotation s n ≡ Some e
    → e.kind ≡ Deep
first_annotation-plain [] n e h w = absurd cc
first_annotation-plain (x ∷ s) n e h w = go (first_annotation-plain s n e h.1) x.annotation h.0 w
  where
    go : (first_annotation s n ≡ Some e → e.kind ≡ Deep) → (m : Option Kind) → IsPlainAnnotation m
        → annotation_at m (suc (length s + n)) (first_annotation s n) ≡ Some e → e.kind ≡ Deep
    go rest None a b = rest b
    go rest (Some Expected) a b = absurd a
    go rest (Some Deep) a b = let is : fault_at Deep (suc (length s + n)) ≡ e = cc in
        ap (λ (f : Fault). f.kind) (sym is)
    go rest (Some (Unsupported c)) a b = absurd a

-- one of two splits of a list is the longer
data Splits (a b c d : List Token) : Type 0 where
  same : a ≡ c → b ≡ d → Splits a b c d
  longer : (y : Token) (g : List Token) → c ≡ a ++ y ∷ g → b ≡ y ∷ (g ++ d) → Splits a b c d

split_cons : (x : Token) (a b c d : List Token) → Splits a b c d → Splits (x ∷ a) b (x ∷ c) d
split_cons x a b c d (same p q) = same (ap (λ (l : List Token). x ∷ l) p) q
split_cons x a b c d (longer y g p q) = longer y g (ap (λ (l : List Token). x ∷ l) p) q

splits : (a b c d : List Token) → a ++ b ≡ c ++ d → length d ≤ length b → Splits a b c d
splits [] b [] d e h = same refl e
splits [] b (y ∷ c) d e h = longer y c refl e
splits (x ∷ a) b [] d e h = absurd (omega (arith, ap length e, length-append a b))
splits (x ∷ a) b (y ∷ c) d e h =
    let heads : x ≡ y = cc in
    let tails : a ++ b ≡ c ++ d = cc in
    subst (λ (z : Token). Splits (x ∷ a) b (z ∷ c) d) heads (split_cons x a b c d (splits a b c d tails h))

-- a text with an annotation is refused there, or earlier
first_annotation-has : (before : List Sym) (k : Kind) (x : Token) (after : List Sym) → (e : Fault) ×
    (first_annotation (before ++ annotated k x ∷ after) 0 ≡ Some e)
    × ((suc (suc (length after)) ≤ e.left) ⊎ (e ≡ fault_at k (suc (length after))))
first_annotation-has [] k x after = (
  fault_at k (suc (length after + 0)),
  refl,
  inr (let n : length after + 0 ≡ length after = omega arith in ap (λ (m : ℕ). fault_at k (suc m)) n),
)
first_annotation-has (s ∷ before) k x after = go s.annotation (first_annotation-has before k x after)
  where
    go : (m : Option Kind) → (e : Fault) × (first_annotation (before ++ annotated k x ∷ after) 0 ≡ Some e) ×
        ((suc (suc (length after)) ≤ e.left) ⊎ (e ≡ fault_at k (suc (length after))))
        → (e : Fault) × (annotation_at m (suc (length (before ++ annotated k x ∷ after) + 0))
        (first_annotation (before ++ annotated k x ∷ after) 0) ≡ Some e) ×
        ((suc (suc (length after)) ≤ e.left) ⊎ (e ≡ fault_at k (suc (length after))))
    go None h = h
    go (Some j) h = (
      fault_at j (suc (length (before ++ annotated k x ∷ after) + 0)),
      refl,
      inl (omega (arith, length-append before (annotated k x ∷ after))),
    )

SameNext-after : (l : Bool) (k : Kind) (g : List Token) (x : Token) (a b : List Token) → SameHead k (x ∷ a) b
    → SameNext l (g ++ x ∷ a) (g ++ b)
SameNext-after false k g x a b s = tt
SameNext-after true k (z ∷ g) x a b s = refl
SameNext-after true k [] x a [] s = absurd s
SameNext-after true k [] x a (y ∷ b) s = s.0

module _ {T : Type 0} (p : Parser T) where
  nothing_stops : Stops p.goes []
  nothing_stops = tt

  read_text : (t : T) → p.read (tokens_of (p.text t)) ≡ answer (first_annotation (p.text t) 0) t []
  read_text t = ap p.read (sym (append-nil (tokens_of (p.text t)))) ∙ p.again t [] nothing_stops

  -- where an annotation is shown, reading fails there with it, or earlier
  refused : (ts front bad : List Token) (k : Kind) → ts ≡ front ++ bad → Shown p.text k front bad
      → (e : Fault) × (p.read ts ≡ Err e) ×
      ((suc (length bad) ≤ e.left) ⊎ (e ≡ fault_at k (length bad)))
  refused ts front bad k parts s =
      let m = first_annotation-has s.before k s.token s.after in
      let read : p.read (tokens_of (p.text s.tree)) ≡ Err m.0 =
      read_text s.tree ∙ ap (λ (o : Option Fault). answer o s.tree [])
      (ap (λ (l : List Sym). first_annotation l 0) s.split ∙ m.1) in
      let f = p.fails (tokens_of (p.text s.tree)) m.0 read in
      let cut : f.front ++ f.bad ≡ front ++ (s.token ∷ tokens_of s.after) = sym f.parts ∙ ap tokens_of s.split
      ∙ tokens_of-append s.before (annotated k s.token ∷ s.after)
      ∙ ap (λ (l : List Token). l ++ (s.token ∷ tokens_of s.after)) s.fronts in
      elim m.2 [
        | inl early ↦ go_early m.0 f
            (splits f.front f.bad front (s.token ∷ tokens_of s.after) cut
            (omega (arith, length-tokens s.after, f.left, early)))
            (omega (arith, length-tokens s.after, f.left, early))
        | inr at ↦ go_at m.0 at f (splits f.front f.bad front (s.token ∷ tokens_of s.after) cut
            (omega (arith, length-tokens s.after, f.left, ap (λ (e : Fault). e.left) at)))
      ]
    where
      go_early : (e : Fault) (f : Fails p.text p.read (tokens_of (p.text s.tree)) e)
          → Splits f.front f.bad front (s.token ∷ tokens_of s.after)
          → suc (length (s.token ∷ tokens_of s.after)) ≤ length f.bad
          → (e : Fault) × (p.read ts ≡ Err e) × ((suc (length bad) ≤ e.left) ⊎ (e ≡ fault_at k (length bad)))
      go_early e f (same a b) long = absurd (omega (arith, ap length b, long))
      go_early e f (longer y g a b) long = (
        fault_at e.kind (length (y ∷ (g ++ bad))),
        ap p.read (parts ∙ ap (λ (l : List Token). l ++ bad) a ∙ append_assoc f.front (y ∷ g) bad)
            ∙ f.local (y ∷ (g ++ bad)) (subst (λ (l : List Token). SameHead e.kind l (y ∷ (g ++ bad))) (sym b)
            (refl, SameNext-after (looks_on e.kind) k g s.token (tokens_of s.after) bad s.same)),
        inl (omega (arith, length-append g bad)),
      )

      go_at : (e : Fault) → e ≡ fault_at k (suc (length s.after))
          → (f : Fails p.text p.read (tokens_of (p.text s.tree)) e)
          → Splits f.front f.bad front (s.token ∷ tokens_of s.after)
          → (e : Fault) × (p.read ts ≡ Err e) × ((suc (length bad) ≤ e.left) ⊎ (e ≡ fault_at k (length bad)))
      go_at e is f (longer y g a b) =
          absurd
          (omega (
            arith,
            f.left,
            ap (λ (e : Fault). e.left) is,
            ap length b,
            length-append g (s.token ∷ tokens_of s.after),
            length-tokens s.after,
          ))
      go_at e is f (same a b) =
          let kind : e.kind ≡ k = ap (λ (e : Fault). e.kind) is in (
            fault_at e.kind (length bad),
            ap p.read (parts ∙ ap (λ (l : List Token). l ++ bad) (sym a)) ∙ f.local bad
                (subst (λ (j : Kind). SameHead j f.bad bad) (sym kind)
                (subst (λ (l : List Token). SameHead k l bad) (sym b) s.same)),
            inr (ap (λ (j : Kind). fault_at j (length bad)) kind),
          )

  kind_not : (k j : Kind) → IsAnnotation k → k ≡ j → j ≡ Expected → ⊥
  kind_not Expected j m a b = m
  kind_not Deep j m a b = cc
  kind_not (Unsupported n) j m a b = cc

  -- ---- yes

  pub whole_spells : (ts : List Token) (t : T) → whole p ts ≡ Ok t → Spells p.text ts t
  whole_spells ts t h =
      let x = bind_ok (p.read ts) ended t h in
      go x.0 (p.stands ts x.0.0 x.0.1 x.1) x.2
    where
      go : (x : T × List Token) → Stands p.text p.goes ts x.0 x.1 → ended x ≡ Ok t → Spells p.text ts t
      go (u, []) s e = let is : u ≡ t = cc in
          subst (Spells p.text ts) is (record { parts = s.parts ∙ append-nil (tokens_of (p.text u)); clean = s.clean })
      go (u, y ∷ rest) s e = absurd cc

  spells_read : (ts : List Token) (t : T) → Spells p.text ts t → p.read ts ≡ Ok (t, [])
  spells_read ts t s = ap p.read s.parts ∙ read_text t
      ∙ ap (λ (o : Option Fault). answer o t []) (first_annotation-clean (p.text t) 0 s.clean)

  pub spells_whole : (ts : List Token) (t : T) → Spells p.text ts t → whole p ts ≡ Ok t
  spells_whole ts t s = ap (λ (r : Result (T × List Token) Fault). r >>= ended) (spells_read ts t s)

  -- ---- no

  no_annotation_ok : (ts : List Token) (x : T × List Token) → p.read ts ≡ Ok x → (f b : List Token) → ts ≡ f ++ b
      → NoAnnotation p.text f b
  no_annotation_ok ts x h f b parts k m s = let r = refused ts f b k parts s in not_both (p.read ts) x r.0 h r.1

  no_annotation_before : (ts : List Token) (e : Fault) → p.read ts ≡ Err e → (f b : List Token) → ts ≡ f ++ b
      → suc e.left ≤ length b → NoAnnotation p.text f b
  no_annotation_before ts e h f b parts lt k m s =
      let r = refused ts f b k parts s in
      let is : r.0 ≡ e = same_err (p.read ts) r.0 e r.1 h in
      elim r.2 [
        | inl a ↦ omega (arith, ap (λ (e : Fault). e.left) is, lt, a)
        | inr b ↦ omega
            (arith, ap (λ (e : Fault). e.left) is, lt, ap (λ (e : Fault). e.left) b)
      ]

  annotation_here : (ts : List Token) (e : Fault) → p.read ts ≡ Err e → (f b : List Token) → ts ≡ f ++ b
      → e.left ≡ length b → (k : Kind) → Shown p.text k f b
      → k ≡ e.kind
  annotation_here ts e h f b parts left k s =
      let r = refused ts f b k parts s in
      let is : r.0 ≡ e = same_err (p.read ts) r.0 e r.1 h in
      elim r.2 [
        | inl a ↦ absurd (omega (arith, ap (λ (e : Fault). e.left) is, left, a))
        | inr b ↦ ap
            (λ (e : Fault). e.kind) (sym b ∙ is)
      ]

  -- a text of the grammar is read, or is too deep
  text_read : (t : T) (r : Result (T × List Token) Fault) → IsPlain (p.text t) → p.read (tokens_of (p.text t)) ≡ r
      → (r ≡ Ok (t, [])) ⊎
      ((e : Fault) × (r ≡ Err e) × (e.kind ≡ Deep))
  text_read t r plain h = go (first_annotation (p.text t) 0) refl (sym (read_text t) ∙ h)
    where
      go : (m : Option Fault) → first_annotation (p.text t) 0 ≡ m → answer m t [] ≡ r
          → (r ≡ Ok (t, [])) ⊎ ((e : Fault) × (r ≡ Err e) × (e.kind ≡ Deep))
      go None w a = inl (sym a)
      go (Some e) w a = inr (e, sym a, first_annotation-plain (p.text t) 0 e plain w)

  not_expected : (t : T) (n : ℕ) → IsPlain (p.text t) → p.read (tokens_of (p.text t)) ≡ Err (fault_at Expected n) → ⊥
  not_expected t n plain h =
      elim (text_read t (Err (fault_at Expected n)) plain h) [
        | inl a ↦ (let b = a in cc)
        | inr a ↦ (let is : fault_at Expected n ≡ a.0 = (let b = a.1 in cc) in
            let kind : Expected ≡ Deep = ap (λ (f : Fault). f.kind) is ∙ a.2 in cc)
      ]

  -- the reading of another text with the same front
  no_text : (ts : List Token) (e : Fault) (f : Fails p.text p.read ts e) → e.kind ≡ Expected
      → NoTextHas p.text f.front f.bad
  no_text ts e f is = go f.bad refl
    where
      go : (bad : List Token) → f.bad ≡ bad → NoTextHas p.text f.front bad
      go [] b = λ t plain parts.
          let err = f.local []
          (subst (λ (k : Kind). SameHead k f.bad []) (sym is)
          (subst (λ (l : List Token). SameHead Expected l []) (sym b) tt)) in
          not_expected t 0 plain
          (ap p.read (sym parts ∙ sym (append-nil f.front)) ∙ err ∙ ap (λ (k : Kind). Err (fault_at k 0)) is)
      go (x ∷ bad) b = λ v.
          let same : SameHead e.kind f.bad (x ∷ v.more) =
          subst (λ (k : Kind). SameHead k f.bad (x ∷ v.more)) (sym is)
          (subst (λ (l : List Token). SameHead Expected l (x ∷ v.more)) (sym b) (refl, tt)) in
          let parts : tokens_of (p.text v.tree) ≡ f.front ++ (x ∷ v.more) =
          v.parts ∙ append_assoc f.front (x ∷ []) v.more in
          not_expected v.tree (length (x ∷ v.more)) v.plain (ap p.read parts ∙ f.local (x ∷ v.more) same
          ∙ ap (λ (k : Kind). Err (fault_at k (length (x ∷ v.more)))) is)

  no_text_after : (ts : List Token) (t : T) (x : Token) (rest : List Token) → Stands p.text p.goes ts t (x ∷ rest)
      → NoTextHas p.text (tokens_of (p.text t)) (x ∷ rest)
  no_text_after ts t x rest s v =
      let parts : tokens_of (p.text v.tree) ≡ tokens_of (p.text t) ++ (x ∷ v.more) =
      v.parts ∙ append_assoc (tokens_of (p.text t)) (x ∷ []) v.more in
      let two = clean_read p t (x ∷ v.more) s.clean s.stops in
      elim (text_read v.tree (Ok (t, x ∷ v.more)) v.plain (ap p.read parts ∙ two)) [
        | inl a ↦
            (let rests : (x ∷ v.more) ≡ [] = ap (λ (z : T × List Token). z.1) (ok_is (t, x ∷ v.more) (v.tree, []) a) in
            cc)
        | inr a ↦ (let b = a.1 in cc)
      ]

  before_of : (ts : List Token) (front bad : List Token) → ts ≡ front ++ bad
      → ((f b : List Token) → ts ≡ f ++ b → suc (length bad) ≤ length b
      → NoAnnotation p.text f b)
      → (f b : List Token) (y : Token) (g : List Token) → front ≡ f ++ y ∷ g → b ≡ y ∷ (g ++ bad)
      → NoAnnotation p.text f b
  before_of ts front bad parts none f b y g a c =
      none f b (parts ∙ ap (λ (l : List Token). l ++ bad) a ∙ append_assoc f (y ∷ g) bad
      ∙ ap (λ (l : List Token). f ++ l) (sym c))
      (omega (arith, ap length c, length-append g bad))

  here_of : (ts : List Token) (k : Kind) (n : ℕ) (h : p.read ts ≡ Err (fault_at k n))
      (f : Fails p.text p.read ts (fault_at k n)) → Here p.text k f.front f.bad
  here_of ts Expected n h f = (
    no_text ts (fault_at Expected n) f refl,
    λ k m s. kind_not k Expected m
        (annotation_here ts (fault_at Expected n) h f.front f.bad f.parts f.left k s) refl,
  )
  here_of ts Deep n h f = f.shows
  here_of ts (Unsupported c) n h f = (
    f.shows,
    λ s. let k = annotation_here ts (fault_at (Unsupported c) n) h f.front f.bad f.parts f.left Deep s in
        cc,
  )

  pub whole_faults : (ts : List Token) (e : Fault) → whole p ts ≡ Err e → FirstFault p.text ts e
  whole_faults ts e h =
      elim (bind_err (p.read ts) ended e h) [
        | inl a ↦ inner a
        | inr x ↦ trailing x.0 x.1 (p.stands ts x.0.0 x.0.1 x.1) x.2
      ]
    where
      inner : p.read ts ≡ Err e → FirstFault p.text ts e
      inner a =
          let f = p.fails ts e a in
          record {
            front = f.front;
            bad = f.bad;
            parts = f.parts;
            left = f.left;
            viable = begins_of p.text f.front f.viable;
            here = here_of ts e.kind e.left a f;
            before = before_of ts f.front f.bad f.parts
                (λ g b parts lt. no_annotation_before ts e a g b parts (omega (arith, f.left, lt)));
          }

      trailing : (x : T × List Token) → p.read ts ≡ Ok x → Stands p.text p.goes ts x.0 x.1 → ended x ≡ Err e
          → FirstFault p.text ts e
      trailing (t, []) a s k = absurd cc
      trailing (t, y ∷ rest) a s k =
          let is : fault_at Expected (suc (length rest)) ≡ e = cc in
          let none : (f b : List Token) → ts ≡ f ++ b → NoAnnotation p.text f b = no_annotation_ok ts (t, y ∷ rest) a in
          subst (FirstFault p.text ts) is (record {
            front = tokens_of (p.text t);
            bad = y ∷ rest;
            parts = s.parts;
            left = refl;
            viable = record {
              tree = t;
              more = [];
              plain = clean_plain (p.text t) s.clean;
              parts =
                  sym (append-nil (tokens_of (p.text t)));
            };
            here = (no_text_after ts t y rest s, none (tokens_of (p.text t)) (y ∷ rest) s.parts);
            before = before_of ts (tokens_of (p.text t)) (y ∷ rest) s.parts (λ f b parts lt. none f b parts);
          })

  -- ---- there is one first fault, and none in a text

  pub fault_not_text : (ts : List Token) (e : Fault) (t : T) → FirstFault p.text ts e → Spells p.text ts t → ⊥
  fault_not_text ts e t f s = go e.kind f.here f.bad refl
    where
      annotated_no : (k : Kind) → Shown p.text k f.front f.bad → ⊥
      annotated_no k h =
          let r = refused ts f.front f.bad k f.parts h in
          not_both (p.read ts) (t, []) r.0 (spells_read ts t s) r.1

      go : (k : Kind) → Here p.text k f.front f.bad → (bad : List Token) → f.bad ≡ bad → ⊥
      go Expected h [] b =
          let no : NoTextHas p.text f.front [] = subst (NoTextHas p.text f.front) b h.0 in
          no t (clean_plain (p.text t) s.clean)
          (sym (append-nil f.front) ∙ ap (λ (l : List Token). f.front ++ l) (sym b) ∙ sym f.parts ∙ s.parts)
      go Expected h (x ∷ bad) b =
          let no : NoTextHas p.text f.front (x ∷ bad) = subst (NoTextHas p.text f.front) b h.0 in
          no (record {
            tree = t;
            more = bad;
            plain = clean_plain (p.text t) s.clean;
            parts = sym s.parts ∙ f.parts ∙ ap (λ (l : List Token). f.front ++ l) b
                ∙ sym (append_assoc f.front (x ∷ []) bad);
          })
      go Deep h bad b = annotated_no Deep h
      go (Unsupported n) h bad b = annotated_no (Unsupported n) h.0

  not_later : (ts : List Token) (e d : Fault) (f : FirstFault p.text ts e) (g : FirstFault p.text ts d)
      → suc (length g.bad) ≤ length f.bad → ⊥
  not_later ts e d f g lt = at (splits f.front f.bad g.front g.bad (sym f.parts ∙ g.parts) (omega arith))
    where
      go : (k : Kind) → Here p.text k f.front f.bad → (y : Token) (r : List Token) → g.front ≡ f.front ++ y ∷ r
          → f.bad ≡ y ∷ (r ++ g.bad) → ⊥
      go Expected h y r a b =
          let no : NoTextHas p.text f.front (y ∷ (r ++ g.bad)) = subst (NoTextHas p.text f.front) b h.0 in
          let v = g.viable in
          no (record {
            tree = v.tree;
            more = r ++ v.more;
            plain = v.plain;
            parts = v.parts ∙ ap (λ (l : List Token). l ++ v.more) a
                ∙ append_assoc f.front (y ∷ r) v.more ∙ sym (append_assoc f.front (y ∷ []) (r ++ v.more));
          })
      go Deep h y r a b = g.before f.front f.bad y r a b Deep tt h
      go (Unsupported n) h y r a b = g.before f.front f.bad y r a b (Unsupported n) tt h.0

      at : Splits f.front f.bad g.front g.bad → ⊥
      at (same a b) = omega (arith, ap length b, lt)
      at (longer y r a b) = go e.kind f.here y r a b

  -- where two annotations are shown at the place of a first fault, they are one
  one_annotation : (ts : List Token) (d : Fault) (g : FirstFault p.text ts d) (k j : Kind)
      → Shown p.text k g.front g.bad → Shown p.text j g.front g.bad → k ≡ j
  one_annotation ts d g k j a b =
      let r = refused ts g.front g.bad k g.parts a in
      let s = refused ts g.front g.bad j g.parts b in
      let is : r.0 ≡ s.0 = same_err (p.read ts) r.0 s.0 r.1 s.1 in
      let read_err : whole p ts ≡ Err r.0 = ap (λ (x : Result (T × List Token) Fault). x >>= ended) r.1 in
      let f = whole_faults ts r.0 read_err in
      elim r.2 [
        | inl early ↦ absurd (not_later ts r.0 d f g (omega (arith, f.left, early)))
        | inr here ↦ elim s.2 [
          | inl early ↦ absurd (omega (arith, early, ap (λ (x : Fault). x.left) is, ap (λ (x : Fault). x.left) here))
          | inr there ↦ ap (λ (x : Fault). x.kind) (sym here ∙ is ∙ there)
        ]
      ]

  same_kind : (ts : List Token) (d : Fault) (g : FirstFault p.text ts d) (k j : Kind) → Here p.text k g.front g.bad
      → Here p.text j g.front g.bad → k ≡ j
  same_kind ts d g Expected Expected a b = refl
  same_kind ts d g Expected Deep a b = absurd (a.1 Deep tt b)
  same_kind ts d g Expected (Unsupported n) a b = absurd (a.1 (Unsupported n) tt b.0)
  same_kind ts d g Deep Expected a b = absurd (b.1 Deep tt a)
  same_kind ts d g Deep Deep a b = refl
  same_kind ts d g Deep (Unsupported n) a b = absurd (b.1 a)
  same_kind ts d g (Unsupported n) Expected a b = absurd (b.1 (Unsupported n) tt a.0)
  same_kind ts d g (Unsupported n) Deep a b = absurd (a.1 b)
  same_kind ts d g (Unsupported n) (Unsupported m) a b = one_annotation ts d g (Unsupported n) (Unsupported m) a.0 b.0

  pub one_fault : (ts : List Token) (e d : Fault) → FirstFault p.text ts e → FirstFault p.text ts d → e ≡ d
  one_fault ts e d f g =
      elim (cases_lt (length g.bad) (length f.bad)) [
        | inl lt ↦ absurd (not_later ts e d f g lt)
        | inr le ↦ elim (cases_lt (length f.bad) (length g.bad)) [
          | inl lt ↦ absurd (not_later ts d e g f lt)
          | inr ge ↦ at (splits f.front f.bad g.front g.bad (sym f.parts ∙ g.parts) ge) (omega (arith, le, ge))
        ]
      ]
    where
      at : Splits f.front f.bad g.front g.bad → length f.bad ≡ length g.bad → e ≡ d
      at (longer y r a b) len = absurd (omega (arith, ap length b, len, length-append r g.bad))
      at (same a b) len =
          let moved : Here p.text e.kind g.front g.bad =
          subst (λ (l : List Token). Here p.text e.kind l g.bad) a
          (subst (λ (l : List Token). Here p.text e.kind f.front l) b f.here) in
          let kind : e.kind ≡ d.kind = same_kind ts d g e.kind d.kind moved g.here in
          let left : e.left ≡ d.left = omega (arith, f.left, g.left, len) in
          ap (λ (k : Kind). fault_at k e.left) kind ∙ ap (λ (n : ℕ). fault_at d.kind n) left

  pub faults_whole : (ts : List Token) (e : Fault) → FirstFault p.text ts e → whole p ts ≡ Err e
  faults_whole ts e f = go (whole p ts) refl
    where
      go : (r : Result T Fault) → whole p ts ≡ r → r ≡ Err e
      go (Ok t) h = absurd (fault_not_text ts e t f (whole_spells ts t h))
      go (Err d) h = ap (λ (x : Fault). Err x) (one_fault ts d e (whole_faults ts d h) f)
