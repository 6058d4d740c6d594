-- Repetitions: P {Q}, and {P} Q.
use Rattle.std.proofs.Common.{◌≡◌, ℕ, zero, suc, ◌≤◌, Bool, true, false, List, [], ◌∷◌, ◌++◌, length, Option}
use Rattle.std.proofs.Common.{Result, Ok, Err, refl, sym, ap, subst, ◌∙◌, arith, inl, inr}
use Rattle.std.proofs.lemmas.List.{append-nil, length-append}
use Rattle.fcl_tokens.specs.declared.token.Token.{Token}
use Rattle.fcl_syntax.specs.declared.fault.Fault.{Fault}
use Rattle.fcl_syntax.specs.{Annotations.Sym, Annotations.tokens_of, Annotations.IsClean, Grammar.each}
use Rattle.fcl_syntax.specs.Readers.{◌>>=◌, starts, with_front, turn, loop}
use Rattle.fcl_syntax.proofs.Parser.{disjoint, Stops, Starts, first_annotation, answer, Fails, Parser}
use Rattle.fcl_syntax.proofs.AnnotatedTexts.{bind_ok, bind_err, ok_is, tokens_of-append-rest, parts_joined}
use Rattle.fcl_syntax.proofs.AnnotatedTexts.{IsClean-append, clean_back, clean_front, clean_read}
use Rattle.fcl_syntax.proofs.AnnotatedTexts.{first_annotation-append-rest, answer-bind, starts-stops}
use Rattle.fcl_syntax.proofs.Small.{starts-is}

module _ {A : Type 0} (p : Parser A) where
  abbrev pub texts : List A → List Sym
  texts items = each p.text items

  -- while there are any, at most n
  abbrev pub rep : ℕ → List Token → Result (List A × List Token) Fault
  rep n ts = loop p.first p.read n ts

starts-nil : (first : List ℕ) (ts : List Token) → length ts ≤ 0 → starts first ts ≡ false
starts-nil first [] h = refl
starts-nil first (x ∷ xs) h = absurd (omega arith)

longer : (first : List ℕ) (front rest : List Token) → Starts first front → suc (length rest) ≤ length (front ++ rest)
longer first [] rest h = absurd h
longer first (x ∷ xs) rest h = omega (arith, length-append xs rest)

-- behind items a rest does not go on with the last of them
abbrev pub Settled : {A : Type 0} → List ℕ → List A → List Token → Type 0
Settled goes [] rest = Unit {0}
Settled goes (a ∷ items) rest = Stops goes rest

pub all_settled : {A : Type 0} (goes : List ℕ) (items : List A) (rest : List Token) → Stops goes rest
    → Settled goes items rest
all_settled goes [] rest s = tt
all_settled goes (a ∷ items) rest s = s

pub record Ran {A : Type 0} (p : Parser A) (ts : List Token) (items : List A) (rest : List Token) : Type 0 where
  pub parts : ts ≡ tokens_of (texts p items) ++ rest
  pub clean : IsClean (texts p items)
  pub ends : starts p.first rest ≡ false
  pub stops : Settled p.goes items rest

pub record FailsIn {A : Type 0} (p : Parser A) (ts : List Token) (e : Fault) : Type 0 where
  pub before : List A
  pub clean : IsClean (texts p before)
  pub ts' : List Token
  pub parts : ts ≡ tokens_of (texts p before) ++ ts'
  pub begun : starts p.first ts' ≡ true
  pub inner : Fails p.text p.read ts' e

module _ {A : Type 0} (p : Parser A) (apart : disjoint p.goes p.first ≡ true) where
  pub starts-Starts : (ts : List Token) → starts p.first ts ≡ true → Starts p.first ts
  starts-Starts [] h = absurd cc
  starts-Starts (x ∷ xs) h = h

  begins_alone : (a : A) → Starts p.first (tokens_of (p.text a))
  begins_alone a = subst (Starts p.first) (append-nil (tokens_of (p.text a))) (p.begins a [])

  shorter : (a : A) (rest : List Token) (n : ℕ) → length (tokens_of (p.text a) ++ rest) ≤ suc n → length rest ≤ n
  shorter a rest n h = omega (arith, longer p.first (tokens_of (p.text a)) rest (begins_alone a))

  -- one item has a token at least
  none_within : (a : A) (items : List A) (rest : List Token) → length (tokens_of (texts p (a ∷ items)) ++ rest) ≤ 0 → ⊥
  none_within a items rest h = omega (
    arith,
    ap length (tokens_of-append-rest (p.text a) (texts p items) rest),
    longer p.first (tokens_of (p.text a)) (tokens_of (texts p items) ++ rest) (begins_alone a),
    h,
  )

  with_front_ok : (a : A) (r : Result (List A × List Token) Fault) (items : List A) (rest : List Token)
      → with_front a r ≡ Ok (items, rest) → (bs : List A) ×
      (r ≡ Ok (bs, rest)) × (items ≡ a ∷ bs)
  with_front_ok a (Ok x) items rest h =
      let e = ok_is (a ∷ x.0, x.1) (items, rest) h in (
        x.0,
        ap (λ (l : List Token). Ok (x.0, l)) (ap (λ (z : List A × List Token). z.1) e),
        sym (ap (λ (z : List A × List Token). z.0) e),
      )
  with_front_ok a (Err d) items rest h = absurd cc

  settle : (items : List A) (ts rest : List Token) → ts ≡ tokens_of (texts p items) ++ rest → Stops p.goes ts
      → Settled p.goes items rest → Stops p.goes rest
  settle [] ts rest e s h = subst (Stops p.goes) e s
  settle (a ∷ items) ts rest e s h = h

  pub rep_runs : (n : ℕ) (ts : List Token) (items : List A) (rest : List Token) → length ts ≤ n
      → rep p n ts ≡ Ok (items, rest) → Ran p ts items rest
  rep_runs zero ts items rest len h =
      let e = ok_is ([], ts) (items, rest) h in
      subst (λ (z : List A × List Token). Ran p ts z.0 z.1) e
      (record { parts = refl; clean = tt; ends = starts-nil p.first ts len; stops = tt })
  rep_runs (suc n) ts items rest len h = go (rep_runs n) (starts p.first ts) refl h
    where
      go : ((ts : List Token) (items : List A) (rest : List Token) → length ts ≤ n → rep p n ts ≡ Ok (items, rest)
          → Ran p ts items rest) → (b : Bool)
          → starts p.first ts ≡ b → turn b (p.read ts >>= λ a. with_front a.0 (rep p n a.1)) ts ≡ Ok (items, rest)
          → Ran p ts items rest
      go again false w h =
          let e = ok_is ([], ts) (items, rest) h in
          subst (λ (z : List A × List Token). Ran p ts z.0 z.1) e
          (record { parts = refl; clean = tt; ends = w; stops = tt })
      go again true w h =
          let x = bind_ok (p.read ts) (λ a. with_front a.0 (rep p n a.1)) (items, rest) h in
          let s = p.stands ts x.0.0 x.0.1 x.1 in
          let y = with_front_ok x.0.0 (rep p n x.0.1) items rest x.2 in
          let len' : length x.0.1 ≤ n =
          shorter x.0.0 x.0.1 n (subst (λ (l : List Token). length l ≤ suc n) s.parts len) in
          let r = again x.0.1 y.0 rest len' y.1 in
          let whole : Ran p ts (x.0.0 ∷ y.0) rest = record {
            parts = parts_joined (p.text x.0.0) (texts p y.0) rest s.parts r.parts;
            clean = IsClean-append (p.text x.0.0) (texts p y.0) s.clean r.clean;
            ends = r.ends;
            stops = settle y.0 x.0.1 rest r.parts s.stops r.stops;
          } in
          subst (λ (z : List A). Ran p ts z rest) (sym y.2) whole

  pub rep_ends : (n : ℕ) (rest : List Token) → starts p.first rest ≡ false → rep p n rest ≡ Ok ([], rest)
  rep_ends zero rest h = refl
  rep_ends (suc n) rest h = rw h refl

  pub stops_before : (items : List A) (rest : List Token) → Stops p.goes rest
      → Stops p.goes (tokens_of (texts p items) ++ rest)
  stops_before [] rest stops = stops
  stops_before (b ∷ bs) rest stops =
      starts-stops p.goes p.first (tokens_of (texts p (b ∷ bs)) ++ rest) apart
      (subst (Starts p.first) (sym (tokens_of-append-rest (p.text b) (texts p bs) rest))
      (p.begins b (tokens_of (texts p bs) ++ rest)))

  -- the items of a text, and then anything
  pub rep_again : (n : ℕ) (items : List A) (rest : List Token) → length (tokens_of (texts p items) ++ rest) ≤ n
      → starts p.first rest ≡ false
      → Settled p.goes items rest
      → rep p n (tokens_of (texts p items) ++ rest) ≡ answer (first_annotation (texts p items) (length rest)) items rest
  rep_again n [] rest len ends stops = rep_ends n rest ends
  rep_again zero (a ∷ items) rest len ends stops = absurd (none_within a items rest len)
  rep_again (suc n) (a ∷ items) rest len ends stops =
      let after : List Token = tokens_of (texts p items) ++ rest in
      let regrouped = tokens_of-append-rest (p.text a) (texts p items) rest in
      let len' : length after ≤ n = shorter a after n (subst (λ (l : List Token). length l ≤ suc n) regrouped len) in
      let hp = p.again a after (stops_before items rest stops) in
      let hr = rep_again n items rest len' ends (all_settled p.goes items rest stops) in
      ap (rep p (suc n)) regrouped
      ∙ ap (λ (b : Bool). turn b (p.read (tokens_of (p.text a) ++ after) >>= λ a. with_front a.0 (rep p n a.1))
      (tokens_of (p.text a) ++ after))
      (starts-is p.first (tokens_of (p.text a) ++ after) (p.begins a after))
      ∙ ap (λ (r : Result (A × List Token) Fault). r >>= λ a. with_front a.0 (rep p n a.1)) hp
      ∙ answer-bind (rep p n) (λ a items. a ∷ items) (first_annotation (p.text a) (length after))
      (first_annotation (texts p items) (length rest)) a items after rest hr
      ∙ ap (λ (m : Option Fault). answer m (a ∷ items) rest)
      (sym (first_annotation-append-rest (p.text a) (texts p items) rest))

  -- items, and then what fails
  pub rep_local : (n : ℕ) (items : List A) (rest : List Token) (d : Fault)
      → length (tokens_of (texts p items) ++ rest) ≤ n → IsClean (texts p items)
      → starts p.first rest ≡ true → p.read rest ≡ Err d
      → rep p n (tokens_of (texts p items) ++ rest) ≡ Err d
  rep_local zero [] rest d len clean begun fails = absurd (let no = starts-nil p.first rest len in cc)
  rep_local (suc n) [] rest d len clean begun fails = rw (begun, fails) refl
  rep_local zero (a ∷ items) rest d len clean begun fails = absurd (none_within a items rest len)
  rep_local (suc n) (a ∷ items) rest d len clean begun fails =
      let after : List Token = tokens_of (texts p items) ++ rest in
      let regrouped = tokens_of-append-rest (p.text a) (texts p items) rest in
      let len' : length after ≤ n = shorter a after n (subst (λ (l : List Token). length l ≤ suc n) regrouped len) in
      let hp = clean_read p a after (clean_front (p.text a) (texts p items) clean)
      (stops_before items rest (starts-stops p.goes p.first rest apart (starts-Starts rest begun))) in
      let hr = rep_local n items rest d len' (clean_back (p.text a) (texts p items) clean) begun fails in
      ap (rep p (suc n)) regrouped
      ∙ ap (λ (b : Bool). turn b (p.read (tokens_of (p.text a) ++ after) >>= λ a. with_front a.0 (rep p n a.1))
      (tokens_of (p.text a) ++ after))
      (starts-is p.first (tokens_of (p.text a) ++ after) (p.begins a after))
      ∙ ap (λ (r : Result (A × List Token) Fault). r >>= λ a. with_front a.0 (rep p n a.1)) hp
      ∙ ap (λ (r : Result (List A × List Token) Fault). with_front a r) hr

  with_front_err : (a : A) (r : Result (List A × List Token) Fault) (e : Fault) → with_front a r ≡ Err e → r ≡ Err e
  with_front_err a (Ok x) e h = absurd cc
  with_front_err a (Err d) e h = cc

  pub rep_fails : (n : ℕ) (ts : List Token) (e : Fault) → rep p n ts ≡ Err e → FailsIn p ts e
  rep_fails zero ts e h = absurd cc
  rep_fails (suc n) ts e h = go (rep_fails n) (starts p.first ts) refl h
    where
      first_of : (first : p.read ts ≡ Err e) → starts p.first ts ≡ true → FailsIn p ts e
      first_of first w = record
          { before = []; clean = tt; ts' = ts; parts = refl; begun = w; inner = p.fails ts e first }

      more_of : (a : A) (rest : List Token) → p.read ts ≡ Ok (a, rest) → FailsIn p rest e → FailsIn p ts e
      more_of a rest h f =
          let s = p.stands ts a rest h in
          record {
            before = a ∷ f.before;
            clean = IsClean-append (p.text a) (texts p f.before) s.clean f.clean;
            ts' = f.ts';
            parts = parts_joined (p.text a) (texts p f.before) f.ts' s.parts f.parts;
            begun = f.begun;
            inner = f.inner;
          }

      go : ((ts : List Token) (e : Fault) → rep p n ts ≡ Err e → FailsIn p ts e) → (b : Bool) → starts p.first ts ≡ b
          → turn b (p.read ts >>= λ a. with_front a.0 (rep p n a.1)) ts ≡ Err e → FailsIn p ts e
      go again false w h = absurd cc
      go again true w h =
          elim (bind_err (p.read ts) (λ a. with_front a.0 (rep p n a.1)) e h) [
            | inl first ↦ first_of first w
            | inr x ↦ more_of x.0.0 x.0.1 x.1 (again x.0.1 e (with_front_err x.0.0 (rep p n x.0.1) e x.2))
          ]
