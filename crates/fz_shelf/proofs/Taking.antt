-- A text that is put into a sink piece by piece.
use Rattle.std.proofs.Common.{get_or, subst, ◌∷◌, ◌≡◌, ◌≤◌, ◌<◌, ◌+◌, ◌-◌, ℕ, List, [], ◌++◌, length, take, drop}
use Rattle.std.proofs.Common.{refl, sym, ◌∙◌, ap, ap₂, arith, length-append, append_assoc, take-append-drop}
use Rattle.std.specs.List.{concat}
use Rattle.std.specs.Prelude.{Option, Some, None, Result, Ok, Err, IsErr, OnErr, OnOk}
use Rattle.std.proofs.lemmas.List.{append-nil, drop_more, take_more, take_rest}
use Rattle.fz_shelf.specs.{Faults.Rose, Lines.GainedLines, Puts.Puts}
use Rattle.fz_shelf.specs.Told.{SinkTold, Taken, gained, GainedShort, HasRoom}

abbrev told_as : List ℕ → ℕ → Option Taken
told_as b r = Some (record { bytes = b; room = r })

pub gained-nil : (t : Option Taken) → gained t [] ≡ t
gained-nil None = refl
gained-nil (Some t) = ap₂ told_as (append-nil t.bytes) (omega arith)

pub gained-append : (t : Option Taken) (a b : List ℕ) → gained (gained t a) b ≡ gained t (a ++ b)
gained-append None a b = refl
gained-append (Some t) a b = ap₂ told_as (append_assoc t.bytes a b) (omega (arith, length-append a b))

room_behind : (t : Option Taken) (front text : List ℕ) → HasRoom t (length (front ++ text))
    → HasRoom (gained t front) (length text)
room_behind None front text room = room
room_behind (Some t) front text room = let fits : length (front ++ text) ≤ t.room = room in
    omega (arith, length-append front text)

room_before : (t : Option Taken) (front text : List ℕ) → HasRoom t (length (front ++ text)) → HasRoom t (length front)
room_before None front text room = room
room_before (Some t) front text room = let fits : length (front ++ text) ≤ t.room = room in
    omega (arith, length-append front text)

on_ok : {E : Type 0} {P Q : Type 0} (r : Result Unit E) → (P → Q) → OnOk r P → OnOk r Q
on_ok {E} {P} {Q} (Ok x) to h = to h
on_ok {E} {P} {Q} (Err e) to h = h

on_err : {E : Type 0} {P Q : Type 0} (r : Result Unit E) → (P → Q) → OnErr r P → OnErr r Q
on_err {E} {P} {Q} (Ok x) to h = h
on_err {E} {P} {Q} (Err e) to h = to h

-- how far a put of the whole text has come
pub record Putting (old now : Option Taken) (bytes rest : List ℕ) : Type 0 where
  pub part : List ℕ
  pub split : part ++ rest ≡ bytes
  pub told : now ≡ gained old part

pub begun : (old : Option Taken) (bytes : List ℕ) → Putting old old bytes bytes
begun old bytes = record { part = []; split = refl; told = sym (gained-nil old) }

pub goes_on : {old now : Option Taken} {bytes rest : List ℕ} → Putting old now bytes rest
    → (n : ℕ) (next : Option Taken) → next ≡ gained now (take n rest)
    → Putting old next bytes (take (length rest - n) (drop n rest))
goes_on {old} {now} {bytes} {rest} p n next told = rw take_rest record {
  part = p.part ++ take n rest;
  split = append_assoc p.part (take n rest) (drop n rest)
      ∙ ap (λ (l : List ℕ). p.part ++ l) (take-append-drop n rest) ∙ p.split;
  told = told ∙ ap (λ (t : Option Taken). gained t (take n rest)) p.told ∙ gained-append old p.part (take n rest);
}

-- ---- whole texts, one behind another

module _ {V E : Type 0} {told : V → SinkTold} {reliable : V → Type 0} where
  pub puts_nothing : (v : V) → Puts {E = E} told reliable v v [] (Ok tt)
  puts_nothing v =
      let none = sym (gained-nil (told v).taken) in
      record {
        whole = none;
        part = record { part = []; rest = []; split = refl; told = none };
        cause = record { later = omega arith; stays = refl; failed = tt };
        keeps = λ s. s;
        steady = λ s room. refl;
      }

  module _ {front : List ℕ} {v v' : V} where
    -- the first text is put, and then the second, or not
    pub puts_behind : {text : List ℕ} {v'' : V} → Puts {E = E} told reliable v v' front (Ok tt) → (r : Result Unit E)
        → Puts told reliable v' v'' text r → Puts told reliable v v'' (front ++ text) r
    puts_behind {text} {v''} first r second = record {
      whole = on_ok r (λ is. is ∙ ap (λ (t : Option Taken). gained t text) first.whole
          ∙ gained-append (told v).taken front text)
          second.whole;
      part = record {
        part = front ++ second.part.part;
        rest = second.part.rest;
        split = append_assoc front second.part.part second.part.rest
            ∙ ap (λ (l : List ℕ). front ++ l) second.part.split;
        told = second.part.told ∙ ap (λ (t : Option Taken). gained t second.part.part) first.whole
            ∙ gained-append (told v).taken front second.part.part;
      };
      cause = record {
        later = omega (arith, first.cause.later, second.cause.later);
        stays = on_ok r (λ is. is ∙ first.cause.stays) second.cause.stays;
        failed = on_err r (λ rose. subst (λ n. Rose n (told v'').faults) first.cause.stays rose) second.cause.failed;
      };
      keeps = λ s. second.keeps (first.keeps s);
      steady = λ s room. second.steady (first.keeps s)
          (subst (λ (t : Option Taken). HasRoom t (length text)) (sym first.whole)
          (room_behind (told v).taken front text room));
    }

    -- the put of the first failed
    pub puts_no_more : {e : E} → Puts told reliable v v' front (Err e) → (text : List ℕ) (r : Result Unit E) → IsErr r
        → Puts told reliable v v' (front ++ text) r
    puts_no_more {e} first text (Ok x) failed = cc
    puts_no_more {e} first text (Err e') failed = record {
      whole = tt;
      part = record {
        part = first.part.part;
        rest = first.part.rest ++ text;
        split = sym (append_assoc first.part.part first.part.rest text)
            ∙ ap (λ (l : List ℕ). l ++ text) first.part.split;
        told = first.part.told;
      };
      cause = record { later = first.cause.later; stays = tt; failed = first.cause.failed };
      keeps = first.keeps;
      steady = λ s room. first.steady s (room_before (told v).taken front text room);
    }

  -- the next of several texts, whose text in all is that of F
  module _ {X : Type 0} (F : List X → List ℕ) (joins : (a b : List X) → F (a ++ b) ≡ F a ++ F b) (xs : List X) (i : ℕ)
      (d : X) (lt : i < length xs) {text : List ℕ} (one : F (get_or xs i d ∷ []) ≡ text) {v v' v'' : V}
      (so_far : Puts {E = E} told reliable v v' (F (take i xs)) (Ok tt)) where
    pub puts_next : (r : Result Unit E) → Puts told reliable v' v'' text r
        → Puts told reliable v v'' (F (take (i + 1) xs)) r
    puts_next r next =
        subst (λ (t : List ℕ). Puts told reliable v v'' t r)
        (ap (λ (t : List ℕ). F (take i xs) ++ t) (sym one)
        ∙ sym (ap F (take_more xs i d lt) ∙ joins (take i xs) (get_or xs i d ∷ []))) (puts_behind so_far r next)

    pub puts_stop : {e : E} → Puts told reliable v' v'' text (Err e) → (r : Result Unit E) → IsErr r
        → Puts told reliable v v'' (F xs) r
    puts_stop {e} next r failed = subst (λ (t : List ℕ). Puts told reliable v v'' t r)
        (sym (joins (take (i + 1) xs) (drop (i + 1) xs)) ∙ ap F (take-append-drop (i + 1) xs))
        (puts_no_more (puts_next (Err e) next) _ r failed)

-- ---- lines

-- a put of lines ends in one of them
pub line_begun : (lines : List (List ℕ)) (i : ℕ) (d line : List ℕ) → i < length lines → line ≡ get_or lines i d
    → {old now next : Option Taken} → now ≡ gained old (concat (take i lines)) → GainedShort now next line
    → GainedLines old next lines
line_begun lines i d line lt is {old} {now} {next} so_far short = record {
  whole = take i lines;
  next = line;
  others = drop (i + 1) lines;
  split = rw is (sym (take-append-drop i lines) ∙ ap (λ ls. take i lines ++ ls) (drop_more lines i d lt));
  begun = subst (λ t. GainedShort t next line) so_far short;
}
