-- A parser under another reader that answers the same, and choices with their classes worked out.
use Rattle.std.proofs.Common.{◌≡◌, ℕ, Bool, true, false, cond, List, [], ◌++◌, refl, sym, ◌∙◌, ◌⊎◌}
use Rattle.fcl_tokens.specs.declared.token.Token.{Token}
use Rattle.fcl_syntax.specs.declared.{fault.Kind.Kind, fault.Kind.TheVariants.Unsupported}
use Rattle.fcl_syntax.specs.TokenClasses.{class_of, mem, Among}
use Rattle.fcl_syntax.specs.{Annotations.refused_text, First.looks_on, Readers.Read}
use Rattle.fcl_syntax.specs.Reading.{refusing, either_at}
use Rattle.fcl_syntax.proofs.{Parser.disjoint, Parser.Parser, Small.alt, Dead.Dead, Dead.dead_or}
use Rattle.fcl_syntax.proofs.Repeat.{mem-append, many}

-- the reader answers what the parser does
pub record Reads {A : Type 0} (read : List Token → Read A) (p : Parser A) : Type 0 where
  pub same : (ts : List Token) → read ts ≡ p.read ts

abbrev pub named : {A : Type 0} {read : List Token → Read A} {p : Parser A} → Reads read p → Parser A
named {read = read} {p = p} is = record {
  text = p.text;
  read = read;
  first = p.first;
  goes = p.goes;
  some = p.some;
  some_clean = p.some_clean;
  begins = p.begins;
  stands = λ ts t rest h. p.stands ts t rest (sym (is.same ts) ∙ h);
  again = λ t rest stops. is.same _ ∙ p.again t rest stops;
  fails = λ ts e h.
      let f = p.fails ts e (sym (is.same ts) ∙ h) in
      record {
        front = f.front;
        bad = f.bad;
        parts = f.parts;
        left = f.left;
        viable = f.viable;
        shows = f.shows;
        local = λ b s. is.same (f.front ++ b) ∙ f.local b s;
      };
}

true_left : (b c : Bool) → b ≡ true → cond b true c ≡ true
true_left true c e = refl
true_left false c e = absurd cc

true_right : (b c : Bool) → c ≡ true → cond b true c ≡ true
true_right true c e = refl
true_right false c e = e

pub in_left : (xs ys : List ℕ) (x : Token) → mem (class_of x) xs ≡ true → mem (class_of x) (xs ++ ys) ≡ true
in_left xs ys x h = mem-append xs ys (class_of x) ∙ true_left (mem (class_of x) xs) (mem (class_of x) ys) h

pub in_right : (xs ys : List ℕ) (x : Token) → mem (class_of x) ys ≡ true → mem (class_of x) (xs ++ ys) ≡ true
in_right xs ys x h = mem-append xs ys (class_of x) ∙ true_right (mem (class_of x) xs) (mem (class_of x) ys) h

abbrev pub either : {A B : Type 0} (p : Parser A) (q : Parser B) → disjoint p.first q.first ≡ true → p.goes ≡ q.goes
    → Parser (A ⊎ B)
either p q apart same = alt p q apart same (p.first ++ q.first) (in_left p.first q.first) (in_right p.first q.first)

abbrev pub among_dead : (k : Kind) (classes : List ℕ) → looks_on k ≡ false → Dead (Among classes)
among_dead k classes here = record {
  text = refused_text k;
  kind = k;
  among = classes;
  head = λ x. x.token;
  tail = λ x. [];
  is = λ x. refl;
  classes = λ x. x.is;
  cover = λ y h. (record { token = y; is = h }, refl);
  here = here;
}

module _ {A : Type 0} (code : ℕ) (classes : List ℕ) (p : Parser A) (here : looks_on (Unsupported code) ≡ false)
    (apart : disjoint classes p.first ≡ true) where
  pub refusing_is : Reads (refusing classes code p.read) (dead_or (among_dead (Unsupported code) classes here) p apart
      (classes ++ p.first) (in_left classes p.first) (in_right classes p.first))
  unfolding refusing
  refusing_is = record { same = λ ts. refl }

  abbrev pub refuse : Parser (Among classes ⊎ A)
  refuse = named refusing_is

module _ {A B : Type 0} (p : Parser A) (q : Parser B) (apart : disjoint p.first q.first ≡ true) (same : p.goes ≡ q.goes)
  where
    pub either_is : Reads (either_at p.first p.read q.read) (either p q apart same)
    unfolding either_at
    either_is = record { same = λ ts. refl }

    abbrev pub one_of : Parser (A ⊎ B)
    one_of = named either_is

abbrev pub many_then : {A B : Type 0} (p : Parser A) (q : Parser B) → disjoint p.goes p.first ≡ true
    → disjoint p.goes q.first ≡ true
    → disjoint p.first q.first ≡ true → Parser (List A × B)
many_then p q a b c = many p q a b c (p.first ++ q.first) (in_left p.first q.first) (in_right p.first q.first)
