-- The parsers of variables, terms and ranges.
use Rattle.std.proofs.Common.{◌≡◌, ℕ, true, List, [], ◌∷◌, ◌++◌, Ok, refl, ap, inl, inr, ◌⊎◌}
use Rattle.fcl_tokens.specs.declared.token.Keyword.{Keyword}
use Rattle.fcl_tokens.specs.declared.token.Keyword.TheVariants as key
use Rattle.fcl_tokens.specs.declared.token.Token.{Token}
use Rattle.fcl_tokens.specs.declared.token.Token.TheVariants as tok
use Rattle.fcl_tokens.specs.declared.token.Word.{Word}
use Rattle.fcl_tokens.specs.declared.token.Word.TheVariants as word
use Rattle.fcl_syntax.specs.declared.{terms.Sign.Sign}
use Rattle.fcl_syntax.specs.declared.terms.Sign.TheVariants as sign
use Rattle.fcl_syntax.specs.declared.{tree.Direction.Direction, tree.Name.Name, tree.Number.Number}
use Rattle.fcl_syntax.specs.declared.{tree.UnitNumber.UnitNumber, tree.ZeroNumber.ZeroNumber}
use Rattle.fcl_syntax.specs.TokenClasses.{name_classes, other_type_classes, beyond_unit_classes, beyond_zero_classes}
use Rattle.fcl_syntax.specs.TokenClasses.{class_of, comma_classes}
use Rattle.fcl_syntax.specs.{Annotations.Sym, Annotations.plain, Readers.◌>>=◌, Readers.Read, Readers.TakesSome}
use Rattle.fcl_syntax.specs.Grammar.{behind, TSigned, plus, minus, bare}
use Rattle.fcl_syntax.specs.Grammar.{signed_text, TSignedNumber, TType, TDeclaration, declaration_text}
use Rattle.fcl_syntax.specs.Grammar.{TVariables, variables_text, var_classes, TSection, TCoordinate, TUnit, TZero}
use Rattle.fcl_syntax.specs.Reading.{IsBare, token_at, behind_sign, sign_at, signed, signed_at, name_at, comma_at}
use Rattle.fcl_syntax.specs.Reading.{headed_at, listed_at, declaration_at, declaration_from, variables_at}
use Rattle.fcl_syntax.specs.Reading.{variables_from, section_at}
use Rattle.fcl_syntax.proofs.Parser.{disjoint, Parser}
use Rattle.fcl_syntax.proofs.Chains.{bind_assoc, bind_cond, bind_ret}
use Rattle.fcl_syntax.proofs.SingleTokens as single
use Rattle.fcl_syntax.proofs.{Dead.via, Loop.texts, Repeat.then_rep, Seq.seq, Small.Single, Small.one}
use Rattle.fcl_syntax.proofs.Run.{parser_takes}
use Rattle.fcl_syntax.proofs.Named.{Reads, named, either, refuse, many_then}

-- ---- single tokens

pub token_is : {A : Type 0} (c : Single A) → Reads (token_at c.want) (one c)
unfolding token_at
token_is c = record { same = λ ts. refl }

abbrev pub token_parser : {A : Type 0} → Single A → Parser A
token_parser c = named (token_is c)

abbrev pub bare_parser : (x : Token) → IsBare x → Parser (Unit {0})
bare_parser x b = token_parser (single.bare x b)

abbrev pub key_parser : Keyword → Parser ℕ
key_parser k = token_parser (single.key_single k)

abbrev pub word_parser : Word → Parser ℕ
word_parser w = token_parser (single.word_single w)

abbrev pub open_parser : Parser ℕ
open_parser = token_parser single.open_single

abbrev pub name_parser : Parser Name
name_parser = token_parser single.name_single

abbrev pub number_parser : Parser Number
number_parser = token_parser single.number_single

abbrev pub unit_number_parser : Parser UnitNumber
unit_number_parser = token_parser single.unit_single

abbrev pub zero_number_parser : Parser ZeroNumber
zero_number_parser = token_parser single.zero_single

abbrev pub direction_parser : Parser (ℕ × Direction)
direction_parser = token_parser single.direction_single

-- ---- one with or without a sign

-- where all signs have the same behind them
pub behind_sign_alike : {A : Type 0} (f : List Token → Read A) (s : Sign) (ts : List Token)
    → behind_sign f f s ts ≡ (f ts >>= λ n. Ok (signed s n.0, n.1))
behind_sign_alike f sign.Plus ts = refl
behind_sign_alike f _ ts = refl

abbrev pub SignedRaw : Type 0 → Type 0 → Type 0
SignedRaw A B = (Unit {0} × A) ⊎ ((Unit {0} × B) ⊎ A)

abbrev pub to_signed : {A B : Type 0} → SignedRaw A B → TSigned A B
to_signed (inl t) = plus t.1
to_signed (inr (inl t)) = minus t.1
to_signed (inr (inr a)) = bare a

abbrev pub from_signed : {A B : Type 0} → TSigned A B → SignedRaw A B
from_signed (plus a) = inl (tt, a)
from_signed (minus b) = inr (inl (tt, b))
from_signed (bare a) = inr (inr a)

pub signed_round : {A B : Type 0} (t : TSigned A B) → to_signed (from_signed t) ≡ t
signed_round (plus a) = refl
signed_round _ = refl

module _ {A B : Type 0} (p : Parser A) (q : Parser B)
    (apart_plus : disjoint (class_of tok.Plus ∷ []) (class_of tok.Minus ∷ p.first) ≡ true)
    (apart_minus : disjoint (class_of tok.Minus ∷ []) p.first ≡ true) (same : q.goes ≡ p.goes) where
  abbrev pub signed_raw : Parser (SignedRaw A B)
  signed_raw = either (seq (bare_parser tok.Plus refl) p refl)
      (either (seq (bare_parser tok.Minus refl) q refl) p apart_minus same) apart_plus refl

  pub signed_same : (t : SignedRaw A B) → signed_text p.text q.text (to_signed t) ≡ signed_raw.text t
  signed_same (inr (inl t)) = refl
  signed_same _ = refl

  pub signed_is : Reads (signed_at p.read q.read)
      (via signed_raw to_signed from_signed (signed_text p.text q.text) signed_round signed_same)
  unfolding signed_at sign_at
  signed_is = record { same = λ ts. simp (bind_cond, bind_assoc) }

  abbrev pub signed_parser : Parser (TSigned A B)
  signed_parser = named signed_is

abbrev pub signed_number_parser : Parser TSignedNumber
signed_number_parser = signed_parser number_parser number_parser refl refl refl

abbrev pub coordinate_number_parser : Parser TCoordinate
coordinate_number_parser = refuse 10 name_classes number_parser refl refl

abbrev pub coordinate_parser : Parser (TSigned TCoordinate TCoordinate)
coordinate_parser = signed_parser coordinate_number_parser coordinate_number_parser refl refl refl

abbrev pub unit_parser : Parser TUnit
unit_parser = refuse 10 name_classes (refuse 11 beyond_unit_classes unit_number_parser refl refl) refl refl

abbrev pub zero_parser : Parser TZero
zero_parser = refuse 10 name_classes (refuse 11 beyond_zero_classes zero_number_parser refl refl) refl refl

abbrev pub degree_parser : Parser (TSigned TUnit TZero)
degree_parser = signed_parser unit_parser zero_parser refl refl refl

-- ---- variables

-- one and more, with commas between them
module _ {A : Type 0} (p : Parser A) (apart : disjoint p.goes comma_classes ≡ true) where
  pub comma_is : Reads (comma_at p.read) (via (seq (bare_parser tok.Comma refl) p refl) (λ t. t.1) (λ a. (tt, a))
      (λ a. plain tok.Comma ∷ p.text a) (λ a. refl) (λ t. refl))
  unfolding comma_at
  comma_is = record { same = λ ts. simp (bind_assoc, bind_ret) }

  abbrev pub comma_parser : Parser A
  comma_parser = named comma_is

  behind_texts : (items : List A) → behind tok.Comma p.text items ≡ texts comma_parser items
  behind_texts [] = refl
  behind_texts (a ∷ items) = ap (λ (l : List Sym). plain tok.Comma ∷ (p.text a ++ l)) (behind_texts items)

  pub listed_same : (t : A × List A) → p.text t.0 ++ behind tok.Comma p.text t.1 ≡ p.text t.0 ++ texts comma_parser
      t.1
  listed_same t = ap (λ (l : List Sym). p.text t.0 ++ l) (behind_texts t.1)

  pub listed_is : Reads (listed_at p.read) (via (then_rep p comma_parser apart refl) (λ t. t) (λ t. t)
      (λ t. p.text t.0 ++ behind tok.Comma p.text t.1) (λ t. refl) listed_same)
  unfolding listed_at
  listed_is = record { same = λ ts. simp (bind_assoc) }

  abbrev pub listed_parser : Parser (A × List A)
  listed_parser = named listed_is

abbrev pub names_parser : Parser (Name × List Name)
names_parser = listed_parser name_parser refl

pub names_take : TakesSome (comma_at name_at)
names_take = parser_takes (comma_parser name_parser refl)

abbrev pub type_parser : Parser TType
type_parser = refuse 5 other_type_classes (word_parser word.Real) refl refl

pub declaration_is : Reads declaration_at (via
    (seq names_parser (seq (bare_parser tok.Colon refl) (seq type_parser (bare_parser tok.Semicolon refl) refl) refl) refl)
    (λ t. record { names = t.0; type = t.1.1.0 }) (λ d. (d.names, (tt, (d.type, tt)))) declaration_text (λ d. refl)
    (λ t. refl))
unfolding headed_at declaration_from listed_at
declaration_is = record { same = λ ts. simp (bind_assoc) }

abbrev pub declaration_parser : Parser TDeclaration
declaration_parser = named declaration_is

pub declaration_take : TakesSome declaration_at
declaration_take = parser_takes declaration_parser

pub variables_is : Reads variables_at (via
    (seq direction_parser (many_then declaration_parser (key_parser key.EndVar) refl refl refl) refl)
    (λ t. record { at = t.0.0; direction = t.0.1; declarations = t.1.0; end = t.1.1 })
    (λ v. ((v.at, v.direction), (v.declarations, v.end))) variables_text (λ v. refl) (λ t. refl))
unfolding headed_at variables_from
variables_is = record { same = λ ts. simp (bind_assoc) }

abbrev pub variables_parser : Parser TVariables
variables_parser = named variables_is

abbrev pub section_parser : Parser TSection
section_parser = refuse 6 var_classes variables_parser refl refl

pub section_take : TakesSome section_at
section_take = parser_takes section_parser
