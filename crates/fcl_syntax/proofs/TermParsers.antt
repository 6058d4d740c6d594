-- The parsers of FUZZIFY and DEFUZZIFY.
use Rattle.std.proofs.Common.{◌≡◌, ℕ, Bool, true, false, List, [], ◌∷◌, refl, inl, inr, ◌⊎◌}
use Rattle.fcl_tokens.specs.declared.token.Keyword.{Keyword}
use Rattle.fcl_tokens.specs.declared.token.Keyword.TheVariants as key
use Rattle.fcl_tokens.specs.declared.token.Token.TheVariants as tok
use Rattle.fcl_tokens.specs.declared.token.Word.{Word}
use Rattle.fcl_tokens.specs.declared.token.Word.TheVariants as word
use Rattle.fcl_syntax.specs.declared.fault.Kind.TheVariants.{Unsupported}
use Rattle.fcl_syntax.specs.{First.looks_on}
use Rattle.fcl_syntax.specs.TokenClasses.{Among, word_class, signed_classes, open_classes}
use Rattle.fcl_syntax.specs.Grammar.{TSignedNumber, TPoint, point_text, TPoints, TTerm, term_text, TRange, range_text}
use Rattle.fcl_syntax.specs.Grammar.{opening_text, TFuzzify, fuzzify_text, TSetting, setting_text, accu_classes, TAccu}
use Rattle.fcl_syntax.specs.Grammar.{method_classes, TMethod, TSingleton, singleton_text, TFallback, fallback_text}
use Rattle.fcl_syntax.specs.Grammar.{TDefuzzyLine, TDefuzzify, defuzzify_text, option_classes, TPart}
use Rattle.fcl_syntax.specs.Reading.{headed_at, point_at, point_from, some_points_at, term_at, opening_at, range_at}
use Rattle.fcl_syntax.specs.Reading.{fuzzy_line_at, fuzzify_at, setting_at, singleton_at, fallback_at, defuzzy_line_at}
use Rattle.fcl_syntax.specs.Reading.{defuzzify_at, part_at}
use Rattle.fcl_syntax.proofs.{Parser.disjoint, Parser.Parser, Dead.via, Repeat.then_rep, Seq.seq}
use Rattle.fcl_syntax.proofs.Chains.{bind_assoc, bind_cond}
use Rattle.fcl_syntax.specs.Readers.{TakesSome}
use Rattle.fcl_syntax.proofs.Run.{parser_takes}
use Rattle.fcl_syntax.proofs.Named.{Reads, one_of, named, either, refuse, many_then}
use Rattle.fcl_syntax.proofs.Parsers.{bare_parser, key_parser, word_parser, open_parser, name_parser, signed_number_parser}
use Rattle.fcl_syntax.proofs.Parsers.{coordinate_parser, degree_parser}

-- ---- terms of an input

pub point_is : Reads point_at (via (seq open_parser (seq coordinate_parser (seq (bare_parser tok.Comma refl)
    (seq degree_parser (bare_parser tok.Close refl) refl) refl) refl) refl)
    (λ t. record { open_at = t.0; x = t.1.0; degree = t.1.1.1.0 })
    (λ p. (p.open_at, (p.x, (tt, (p.degree, tt))))) point_text (λ p. refl) (λ t. refl))
unfolding headed_at point_from
point_is = record { same = λ ts. simp (bind_assoc) }

abbrev pub point_parser : Parser TPoint
point_parser = named point_is

pub point_take : TakesSome point_at
point_take = parser_takes point_parser

pub some_points_is : Reads some_points_at (then_rep point_parser point_parser refl refl)
unfolding some_points_at
some_points_is = record { same = λ ts. refl }

abbrev pub some_points_parser : Parser (TPoint × List TPoint)
some_points_parser = named some_points_is

abbrev pub points_parser : Parser TPoints
points_parser = refuse 14 signed_classes some_points_parser refl refl

pub term_is : Reads term_at (via (seq (key_parser key.Term) (seq name_parser (seq (bare_parser tok.Assign refl)
    (seq points_parser (bare_parser tok.Semicolon refl) refl) refl) refl) refl)
    (λ t. record { at = t.0; name = t.1.0; points = t.1.1.1.0 })
    (λ t. (t.at, (t.name, (tt, (t.points, tt))))) term_text (λ t. refl) (λ t. refl))
unfolding term_at
term_is = record { same = λ ts. simp (bind_assoc) }

abbrev pub term_parser : Parser TTerm
term_parser = named term_is

-- ---- ranges

abbrev pub OpeningRaw : Type 0
OpeningRaw = (Unit {0} × ℕ) ⊎ ℕ

abbrev pub to_opening : OpeningRaw → Bool × ℕ
to_opening (inl t) = (true, t.1)
to_opening (inr at) = (false, at)

abbrev pub from_opening : Bool → ℕ → OpeningRaw
from_opening true at = inl (tt, at)
from_opening false at = inr at

pub opening_round : (t : Bool × ℕ) → to_opening (from_opening t.0 t.1) ≡ t
opening_round (true, at) = refl
opening_round (false, at) = refl

abbrev pub opening_raw : Parser OpeningRaw
opening_raw = either (seq (bare_parser tok.Assign refl) open_parser refl) open_parser refl refl

pub opening_same : (t : OpeningRaw) → opening_text (to_opening t).0 (to_opening t).1 ≡ opening_raw.text t
opening_same (inl t) = refl
opening_same (inr at) = refl

pub opening_is : Reads opening_at (via opening_raw to_opening (λ t. from_opening t.0 t.1)
    (λ t. opening_text t.0 t.1) opening_round opening_same)
unfolding opening_at
opening_is = record { same = λ ts. simp (bind_cond, bind_assoc) }

abbrev pub opening_parser : Parser (Bool × ℕ)
opening_parser = named opening_is

pub range_is : Reads range_at (via (seq (key_parser key.Range) (seq opening_parser (seq signed_number_parser
    (seq (bare_parser tok.To refl) (seq signed_number_parser (seq (bare_parser tok.Close refl)
    (bare_parser tok.Semicolon refl) refl) refl) refl) refl) refl) refl)
    (λ t. record { at = t.0; assigned = t.1.0.0; open_at = t.1.0.1; low = t.1.1.0; high = t.1.1.1.1.0 })
    (λ r. (r.at, ((r.assigned, r.open_at), (r.low, (tt, (r.high, (tt, tt))))))) range_text (λ r. refl) (λ t. refl))
unfolding range_at
range_is = record { same = λ ts. simp (bind_assoc) }

abbrev pub range_parser : Parser TRange
range_parser = named range_is

-- ---- FUZZIFY

abbrev pub fuzzy_line_parser : Parser (TTerm ⊎ TRange)
fuzzy_line_parser = one_of term_parser range_parser refl refl

pub fuzzy_line_take : TakesSome fuzzy_line_at
fuzzy_line_take = parser_takes fuzzy_line_parser

pub fuzzify_is : Reads fuzzify_at (via (seq (key_parser key.Fuzzify)
    (seq name_parser (many_then fuzzy_line_parser (key_parser key.EndFuzzify) refl refl refl) refl) refl)
    (λ t. record { at = t.0; name = t.1.0; lines = t.1.1.0; end = t.1.1.1 })
    (λ f. (f.at, (f.name, (f.lines, f.end)))) fuzzify_text (λ f. refl) (λ t. refl))
unfolding fuzzify_at
fuzzify_is = record { same = λ ts. simp (bind_assoc) }

abbrev pub fuzzify_parser : Parser TFuzzify
fuzzify_parser = named fuzzify_is

-- ---- settings

module _ (k : Keyword) (w : Word) (classes : List ℕ) (code : ℕ) (here : looks_on (Unsupported code) ≡ false)
    (apart : disjoint classes (word_class w ∷ []) ≡ true) where
  abbrev pub choice_parser : Parser (Among classes ⊎ ℕ)
  choice_parser = refuse code classes (word_parser w) here apart

  pub setting_is : Reads (setting_at k w classes code) (via
      (seq (key_parser k)
      (seq (bare_parser tok.Colon refl) (seq choice_parser (bare_parser tok.Semicolon refl) refl) refl) refl)
      (λ t. record { at = t.0; word = t.1.1.0 }) (λ s. (s.at, (tt, (s.word, tt)))) (setting_text k w classes code)
      (λ s. refl) (λ t. refl))
  unfolding setting_at
  setting_is = record { same = λ ts. simp (bind_assoc) }

  abbrev pub setting_parser : Parser (TSetting classes)
  setting_parser = named setting_is

abbrev pub accu_parser : Parser TAccu
accu_parser = setting_parser key.Accu word.Max accu_classes 4 refl refl

abbrev pub method_parser : Parser TMethod
method_parser = setting_parser key.Method word.Cogs method_classes 1 refl refl

-- ---- DEFUZZIFY

abbrev pub singleton_value_parser : Parser (Among open_classes ⊎ TSignedNumber)
singleton_value_parser = refuse 13 open_classes signed_number_parser refl refl

pub singleton_is : Reads singleton_at (via (seq (key_parser key.Term) (seq name_parser (seq (bare_parser tok.Assign refl)
    (seq singleton_value_parser (bare_parser tok.Semicolon refl) refl) refl) refl) refl)
    (λ t. record { at = t.0; name = t.1.0; value = t.1.1.1.0 })
    (λ t. (t.at, (t.name, (tt, (t.value, tt))))) singleton_text (λ t. refl) (λ t. refl))
unfolding singleton_at
singleton_is = record { same = λ ts. simp (bind_assoc) }

abbrev pub singleton_parser : Parser TSingleton
singleton_parser = named singleton_is

abbrev pub fallback_value_parser : Parser (TSignedNumber ⊎ ℕ)
fallback_value_parser = one_of signed_number_parser (word_parser word.Nc) refl refl

pub fallback_is : Reads fallback_at (via (seq (key_parser key.Default) (seq (bare_parser tok.Assign refl)
    (seq fallback_value_parser (bare_parser tok.Semicolon refl) refl) refl) refl)
    (λ t. record { at = t.0; value = t.1.1.0 }) (λ d. (d.at, (tt, (d.value, tt)))) fallback_text
    (λ d. refl) (λ t. refl))
unfolding fallback_at
fallback_is = record { same = λ ts. simp (bind_assoc) }

abbrev pub fallback_parser : Parser TFallback
fallback_parser = named fallback_is

abbrev pub defuzzy_line_parser : Parser TDefuzzyLine
defuzzy_line_parser = one_of singleton_parser (one_of accu_parser (one_of method_parser
    (one_of fallback_parser range_parser refl refl) refl refl) refl refl) refl refl

pub defuzzy_line_take : TakesSome defuzzy_line_at
defuzzy_line_take = parser_takes defuzzy_line_parser

pub defuzzify_is : Reads defuzzify_at (via (seq (key_parser key.Defuzzify)
    (seq name_parser (many_then defuzzy_line_parser (key_parser key.EndDefuzzify) refl refl refl) refl) refl)
    (λ t. record { at = t.0; name = t.1.0; lines = t.1.1.0; end = t.1.1.1 })
    (λ d. (d.at, (d.name, (d.lines, d.end)))) defuzzify_text (λ d. refl) (λ t. refl))
unfolding defuzzify_at
defuzzify_is = record { same = λ ts. simp (bind_assoc) }

abbrev pub defuzzify_parser : Parser TDefuzzify
defuzzify_parser = named defuzzify_is

-- ---- both

abbrev pub part_parser : Parser TPart
part_parser = refuse 7 option_classes (one_of fuzzify_parser defuzzify_parser refl refl) refl refl

pub part_take : TakesSome part_at
part_take = parser_takes part_parser
