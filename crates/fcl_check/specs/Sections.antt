-- The numbers of a section, and the places of the faults that one section has alone. All numbers are in
-- 1/10000.
-- Reached by the promise.
use Rattle.std.specs.Prelude.{ℕ, Bool, false, not, ◌&&◌, ◌||◌, List, [], ◌∷◌, drop, map, Option, Some, None}
use Rattle.std.specs.Prelude.{option_map, is_none, ℤ, pos, neg_ℤ, int_lt}
use Rattle.std.specs.List.{filter_map, flat_map, list_all}
use Rattle.std.specs.Int.{int_min, int_max}
use Rattle.fcl_tokens.specs.declared.token.Amount.{Amount}
use Rattle.fcl_tokens.specs.declared.token.Amount.TheVariants as amount
use Rattle.fcl_syntax.specs.declared.tree.{Defuzzify.Defuzzify, DefuzzyLine.DefuzzyLine, Degree.Degree}
use Rattle.fcl_syntax.specs.declared.tree.{Fallback.Fallback, FallbackValue.FallbackValue, Fuzzify.Fuzzify}
use Rattle.fcl_syntax.specs.declared.tree.{FuzzyLine.FuzzyLine, Name.Name, SignedNumber.SignedNumber, Part.Part}
use Rattle.fcl_syntax.specs.declared.tree.{Point.Point, Range.Range, Setting.Setting, Singleton.Singleton, Term.Term}
use Rattle.fcl_syntax.specs.declared.tree.DefuzzyLine.TheVariants as defuzzy
use Rattle.fcl_syntax.specs.declared.tree.Degree.TheVariants as degree
use Rattle.fcl_syntax.specs.declared.tree.FallbackValue.TheVariants as fallback
use Rattle.fcl_syntax.specs.declared.tree.FuzzyLine.TheVariants as fuzzy
use Rattle.fcl_syntax.specs.declared.tree.SignedNumber.TheVariants as signed
use Rattle.fcl_syntax.specs.declared.tree.Part.TheVariants as part
use Rattle.fcl_check.specs.Places.{at_if, at_some, at_each, first, drop_while}
use Rattle.fcl_check.specs.Names.{terms_of, singletons_of}

-- ---- numbers

abbrev pub magnitude : Amount → ℤ
magnitude amount.Zero = pos 0
magnitude amount.One = pos 10000
magnitude (amount.Other d) = d.0

-- a number beyond 100000 counts as 100000; no text has one (law `numbers_in_scale` of fcl_syntax)
abbrev pub to_scale : ℤ → ℤ
to_scale z = int_min (int_max z (neg_ℤ (pos 1000000000))) (pos 1000000000)

abbrev pub value : SignedNumber → ℤ
value (signed.Plus n) = to_scale (magnitude n.amount)
value (signed.Minus n) = to_scale (neg_ℤ (magnitude n.amount))
value (signed.Bare n) = to_scale (magnitude n.amount)

-- whether a degree is 1 rather than 0
abbrev pub is_one : Degree → Bool
is_one (degree.Plus n) = n.is_one
is_one (degree.Minus n) = false
is_one (degree.Bare n) = n.is_one

abbrev pub points_of : Term → List Point
points_of t = t.first ∷ t.more

abbrev pub x_of : Point → ℤ
x_of p = value p.x

abbrev pub has_one : Point → Bool
has_one p = is_one p.degree

abbrev pub has_zero : Point → Bool
has_zero p = not (is_one p.degree)

-- ---- ranges

-- a low end and a high end
abbrev pub Ends : Type 0
Ends = ℤ × ℤ

abbrev pub ends_of : Range → Ends
ends_of r = (value r.low, value r.high)

abbrev pub lies_in : Ends → ℤ → Bool
lies_in e x = not (int_lt x e.0) && not (int_lt e.1 x)

abbrev pub is_empty_range : Ends → Bool
is_empty_range e = not (int_lt e.0 e.1)

-- the least and the greatest of some numbers
abbrev pub reach : Ends → List ℤ → Ends
reach e [] = e
reach e (x ∷ numbers) = reach (int_min e.0 x, int_max e.1 x) numbers

abbrev pub hull_of : List ℤ → Option Ends
hull_of [] = None
hull_of (x ∷ numbers) = Some (reach (x, x) numbers)

abbrev pub range_line : FuzzyLine → Option Range
range_line (fuzzy.Term t) = None
range_line (fuzzy.Range r) = Some r

-- the RANGE of a section, where it has one
abbrev pub fuzzy_range : Fuzzify → Option Range
fuzzy_range s = first (filter_map range_line s.lines)

abbrev pub output_range_line : DefuzzyLine → Option Range
output_range_line (defuzzy.Range r) = Some r
output_range_line _ = None

abbrev pub defuzzy_range : Defuzzify → Option Range
defuzzy_range s = first (filter_map output_range_line s.lines)

-- the numbers of all points
abbrev pub abscissas : Fuzzify → List ℤ
abscissas s = map x_of (flat_map points_of (terms_of s))

abbrev pub fallback_number : FallbackValue → Option SignedNumber
fallback_number (fallback.Number n) = Some n
fallback_number (fallback.Nc at) = None

-- the number of a singleton or of DEFAULT, and its place
abbrev pub number_line : DefuzzyLine → Option (ℤ × ℕ)
number_line (defuzzy.Singleton t) = Some (value t.value, t.at)
number_line (defuzzy.Default d) = option_map (λ (n : SignedNumber). (value n, d.at)) (fallback_number d.value)
number_line _ = None

abbrev pub output_numbers : Defuzzify → List (ℤ × ℕ)
output_numbers s = filter_map number_line s.lines

-- ---- faults of one section

-- no TERM, at the END word
abbrev pub without_terms : Part → List ℕ
without_terms (part.Fuzzify s) = at_if (is_none (first (terms_of s))) s.end
without_terms (part.Defuzzify s) = at_if (is_none (first (singletons_of s))) s.end

-- the terms behind 15 others, at their names
abbrev pub terms_over_limit : Part → List ℕ
terms_over_limit (part.Fuzzify s) = map (λ (t : Term). t.name.at) (drop 15 (terms_of s))
terms_over_limit (part.Defuzzify s) = map (λ (t : Singleton). t.name.at) (drop 15 (singletons_of s))

-- points below the one before them in their term, at their parentheses
abbrev pub is_below : Point → Option Point → Bool
is_below p None = false
is_below p (Some before) = int_lt (x_of p) (x_of before)

abbrev pub falling_in : Term → List ℕ
falling_in t =
    at_each (λ (before : List Point) (p : Point). at_if (is_below p (first before)) p.open_at) [] (points_of t)

abbrev pub falling_points : Part → List ℕ
falling_points (part.Fuzzify s) = flat_map falling_in (terms_of s)
falling_points (part.Defuzzify s) = []

-- terms whose degrees are not zeros, then at least one 1, then zeros, at TERM
abbrev pub starts_with_one : List Point → Bool
starts_with_one [] = false
starts_with_one (p ∷ points) = has_one p

abbrev pub has_shape : List Point → Bool
has_shape points =
    let top = drop_while has_zero points in starts_with_one top && list_all has_zero (drop_while has_one top)

abbrev pub shapeless_terms : Part → List ℕ
shapeless_terms (part.Fuzzify s) = flat_map (λ (t : Term). at_if (not (has_shape (points_of t))) t.at) (terms_of s)
shapeless_terms (part.Defuzzify s) = []

-- points outside the given RANGE, at their parentheses
abbrev pub outside_in : Ends → Term → List ℕ
outside_in e t = flat_map (λ (p : Point). at_if (not (lies_in e (x_of p))) p.open_at) (points_of t)

abbrev pub outside : (Ends → List ℕ) → Option Range → List ℕ
outside places = at_some (λ (r : Range). places (ends_of r))

abbrev pub points_outside : Part → List ℕ
points_outside (part.Fuzzify s) = outside (λ e. flat_map (outside_in e) (terms_of s)) (fuzzy_range s)
points_outside (part.Defuzzify s) = []

-- singletons and DEFAULT outside the given RANGE, at TERM or DEFAULT
abbrev pub numbers_outside : Part → List ℕ
numbers_outside (part.Fuzzify s) = []
numbers_outside (part.Defuzzify s) =
    outside (λ e. flat_map (λ (n : ℤ × ℕ). at_if (not (lies_in e n.0)) n.1) (output_numbers s)) (defuzzy_range s)

-- a given RANGE whose low end is not below its high end, at RANGE; where none is given, the points of
-- a section of an input that are all one, at the section's name
abbrev pub empty_range : Range → List ℕ
empty_range r = at_if (is_empty_range (ends_of r)) r.at

abbrev pub bad_fuzzy_range : Bool → Fuzzify → Option Range → List ℕ
bad_fuzzy_range is_input s (Some r) = empty_range r
bad_fuzzy_range is_input s None =
    at_some (λ (e : Ends). at_if (is_input && is_empty_range e) s.name.at) (hull_of (abscissas s))

abbrev pub bad_range : (Name → Bool) → Part → List ℕ
bad_range is_input (part.Fuzzify s) = bad_fuzzy_range (is_input s.name) s (fuzzy_range s)
bad_range is_input (part.Defuzzify s) = at_some empty_range (defuzzy_range s)

-- a section of an output without METHOD or without DEFAULT, at its END word
abbrev pub method_line : DefuzzyLine → Option Setting
method_line (defuzzy.Method m) = Some m
method_line _ = None

abbrev pub default_line : DefuzzyLine → Option Fallback
default_line (defuzzy.Default d) = Some d
default_line _ = None

abbrev pub default_of : Defuzzify → Option Fallback
default_of s = first (filter_map default_line s.lines)

abbrev pub incomplete : Part → List ℕ
incomplete (part.Fuzzify s) = []
incomplete (part.Defuzzify s) =
    at_if (is_none (first (filter_map method_line s.lines)) || is_none (default_of s)) s.end
