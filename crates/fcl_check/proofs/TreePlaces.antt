-- The places of each kind of fault stand in the text that spells the tree, so they ascend.
use Rattle.fcl_check.proofs.Words.{[], ◌&&◌, ◌++◌, ◌∷◌, ◌≡◌, ◌⊎◌, abscissas, and_of, and_pairs, and_text, ands_pairs}
use Rattle.fcl_check.proofs.Words.{ands_text, ap, append-nil, AscendWithin, at_each, at_if, at_some, bad_fuzzy_range}
use Rattle.fcl_check.proofs.Words.{bad_range, behind, block_text, Bool, Conclusion, conclusion_text, conclusions_of}
use Rattle.fcl_check.proofs.Words.{conclusions_text, Declaration, Declared, declared_by, declared_in, Defuzzify}
use Rattle.fcl_check.proofs.Words.{defuzzy_range, DefuzzyLine, Direction, direction, each, either_text, empty_range}
use Rattle.fcl_check.proofs.Words.{end_text, Ends, fallback_number, FallbackValue, falling_in, falling_points}
use Rattle.fcl_check.proofs.Words.{flat_map, flat_map-append, FunctionBlock, Fuzzify, fuzzy_range, FuzzyLine, group}
use Rattle.fcl_check.proofs.Words.{hull_of, incomplete, Input, int_lt, is, is_declared_as, is_direction}
use Rattle.fcl_check.proofs.Words.{is_empty_range, is_none, is_over, is_whole, kinds, length, less, letters, lies_in}
use Rattle.fcl_check.proofs.Words.{line_at, List, list_any, LoadFault, lone, map, missing_part, mistaken, mistaken_in}
use Rattle.fcl_check.proofs.Words.{mistaken_section, more_ands, more_nots, Name, neg, no_ands, no_nots, None, not}
use Rattle.fcl_check.proofs.Words.{not_pairs, not_text, nots_pairs, nots_text, number_line, numbers_outside, offsets}
use Rattle.fcl_check.proofs.Words.{OffsetsAscend, Option, option_map, or_of, or_pairs, or_text, Output}
use Rattle.fcl_check.proofs.Words.{output_line_at, output_numbers, output_range_line, outside_in, Pair, Part}
use Rattle.fcl_check.proofs.Words.{part_text, plain, Point, points_of, points_outside, Range, range_line, refl}
use Rattle.fcl_check.proofs.Words.{repeated_lines, repeated_section, rule_item_text, rule_line_at, rule_line_text}
use Rattle.fcl_check.proofs.Words.{rulebase_text, same_declared, same_rule_line, same_section, section_name}
use Rattle.fcl_check.proofs.Words.{section_of, section_text, semicolon_text, shapeless_terms, SignedNumber, Singleton}
use Rattle.fcl_check.proofs.Words.{singleton_of, singletons_of, Some, str_to_ascii_lowercase, Sym, TAnd, TAnds, Term}
use Rattle.fcl_check.proofs.Words.{term_of, terms_of, terms_over_limit, TNot, TNots, too_many, TOr, twice, unknown}
use Rattle.fcl_check.proofs.Words.{unknown_in, unknown_pair, unknown_section, value, view, view_part, view_rule_item}
use Rattle.fcl_check.proofs.Words.{view_rule_line, view_section, view_weight, Weight, weight_outside, weight_text}
use Rattle.fcl_check.proofs.Words.{without_section, without_terms, wrong_side, ℕ}
use Rattle.fcl_tokens.specs.declared.token.Keyword.TheVariants as key
use Rattle.fcl_tokens.specs.declared.token.Token.TheVariants as tok
use Rattle.fcl_syntax.specs.Grammar.{name_token, is_text, TTerm, TRange, point_text, name_text, declaration_text}
use Rattle.fcl_syntax.specs.View.{view_with, view_point, view_term, view_fuzzy_line, view_singleton, view_fallback}
use Rattle.fcl_syntax.specs.View.{view_defuzzy_line, view_declaration, view_rulebase}
use Rattle.std.proofs.{Common.pos, Common.ℤ, Common.All, lemmas.List.Elements.All-nil, lemmas.List.Elements.All-cons}
use Rattle.std.specs.{Prelude.◌||◌}
use Rattle.fcl_syntax.specs.{declared.tree.Rule.Rule, declared.tree.RuleLine.RuleLine}
use Rattle.fcl_check.specs.{Order.PlacesAscend}
use Rattle.fcl_syntax.specs.declared.tree.Variables.{Variables}
use Rattle.fcl_syntax.specs.declared.tree.RuleLine.TheVariants as line
use Rattle.fcl_syntax.specs.declared.tree.DefuzzyLine.TheVariants as defuzzy
use Rattle.fcl_syntax.specs.declared.tree.FallbackValue.TheVariants as fallback
use Rattle.fcl_syntax.specs.declared.tree.FuzzyLine.TheVariants as fuzzy
use Rattle.fcl_syntax.specs.declared.tree.Part.TheVariants as part
use Rattle.fcl_syntax.specs.Grammar.{term_text, range_text, singleton_text, fallback_text, defuzzy_line_text}
use Rattle.fcl_check.proofs.Places.{StandIn, none, passed, taken, no_places, join, in_front, in_back, at_head}
use Rattle.fcl_check.proofs.Places.{at_head_and, in_some, in_row, dropped_items, in_each, in_each_after, in_each_kept}
use Rattle.fcl_check.proofs.Places.{in_first_kept, in_repeated, in_each_of_each, AscendWithin-places}

-- ---- Places of a rule's faults stand in the rule's text, and those of repeated lines in theirs.

-- ---- conditions

-- places at the two names of a pair, with what may stand between them
abbrev AtPair : (Name → Name → List ℕ) → Type 0
AtPair f = (v t : Name) (between : List Sym)
    → StandIn (f v t) (plain (name_token v) ∷ (between ++ plain (name_token t) ∷ []))

module _ (f : Name → Name → List ℕ) (d : AtPair f) where
  abbrev of_pair : Pair → List ℕ
  of_pair p = f p.variable p.term

  in_operand : (v t : Name) (i : ℕ) (b : Option ℕ) → StandIn (f v t ++ []) (is_text v i b t)
  in_operand v t i None = rw (append-nil (f v t)) (d v t (plain (tok.Word i key.Is) ∷ []))
  in_operand v t i (Some n) =
      rw (append-nil (f v t)) (d v t (plain (tok.Word i key.Is) ∷ plain (tok.Word n key.Not) ∷ []))

  in_both : (ps qs : List Pair) {front back : List Sym} → StandIn (flat_map of_pair ps) front
      → StandIn (flat_map of_pair qs) back → StandIn (flat_map of_pair (ps ++ qs)) (front ++ back)
  in_both ps qs d e = rw (flat_map-append of_pair ps qs) (join d e)

  mutual
    in_not : (t : TNot) (n : ℕ) → StandIn (flat_map of_pair (not_pairs t)) (not_text t n)
    in_not (neg at t) n = passed (in_not t (less n))
    in_not (group at o) n = passed (in_front _ (in_or o (less n)))
    in_not (is v i b t) n = in_operand v t i b
    in_not (lone v g) n = no_places _

    in_nots : (ts : TNots) (n : ℕ) → StandIn (flat_map of_pair (nots_pairs ts)) (nots_text ts n)
    in_nots no_nots n = none
    in_nots (more_nots at t ts) n = passed (in_both (not_pairs t) (nots_pairs ts) (in_not t n) (in_nots ts n))

    in_and : (a : TAnd) (n : ℕ) → StandIn (flat_map of_pair (and_pairs a)) (and_text a n)
    in_and (and_of t ts) n = in_both (not_pairs t) (nots_pairs ts) (in_not t n) (in_nots ts n)

    in_ands : (items : TAnds) (n : ℕ) → StandIn (flat_map of_pair (ands_pairs items)) (ands_text items n)
    in_ands no_ands n = none
    in_ands (more_ands at a items) n =
        passed (in_both (and_pairs a) (ands_pairs items) (in_and a n) (in_ands items n))

    in_or : (o : TOr) (n : ℕ) → StandIn (flat_map of_pair (or_pairs o)) (or_text o n)
    in_or (or_of a items) n = in_both (and_pairs a) (ands_pairs items) (in_and a n) (in_ands items n)

  in_conclusion : (c : Conclusion) → StandIn (f c.variable c.term) (conclusion_text c)
  in_conclusion c = d c.variable c.term (plain (tok.Word c.is_at key.Is) ∷ [])

  in_conclusions : (r : Rule)
      → StandIn (flat_map (λ (c : Conclusion). f c.variable c.term) (conclusions_of r))
      (conclusions_text (r.first, r.more))
  in_conclusions r = join (in_conclusion r.first) (in_row tok.Comma conclusion_text _ r.more in_conclusion)

-- ---- rules

in_rule : (ms ns : List ℕ) (r : Rule) → StandIn ms (or_text r.condition 64)
    → StandIn ns (conclusions_text (r.first, r.more))
    → StandIn (ms ++ ns) (rule_item_text (view_rule_item r))
in_rule ms ns r d e = passed (passed (passed (passed (join d (passed (in_front _ e))))))

pub at_rule : (r : Rule) → StandIn (r.at ∷ []) (rule_item_text (view_rule_item r))
at_rule r = taken refl (no_places _)

in_weight : (f : Weight → List ℕ) (o : Option Weight) → ((w : Weight) → StandIn (f w) (weight_text (view_with w)))
    → StandIn (at_some f o) (either_text weight_text semicolon_text (view_weight o))
in_weight f None d = no_places _
in_weight f (Some w) d = d w

pub weight_outside_in_rule : (r : Rule) → StandIn (weight_outside r) (rule_item_text (view_rule_item r))
weight_outside_in_rule r =
    passed (passed (passed (passed (in_back _ (passed (in_back (conclusions_text (r.first, r.more))
    (in_weight _ r.weight
    (λ w. at_head (int_lt (value w.value) (pos 0) || int_lt (pos 10000) (value w.value)) w.at refl))))))))

module _ (text : List ℕ) (b : FunctionBlock) where
  at_unknown : (side : Direction) → AtPair (unknown_pair text b side)
  at_unknown side v t between = at_head_and (is_none (direction text b v)) v.at refl (in_back between (search at_head))

  pub unknown_in_rule : (r : Rule) → StandIn (unknown_in text b r) (rule_item_text (view_rule_item r))
  unknown_in_rule r = in_rule _ _ r (in_or _ (at_unknown Input) r.condition 64)
      (in_conclusions _ (at_unknown Output) r)

  at_mistaken : (side : Direction) → AtPair (λ v t. mistaken text b side v)
  at_mistaken side v t between = search (in_some, at_head)

  pub mistaken_in_rule : (r : Rule) → StandIn (mistaken_in text b r) (rule_item_text (view_rule_item r))
  mistaken_in_rule r =
      in_rule _ _ r (in_or _ (at_mistaken Input) r.condition 64) (in_conclusions _ (at_mistaken Output) r)

-- ---- lines before the rules

pub at_rule_line : (test : Bool) (l : RuleLine)
    → StandIn (at_if test (rule_line_at l)) (rule_line_text (view_rule_line l))
at_rule_line test (line.And s) = at_head test s.at refl
at_rule_line test l = at_head test (rule_line_at l) refl

-- ---- Places of a section's faults stand in the section's text.

-- a number outside the range
abbrev outside_number : Ends → ℤ × ℕ → List ℕ
outside_number e n = at_if (not (lies_in e n.0)) n.1

-- ---- terms and their points

at_open : (test : Bool) (p : Point) → StandIn (at_if test p.open_at) (point_text (view_point p))
at_open test p = at_head test p.open_at refl

in_points : (t : Term) (ms ns : List ℕ) → StandIn ms (point_text (view_point t.first))
    → StandIn ns (each point_text (map view_point t.more))
    → StandIn (ms ++ ns) (term_text (view_term t))
in_points t ms ns d e = passed (passed (passed (in_front _ (join d e))))

in_points_after : (f : List Point → Point → List ℕ) (t : Term)
    → ((before : List Point) (p : Point) → StandIn (f before p) (point_text (view_point p)))
    → StandIn (at_each f [] (points_of t)) (term_text (view_term t))
in_points_after f t d =
    in_points t _ _ (d [] t.first) (in_each_after point_text view_point f (t.first ∷ []) t.more d)

falling_in_term : (t : Term) → StandIn (falling_in t) (term_text (view_term t))
falling_in_term t = search (in_points_after, at_open)

outside_in_term : (e : Ends) (t : Term) → StandIn (outside_in e t) (term_text (view_term t))
outside_in_term e t = in_points t _ _ (search at_open) (in_each point_text view_point _ t.more (search at_open))

-- ---- sections

abbrev fuzzy_line_text : TTerm ⊎ TRange → List Sym
fuzzy_line_text = either_text term_text range_text

abbrev lines_text : Part → List Sym
lines_text (part.Fuzzify s) = each fuzzy_line_text (map view_fuzzy_line s.lines)
lines_text (part.Defuzzify s) = each defuzzy_line_text (map view_defuzzy_line s.lines)

in_lines : {ns : List ℕ} (p : Part) → StandIn ns (lines_text p) → StandIn ns (part_text (view_part p))
in_lines (part.Fuzzify s) d = passed (passed (in_front _ d))
in_lines (part.Defuzzify s) d = passed (passed (in_front _ d))

pub at_name : (test : Bool) (p : Part) → StandIn (at_if test (section_name p).at) (part_text (view_part p))
at_name test (part.Fuzzify s) = passed (at_head test s.name.at refl)
at_name test (part.Defuzzify s) = passed (at_head test s.name.at refl)

at_name_and : {ns : List ℕ} (test : Bool) (p : Part) → StandIn ns (lines_text p)
    → StandIn (at_if test (section_name p).at ++ ns) (part_text (view_part p))
at_name_and test (part.Fuzzify s) d = passed (at_head_and test s.name.at refl (in_front _ d))
at_name_and test (part.Defuzzify s) d = passed (at_head_and test s.name.at refl (in_front _ d))

at_fuzzify_end : (test : Bool) (s : Fuzzify) → StandIn (at_if test s.end) (part_text (view_part (part.Fuzzify s)))
at_fuzzify_end test s = passed (passed (in_back _ (at_head test s.end refl)))

at_defuzzify_end : (test : Bool) (s : Defuzzify) → StandIn (at_if test s.end) (part_text (view_part (part.Defuzzify s)))
at_defuzzify_end test s = passed (passed (in_back _ (at_head test s.end refl)))

-- ---- lines

at_line : (test : Bool) (l : FuzzyLine) → StandIn (at_if test (line_at l)) (fuzzy_line_text (view_fuzzy_line l))
at_line test (fuzzy.Term t) = passed (at_head test t.name.at refl)
at_line test (fuzzy.Range r) = at_head test r.at refl

at_output_line : (test : Bool) (l : DefuzzyLine)
    → StandIn (at_if test (output_line_at l)) (defuzzy_line_text (view_defuzzy_line l))
at_output_line test (defuzzy.Singleton t) = passed (at_head test t.name.at refl)
at_output_line test l = at_head test (output_line_at l) refl

in_terms : (f : Term → List ℕ) (s : Fuzzify) → ((t : Term) → StandIn (f t) (term_text (view_term t)))
    → StandIn (flat_map f (terms_of s)) (part_text (view_part (part.Fuzzify s)))
in_terms f s d = in_lines (part.Fuzzify s) (in_each_kept fuzzy_line_text view_fuzzy_line term_of f s.lines at_term)
  where
    at_term : (l : FuzzyLine) → StandIn (at_some f (term_of l)) (fuzzy_line_text (view_fuzzy_line l))
    at_term (fuzzy.Term t) = d t
    at_term (fuzzy.Range r) = no_places _

in_singletons : (f : Singleton → List ℕ) (s : Defuzzify)
    → ((t : Singleton) → StandIn (f t) (singleton_text (view_singleton t)))
    → StandIn (flat_map f (singletons_of s)) (part_text (view_part (part.Defuzzify s)))
in_singletons f s d =
    in_lines (part.Defuzzify s) (in_each_kept defuzzy_line_text view_defuzzy_line singleton_of f s.lines at_singleton)
  where
    at_singleton : (l : DefuzzyLine) → StandIn (at_some f (singleton_of l)) (defuzzy_line_text (view_defuzzy_line l))
    at_singleton (defuzzy.Singleton t) = d t
    at_singleton _ = no_places _

in_range : (s : Fuzzify) → StandIn (at_some empty_range (fuzzy_range s)) (lines_text (part.Fuzzify s))
in_range s = in_first_kept fuzzy_line_text view_fuzzy_line range_line empty_range s.lines at_range
  where
    at_range : (l : FuzzyLine) → StandIn (at_some empty_range (range_line l)) (fuzzy_line_text (view_fuzzy_line l))
    at_range (fuzzy.Term t) = no_places _
    at_range (fuzzy.Range r) = search at_head

in_output_range : (s : Defuzzify) → StandIn (at_some empty_range (defuzzy_range s)) (lines_text (part.Defuzzify s))
in_output_range s = in_first_kept defuzzy_line_text view_defuzzy_line output_range_line empty_range
    s.lines at_range
  where
    at_range : (l : DefuzzyLine)
        → StandIn (at_some empty_range (output_range_line l)) (defuzzy_line_text (view_defuzzy_line l))
    at_range (defuzzy.Range r) = search at_head
    at_range _ = no_places _

in_numbers : (e : Ends) (s : Defuzzify)
    → StandIn (flat_map (outside_number e) (output_numbers s)) (part_text (view_part (part.Defuzzify s)))
in_numbers e s = in_lines (part.Defuzzify s)
    (in_each_kept defuzzy_line_text view_defuzzy_line number_line _ s.lines at_number)
  where
    at_default : (at : ℕ) (v : FallbackValue)
        → StandIn (at_some (outside_number e) (option_map (λ (n : SignedNumber). (value n, at)) (fallback_number v)))
        (fallback_text (view_fallback (record { at = at; value = v })))
    at_default at (fallback.Number n) = search at_head
    at_default at (fallback.Nc nc) = no_places _

    at_number : (l : DefuzzyLine)
        → StandIn (at_some (outside_number e) (number_line l)) (defuzzy_line_text (view_defuzzy_line l))
    at_number (defuzzy.Singleton t) = search at_head
    at_number (defuzzy.Default d) = at_default d.at d.value
    at_number _ = no_places _

-- ---- the faults of one section

-- the section's name, where an earlier one has it, and the lines that are given twice in it
pub repeated_in_section : (text : List ℕ) (b : FunctionBlock) (test : Bool) (p : Part)
    → StandIn (at_if test (section_name p).at ++ repeated_lines text b p) (part_text (view_part p))
repeated_in_section text b test (part.Fuzzify s) =
    at_name_and test (part.Fuzzify s) (in_repeated _ view_fuzzy_line _ line_at s.lines at_line)
repeated_in_section text b test (part.Defuzzify s) =
    at_name_and test (part.Defuzzify s) (in_repeated _ view_defuzzy_line _ output_line_at s.lines at_output_line)

pub without_terms_in_section : (p : Part) → StandIn (without_terms p) (part_text (view_part p))
without_terms_in_section (part.Fuzzify s) = search at_fuzzify_end
without_terms_in_section (part.Defuzzify s) = search at_defuzzify_end

pub terms_over_limit_in_section : (p : Part) → StandIn (terms_over_limit p) (part_text (view_part p))
terms_over_limit_in_section (part.Fuzzify s) =
    dropped_items _ 15 (terms_of s) (in_terms _ s (λ t. passed (taken refl (no_places _))))
terms_over_limit_in_section (part.Defuzzify s) =
    dropped_items _ 15 (singletons_of s) (in_singletons _ s (λ t. passed (taken refl (no_places _))))

pub falling_points_in_section : (p : Part) → StandIn (falling_points p) (part_text (view_part p))
falling_points_in_section (part.Fuzzify s) = in_terms falling_in s falling_in_term
falling_points_in_section (part.Defuzzify s) = no_places _

pub shapeless_terms_in_section : (p : Part) → StandIn (shapeless_terms p) (part_text (view_part p))
shapeless_terms_in_section (part.Fuzzify s) = search (in_terms, at_head)
shapeless_terms_in_section (part.Defuzzify s) = no_places _

pub points_outside_in_section : (p : Part) → StandIn (points_outside p) (part_text (view_part p))
points_outside_in_section (part.Fuzzify s) = search (in_some, in_terms, outside_in_term)
points_outside_in_section (part.Defuzzify s) = no_places _

pub numbers_outside_in_section : (p : Part) → StandIn (numbers_outside p) (part_text (view_part p))
numbers_outside_in_section (part.Fuzzify s) = no_places _
numbers_outside_in_section (part.Defuzzify s) = search (in_some, in_numbers)

bad_fuzzy_range_in_section : (is_input : Bool) (s : Fuzzify) (o : Option Range)
    → StandIn (at_some empty_range o) (lines_text (part.Fuzzify s))
    → StandIn (bad_fuzzy_range is_input s o) (part_text (view_part (part.Fuzzify s)))
bad_fuzzy_range_in_section is_input s (Some r) d = in_lines (part.Fuzzify s) d
bad_fuzzy_range_in_section is_input s None d =
    in_some _ (hull_of (abscissas s)) (λ e. at_name (is_input && is_empty_range e) (part.Fuzzify s))

pub bad_range_in_section : (is_input : Name → Bool) (p : Part)
    → StandIn (bad_range is_input p) (part_text (view_part p))
bad_range_in_section is_input (part.Fuzzify s) =
    bad_fuzzy_range_in_section (is_input s.name) s (fuzzy_range s) (in_range s)
bad_range_in_section is_input (part.Defuzzify s) = in_lines (part.Defuzzify s) (in_output_range s)

pub incomplete_in_section : (p : Part) → StandIn (incomplete p) (part_text (view_part p))
incomplete_in_section (part.Fuzzify s) = no_places _
incomplete_in_section (part.Defuzzify s) = search at_defuzzify_end

pub mistaken_in_section : (text : List ℕ) (b : FunctionBlock) (p : Part)
    → StandIn (mistaken_section text b p) (part_text (view_part p))
mistaken_in_section text b (part.Fuzzify s) =
    in_some _ (direction text b s.name) (λ side. at_name (not (is_direction Input side)) (part.Fuzzify s))
mistaken_in_section text b (part.Defuzzify s) =
    in_some _ (direction text b s.name) (λ side. at_name (not (is_direction Output side)) (part.Defuzzify s))

-- ---- declared names

abbrev names_of : Direction → Declaration → List Declared
names_of side d = map (λ (n : Name). (side, n)) (d.first ∷ d.more)

-- places at declared names, which look at those before them, the nearest first
module _ (f : List Declared → Declared → List ℕ)
    (d : (before : List Declared) (e : Declared) → StandIn (f before e) (name_text e.1)) where
  in_names : (side : Direction) (before : List Declared) (names : List Name)
      → StandIn (at_each f before (map (λ (n : Name). (side, n)) names)) (behind tok.Comma name_text names)
  in_names side before [] = none
  in_names side before (n ∷ names) = passed (join (d before (side, n)) (in_names side ((side, n) ∷ before) names))

  in_declaration : (side : Direction) (before : List Declared) (declaration : Declaration)
      → StandIn (at_each f before (names_of side declaration)) (declaration_text (view_declaration declaration))
  in_declaration side before declaration =
      in_front _ (join (d before (side, declaration.first))
      (in_names side ((side, declaration.first) ∷ before) declaration.more))

  in_variables : (before : List Declared) (v : Variables)
      → StandIn (at_each f before (declared_by v)) (section_text (view_section v))
  in_variables before v =
      passed
      (in_front _ (in_each_of_each declaration_text view_declaration f
      (names_of v.direction) before v.declarations (in_declaration v.direction)))

  in_declared : (b : FunctionBlock)
      → StandIn (at_each f [] (declared_in b)) (each section_text (map view_section b.variables))
  in_declared b = in_each_of_each section_text view_section f declared_by [] b.variables in_variables

-- places that do not look at the items before theirs
at_each-constant : {X : Type 0} (f : X → List ℕ) (before xs : List X)
    → at_each (λ (before : List X) (x : X). f x) before xs ≡ flat_map f xs
at_each-constant f before [] = refl
at_each-constant f before (x ∷ xs) = ap (λ (ns : List ℕ). f x ++ ns) (at_each-constant f (x ∷ before) xs)

-- ---- a block

in_block : {ls ms ns : List ℕ} (b : FunctionBlock) → StandIn ls (each section_text (map view_section b.variables))
    → StandIn ms (each part_text (map view_part b.parts))
    → StandIn ns (rulebase_text (view_rulebase b.rules) ++ end_text (view b).end)
    → StandIn (ls ++ (ms ++ ns)) (block_text (view b))
in_block b d e g = passed (passed (join d (join e g)))

in_parts : (f : Part → List ℕ) (b : FunctionBlock) → ((p : Part) → StandIn (f p) (part_text (view_part p)))
    → StandIn (flat_map f b.parts) (block_text (view b))
in_parts f b d = passed
    (passed (in_back (each section_text (map view_section b.variables))
    (in_front _ (in_each part_text view_part f b.parts d))))

in_rule_lines : {ns : List ℕ} (b : FunctionBlock) → StandIn ns (each rule_line_text (map view_rule_line b.rules.lines))
    → StandIn ns (rulebase_text (view_rulebase b.rules) ++ end_text (view b).end)
in_rule_lines b d = passed (passed (in_front _ (in_front _ d)))

in_rules : {ns : List ℕ} (b : FunctionBlock) → StandIn ns (each rule_item_text (map view_rule_item b.rules.rules))
    → StandIn ns (rulebase_text (view_rulebase b.rules) ++ end_text (view b).end)
in_rules b d = passed (passed (in_front _ (in_back _ (in_front _ d))))

-- ---- the kinds

-- a kind of fault, with its places
abbrev Kind : Type 0
Kind = (ℕ → LoadFault) × List ℕ

abbrev Ascends : ℕ → Kind → Type 0
Ascends end k = AscendWithin 0 end k.1

abbrev EachStandsIn : List Sym → List Kind → Type 0
EachStandsIn text [] = Unit {0}
EachStandsIn text (k ∷ ks) = StandIn k.1 text × EachStandsIn text ks

each_ascends : (end : ℕ) (text : List Sym) (ks : List Kind) → AscendWithin 0 end (offsets text) → EachStandsIn text ks
    → All (Ascends end) ks
each_ascends end text [] up d = All-nil (Ascends end)
each_ascends end text (k ∷ ks) up d =
    All-cons (Ascends end) k ks (AscendWithin-places 0 end d.0 up) (each_ascends end text ks up d.1)

module _ (text : List ℕ) (b : FunctionBlock) where
  twice_in_block : StandIn (twice text b) (block_text (view b))
  twice_in_block = in_block b
      (in_declared _ (λ before e. at_head (list_any (same_declared text b e) before) e.1.at refl) b)
      (in_each_after part_text view_part (repeated_section text b) [] b.parts
      (λ before p. repeated_in_section text b (list_any (same_section text b p) before) p))
      (in_rule_lines b (in_repeated rule_line_text view_rule_line same_rule_line rule_line_at b.rules.lines
      at_rule_line))

  unknown_in_block : StandIn (unknown text b) (block_text (view b))
  unknown_in_block = in_block b (no_places _)
      (in_each part_text view_part (unknown_section text b) b.parts
      (λ p. at_name (is_none (direction text b (section_name p))) p))
      (in_rules b (in_each rule_item_text view_rule_item (unknown_in text b) b.rules.rules
      (unknown_in_rule text b)))

  too_many_in_block : StandIn (too_many text b) (block_text (view b))
  too_many_in_block = in_block b (in_declared _ (λ before e. at_head (is_over before e) e.1.at refl) b)
      (in_each part_text view_part terms_over_limit b.parts terms_over_limit_in_section)
      (in_rules b (dropped_items (λ (r : Rule). r.at) 256 b.rules.rules
      (in_each rule_item_text view_rule_item _ b.rules.rules at_rule)))

  weight_outside_in_block : StandIn (flat_map weight_outside b.rules.rules) (block_text (view b))
  weight_outside_in_block = in_block b (no_places _) (no_places _)
      (in_rules b (in_each rule_item_text view_rule_item weight_outside b.rules.rules weight_outside_in_rule))

  wrong_side_in_block : StandIn (wrong_side text b) (block_text (view b))
  wrong_side_in_block = in_block b (no_places _)
      (in_each part_text view_part (mistaken_section text b) b.parts (mistaken_in_section text b))
      (in_rules b (in_each rule_item_text view_rule_item (mistaken_in text b) b.rules.rules
      (mistaken_in_rule text b)))

  missing_part_in_block : StandIn (missing_part text b) (block_text (view b))
  missing_part_in_block = in_block b
      (rw (← at_each-constant (without_section text b) [] (declared_in b)) (in_declared _
      (λ before e. at_head (is_none (section_of text b (letters text e.1))) e.1.at refl) b))
      (in_each part_text view_part incomplete b.parts incomplete_in_section)
      (in_back (rulebase_text (view_rulebase b.rules)) (at_head (not (is_whole text b)) b.end refl))

  all_in_block : EachStandsIn (block_text (view b)) (kinds text b)
  all_in_block = (
    twice_in_block,
    (
      unknown_in_block,
      (
        in_parts without_terms b without_terms_in_section,
        (
          too_many_in_block,
          (
            in_parts falling_points b falling_points_in_section,
            (
              in_parts shapeless_terms b shapeless_terms_in_section,
              (
                in_parts points_outside b points_outside_in_section,
                (
                  in_parts (bad_range (is_declared_as text b Input)) b
                      (bad_range_in_section (is_declared_as text b Input)),
                  (
                    in_parts numbers_outside b numbers_outside_in_section,
                    (
                      weight_outside_in_block,
                      (
                        wrong_side_in_block,
                        (missing_part_in_block, tt),
                      ),
                    ),
                  ),
                ),
              ),
            ),
          ),
        ),
      ),
    ),
  )

pub places_ascend : OffsetsAscend → PlacesAscend
places_ascend offsets_ascend text b s =
    each_ascends (length text) (block_text (view b)) (kinds (str_to_ascii_lowercase text) b)
    (offsets_ascend text (view b) s) (all_in_block (str_to_ascii_lowercase text) b)
