-- A tree without load faults: no kind has a place, neither in a section nor in a rule.
use Rattle.fcl_check.proofs.Words.{[], ◌&&◌, ◌++◌, ◌+◌, ◌<◌, ◌||◌, ◌∙◌, ◌∷◌, ◌≡◌, ◌≤◌, abscissa_of, All}
use Rattle.fcl_check.proofs.Words.{All-from_recursion, AllByRecursion, ap, AreCornersOf, arith, as_defuzzify}
use Rattle.fcl_check.proofs.Words.{as_fuzzify, at_each, at_if, at_some, bad_range, Bool, Bor, bytes_eq-Decides}
use Rattle.fcl_check.proofs.Words.{Conclusion, conclusions_of, cond, cons_option, Corners, Dec, Declared, declared_as}
use Rattle.fcl_check.proofs.Words.{declared_in, default_of, Defuzzify, defuzzy_range, DefuzzyLine, Direction}
use Rattle.fcl_check.proofs.Words.{direction, drop, drop_while, Ends, fallback_number, falling_points, false, filter}
use Rattle.fcl_check.proofs.Words.{filter_map, find, first, first_fault, flat_map, FunctionBlock, Fuzzify}
use Rattle.fcl_check.proofs.Words.{fuzzy_range, get_or, given_or, has_one, has_shape, has_zero, HasSection, hull_of}
use Rattle.fcl_check.proofs.Words.{incomplete, Input, input_range, is_declared_as, is_direction, is_named, is_none}
use Rattle.fcl_check.proofs.Words.{is_over, is_some_direction, IsKnown, IsSome, IsWellFormedDefuzzify}
use Rattle.fcl_check.proofs.Words.{IsWellFormedFuzzify, IsWellFormedRule, kinds, length, length-map, letters, List}
use Rattle.fcl_check.proofs.Words.{list_any, LoadFault, map, method_line, missing_part, mistaken, mistaken_in}
use Rattle.fcl_check.proofs.Words.{mistaken_section, Name, names_of, nat_le, nat_tests, None, not, number_in}
use Rattle.fcl_check.proofs.Words.{number_line, numbers_outside, Option, option_and_then, option_map, option_or}
use Rattle.fcl_check.proofs.Words.{or_zero, Output, output_hull, output_range, Pair, Part, Point, points_of}
use Rattle.fcl_check.proofs.Words.{points_outside, Range, refl, repeated, same_declared, sameb}
use Rattle.fcl_check.proofs.Words.{section_name, section_of, shapeless_terms, SignedNumber, Singleton}
use Rattle.fcl_check.proofs.Words.{singleton_names, singleton_of, singletons_of, slice_get, Some, subst, suc, sym}
use Rattle.fcl_check.proofs.Words.{Term, term_names, term_number, terms_of, terms_over_limit, the_type, too_many}
use Rattle.fcl_check.proofs.Words.{true, twice, unknown, unknown_in, unknown_pair, unknown_section, value, Variable}
use Rattle.fcl_check.proofs.Words.{variable_in, variable_number, weight_outside, widened, without_section}
use Rattle.fcl_check.proofs.Words.{without_terms, wrong_side, x_of, zero, ℕ, ℤ}
use Rattle.std.proofs.{lemmas.Bool.lt-leb, lemmas.List.length-drop, Common.if◌then◌else◌}
use Rattle.fcl_syntax.specs.{declared.tree.Rule.Rule, declared.tree.Tree.Tree}
use Rattle.fcl_check.specs.{Faults.condition_pairs, Faults.most_of, Names.defuzzify_of, Names.fuzzify_of}
use Rattle.fcl_check.specs.{Names.direction_of, Steps.room_behind, declared.check.kinds.Room.Room}
use Rattle.fcl_syntax.specs.declared.tree.Part.TheVariants as part
use Rattle.fcl_syntax.specs.declared.tree.Direction.TheVariants as side
use Rattle.fcl_syntax.specs.declared.tree.DefuzzyLine.TheVariants as defuzzy
use Rattle.fcl_check.proofs.Places.{first-append, first-map, first-map-drop}
use Rattle.fcl_check.proofs.Naming.{same-direction, section-at, number_within}
use Rattle.fcl_check.proofs.Elements.{drop_while-all, none-passes}

-- ---- lists without items

pub no_items : {X : Type 0} (xs ys : List X) → xs ++ ys ≡ [] → (xs ≡ []) × (ys ≡ [])
no_items [] ys h = (refl, h)
no_items (x ∷ xs) ys h = absurd cc

pub no_place : (test : Bool) (at : ℕ) → at_if test at ≡ [] → test ≡ false
no_place true at h = cc
no_place false at h = refl

pub shaped : (test : Bool) (at : ℕ) → at_if (not test) at ≡ [] → test ≡ true
shaped true at h = refl
shaped false at h = absurd cc

pub nowhere : {X Y : Type 0} (f : X → List Y) (xs : List X) → flat_map f xs ≡ [] → AllByRecursion (λ x. f x ≡ []) xs
nowhere f [] h = tt
nowhere f (x ∷ xs) h =
    let both = no_items (f x) (flat_map f xs) h in
    (both.0, nowhere f xs both.1)

-- none at an item that is found
pub not_at : {X Y : Type 0} (f : X → List Y) (test : X → Bool) (xs : List X) (y : X) → flat_map f xs ≡ []
    → find test xs ≡ Some y → f y ≡ []
not_at f test [] y h found = cc
not_at f test (x ∷ xs) y h found =
    let both = no_items (f x) (flat_map f xs) h in
    elim (test x) as (λ b. cond b (Some x) (find test xs) ≡ Some y → f y ≡ []) [
      | true ↦ λ e. let same : x ≡ y = cc in rw (← same) both.0
      | false ↦ λ e. not_at f test xs y both.1 e
    ] found

no_kind : (ks : List ((ℕ → LoadFault) × List ℕ))
    → first (flat_map (λ (k : (ℕ → LoadFault) × List ℕ). map k.0 k.1) ks) ≡ None
    → AllByRecursion (λ (k : (ℕ → LoadFault) × List ℕ). k.1 ≡ []) ks
no_kind [] h = tt
no_kind ((fault, []) ∷ ks) h = (refl, no_kind ks h)
no_kind ((fault, at ∷ ats) ∷ ks) h = absurd cc

-- ---- names

-- declared, and not on the other side
pub known_side : (side : Direction) (o : Option Direction) (at : ℕ) → at_if (is_none o) at ≡ []
    → at_some (λ (d : Direction). at_if (not (is_direction side d)) at) o ≡ [] → is_some_direction side o ≡ true
known_side side None at h k = cc
known_side side (Some d) at h k =
    elim (is_direction side d) as (λ b. at_if (not b) at ≡ [] → b ≡ true) [ true ↦ λ e. refl | false ↦ λ e. cc ] k

known_number : (test : Bool) (o : Option ℕ) (at : ℕ) → test ≡ true → at_if (test && is_none o) at ≡ []
    → (n : ℕ) × (o ≡ Some n)
known_number true (Some n) at h k = (n, refl)
known_number _ _ at h k = absurd cc

-- ---- sections by their sort

fuzzify_found : (o : Option Part) (s : Fuzzify) → option_and_then as_fuzzify o ≡ Some s → o ≡ Some (part.Fuzzify s)
fuzzify_found (Some (part.Fuzzify f)) s h = cc
fuzzify_found _ s h = cc

defuzzify_found : (o : Option Part) (s : Defuzzify) → option_and_then as_defuzzify o ≡ Some s
    → o ≡ Some (part.Defuzzify s)
defuzzify_found (Some (part.Defuzzify f)) s h = cc
defuzzify_found _ s h = cc

module _ (text : List ℕ) (b : FunctionBlock) where
  known : (side : Direction) (v t : Name) → unknown_pair text b side v t ≡ [] → mistaken text b side v ≡ []
      → IsKnown text b side v t
  known side v t h k =
      let both = no_items (at_if (is_none (direction text b v)) v.at) _ h in
      let declared = known_side side (direction text b v) v.at both.0 k in
      let found = known_number (is_declared_as text b side v)
      (term_number text b side (letters text v) (letters text t)) t.at declared both.1 in
      record { declared = declared; number = found.0; numbered = found.1 }

  -- ---- rules

  all_known : {X : Type 0} (side : Direction) (v t : X → Name) (xs : List X)
      → flat_map (λ x. unknown_pair text b side (v x) (t x)) xs ≡ []
      → flat_map (λ x. mistaken text b side (v x)) xs ≡ [] → AllByRecursion (λ x. IsKnown text b side (v x) (t x)) xs
  all_known side v t [] h k = tt
  all_known side v t (x ∷ xs) h k =
      let here = no_items (unknown_pair text b side (v x) (t x)) _ h in
      let sided = no_items (mistaken text b side (v x)) _ k in
      (known side (v x) (t x) here.0 sided.0, all_known side v t xs here.1 sided.1)

  well_formed_rule : (r : Rule) → unknown_in text b r ≡ [] → mistaken_in text b r ≡ [] → weight_outside r ≡ []
      → IsWellFormedRule text b r
  well_formed_rule r h k w =
      let pairs = condition_pairs r in
      let ends = conclusions_of r in
      let here = no_items (flat_map (λ (p : Pair). unknown_pair text b Input p.variable p.term) pairs) _ h in
      let sided = no_items (flat_map (λ (p : Pair). mistaken text b Input p.variable) pairs) _ k in
      record {
        condition = all_known Input (λ (p : Pair). p.variable) (λ (p : Pair). p.term) pairs here.0 sided.0;
        conclusions = all_known Output (λ (c : Conclusion). c.variable)
            (λ (c : Conclusion). c.term) ends here.1 sided.1;
        weight = w;
      }

  all_well_formed : (rs : List Rule) → flat_map (unknown_in text b) rs ≡ [] → flat_map (mistaken_in text b) rs ≡ []
      → flat_map weight_outside rs ≡ []
      → AllByRecursion (IsWellFormedRule text b) rs
  all_well_formed [] h k w = tt
  all_well_formed (r ∷ rs) h k w =
      let here = no_items (unknown_in text b r) _ h in
      let sided = no_items (mistaken_in text b r) _ k in
      let weighed = no_items (weight_outside r) _ w in
      (well_formed_rule r here.0 sided.0 weighed.0, all_well_formed rs here.1 sided.1 weighed.1)

  -- ---- sections

  pub record IsWellFormedPart (p : Part) : Type 0 where
    pub known : unknown_section text b p ≡ []
    pub some : without_terms p ≡ []
    pub few : terms_over_limit p ≡ []
    pub ascending : falling_points p ≡ []
    pub shaped : shapeless_terms p ≡ []
    pub inside : points_outside p ≡ []
    pub range : bad_range (is_declared_as text b Input) p ≡ []
    pub numbers : numbers_outside p ≡ []
    pub sided : mistaken_section text b p ≡ []
    pub complete : incomplete p ≡ []

  -- ---- the tree

  -- no place of any kind, in the order of the kinds
  pub record IsFaultless : Type 0 where
    pub once : twice text b ≡ []
    pub names : unknown text b ≡ []
    pub terms : flat_map without_terms b.parts ≡ []
    pub counts : too_many text b ≡ []
    pub falls : flat_map falling_points b.parts ≡ []
    pub shapes : flat_map shapeless_terms b.parts ≡ []
    pub points : flat_map points_outside b.parts ≡ []
    pub ranges : flat_map (bad_range (is_declared_as text b Input)) b.parts ≡ []
    pub numbers : flat_map numbers_outside b.parts ≡ []
    pub weights : flat_map weight_outside b.rules.rules ≡ []
    pub sides : wrong_side text b ≡ []
    pub missing : missing_part text b ≡ []

  pub faultless : first_fault text b ≡ None → IsFaultless
  faultless well_formed =
      let none = no_kind (kinds text b) well_formed in
      record {
        once = none.0;
        names = none.1.0;
        terms = none.1.1.0;
        counts = none.1.1.1.0;
        falls = none.1.1.1.1.0;
        shapes = none.1.1.1.1.1.0;
        points = none.1.1.1.1.1.1.0;
        ranges = none.1.1.1.1.1.1.1.0;
        numbers = none.1.1.1.1.1.1.1.1.0;
        weights = none.1.1.1.1.1.1.1.1.1.0;
        sides = none.1.1.1.1.1.1.1.1.1.1.0;
        missing = none.1.1.1.1.1.1.1.1.1.1.1.0;
      }

  module _ (well_formed : IsFaultless) where
    -- the section of a name
    pub part_well_formed : (ls : List ℕ) (p : Part) → section_of text b ls ≡ Some p → IsWellFormedPart p
    part_well_formed ls p found =
        let parts = b.parts in
        let test = λ (q : Part). is_named text ls (section_name q) in
        let names = no_items (flat_map (unknown_section text b) parts) _ well_formed.names in
        let counts = no_items (flat_map terms_over_limit parts) _ (no_items _ _ well_formed.counts).1 in
        let sides = no_items (flat_map (mistaken_section text b) parts) _ well_formed.sides in
        let whole = no_items (flat_map incomplete parts) _ (no_items _ _ well_formed.missing).1 in
        record {
          known = not_at (unknown_section text b) test parts p names.0 found;
          some = not_at without_terms test parts p well_formed.terms found;
          few = not_at terms_over_limit test parts p counts.0 found;
          ascending = not_at falling_points test parts p well_formed.falls found;
          shaped = not_at shapeless_terms test parts p well_formed.shapes found;
          inside = not_at points_outside test parts p well_formed.points found;
          range = not_at (bad_range (is_declared_as text b Input)) test parts p well_formed.ranges found;
          numbers = not_at numbers_outside test parts p well_formed.numbers found;
          sided = not_at (mistaken_section text b) test parts p sides.0 found;
          complete = not_at incomplete test parts p whole.0 found;
        }

    pub well_formed_input : (ls : List ℕ) (s : Fuzzify) → fuzzify_of text b ls ≡ Some s
        → IsWellFormedPart (part.Fuzzify s)
    well_formed_input ls s found = part_well_formed ls (part.Fuzzify s) (fuzzify_found (section_of text b ls) s found)

    pub well_formed_output : (ls : List ℕ) (s : Defuzzify) → defuzzify_of text b ls ≡ Some s
        → IsWellFormedPart (part.Defuzzify s)
    well_formed_output ls s found = part_well_formed ls (part.Defuzzify s)
        (defuzzify_found (section_of text b ls) s found)

    pub well_formed_rules : AllByRecursion (IsWellFormedRule text b) b.rules.rules
    well_formed_rules =
        let names = no_items (flat_map (unknown_section text b) b.parts) _ well_formed.names in
        let sides = no_items (flat_map (mistaken_section text b) b.parts) _ well_formed.sides in
        all_well_formed b.rules.rules names.1 sides.1 well_formed.weights

-- ---- The first kind of fault that occurs, kind by kind.

abbrev pub first_of_kinds : List ((ℕ → LoadFault) × List ℕ) → Option LoadFault
first_of_kinds [] = None
first_of_kinds (k ∷ ks) = option_or (option_map k.0 (first k.1)) (first_of_kinds ks)

first-kinds : (ks : List ((ℕ → LoadFault) × List ℕ)) → first (flat_map (λ k. map k.0 k.1) ks) ≡ first_of_kinds ks
first-kinds [] = refl
first-kinds (k ∷ ks) =
    rw (first-append (map k.0 k.1) (flat_map (λ k. map k.0 k.1) ks), first-map k.0 k.1, first-kinds ks) refl

pub first_fault_by_kinds : (text : List ℕ) (b : FunctionBlock) → first_fault text b ≡ first_of_kinds (kinds text b)
first_fault_by_kinds text b = first-kinds (kinds text b)

-- ---- The first of what is over a limit.

-- the first place with no room left
abbrev pub over_from : Room → List Declared → Option ℕ
over_from r [] = None
over_from r (d ∷ ds) = elim (room_behind r d.0) [ None ↦ Some d.1.at | Some left ↦ over_from left ds ]

abbrev room : ℕ → ℕ → Room
room i o = record { inputs = i; outputs = o }

-- how many names a side has
abbrev pub of_side : Direction → List Declared → ℕ
of_side side before = length (filter (λ (e : Declared). is_direction side e.0) before)

abbrev pub over : List Declared → Declared → List ℕ
over before d = at_if (is_over before d) d.1.at

over_is : (i o : ℕ) (before ds : List Declared) → i + of_side Input before ≡ 8 → o + of_side Output before ≡ 4
    → over_from (room i o) ds ≡ first (at_each over before ds)
over_is i o before [] hi ho = refl
over_is zero o before ((Input, n) ∷ ds) hi ho =
    let e : of_side Input before ≡ 8 = omega arith in
    rw e refl
over_is (suc i) o before ((Input, n) ∷ ds) hi ho =
    let e : nat_le 8 (of_side Input before) ≡ false = lt-leb 8 (of_side Input before) (omega arith) in
    rw e (over_is i o ((Input, n) ∷ before) ds (omega arith) ho)
over_is i zero before ((Output, n) ∷ ds) hi ho =
    let e : of_side Output before ≡ 4 = omega arith in
    rw e refl
over_is i (suc o) before ((Output, n) ∷ ds) hi ho =
    let e : nat_le 4 (of_side Output before) ≡ false = lt-leb 4 (of_side Output before) (omega arith) in
    rw e (over_is i o ((Output, n) ∷ before) ds hi (omega arith))

pub over_first : (ds : List Declared)
    → first (at_each (λ (before : List Declared) (d : Declared). at_if (is_over before d) d.1.at) [] ds) ≡ over_from
    (room 8 4) ds
over_first ds = sym (over_is 8 4 [] ds refl refl)

pub too_many_first : (text : List ℕ) (b : FunctionBlock)
    → first (too_many text b) ≡ option_or (first (at_each over [] (declared_in b)))
    (option_or (first (flat_map terms_over_limit b.parts))
    (option_map (λ (r : Rule). r.at) (slice_get b.rules.rules 256)))
too_many_first text b =
    let names = at_each over [] (declared_in b) in
    let terms = flat_map terms_over_limit b.parts in
    let rules = map (λ (r : Rule). r.at) (drop 256 b.rules.rules) in
    first-append names (terms ++ rules) ∙ ap (option_or (first names)) (first-append terms rules
    ∙ ap (option_or (first terms)) (first-map-drop (λ (r : Rule). r.at) 256 b.rules.rules))

-- ---- How many names, terms and rules there are where none is missing and none too many.

pub some_item : {X : Type 0} (xs : List X) (at : ℕ) → at_if (is_none (first xs)) at ≡ [] → 1 ≤ length xs
some_item [] at h = absurd cc
some_item (x ∷ xs) at h = omega arith

pub few_items : {X Y : Type 0} (n : ℕ) (f : X → Y) (xs : List X) → map f (drop n xs) ≡ [] → length xs ≤ n
few_items n f xs h = let none : length (map f (drop n xs)) ≡ 0 = ap length h in
    omega (arith, none, length-map (drop n xs) f, length-drop n xs)

pub some_at_all : {X : Type 0} (xs : List X) → is_none (slice_get xs 0) ≡ false → 1 ≤ length xs
some_at_all [] h = cc
some_at_all (x ∷ xs) h = omega arith

not_over : (n m : ℕ) → nat_le n m ≡ false → m + 1 ≤ n
not_over n m h = grind (arith, nat_tests)

pub some_names : (side : Direction) (ds : List Declared) → list_any (λ (d : Declared). is_direction side d.0) ds ≡ true
    → 1 ≤ length (names_of side ds)
some_names side [] h = cc
some_names side (d ∷ ds) h =
    elim (is_direction side d.0) as (λ b. (b || list_any (λ (d : Declared). is_direction side d.0) ds) ≡ true
    → 1 ≤ length (cons_option (if b then Some d.1 else None) (names_of side ds))) [
      | true ↦ λ k. omega arith
      | false ↦ λ k. some_names side ds k
    ] h

-- one more name, which is of this side or of the other
next : (side x : Direction) (n : Name) (before ds : List Declared) → of_side side before ≤ most_of side
    → of_side x before + 1 ≤ most_of x
    → (of_side side ((x, n) ∷ before) ≤ most_of side
    → of_side side ((x, n) ∷ before) + length (names_of side ds) ≤ most_of side)
    → of_side side before + length (names_of side ((x, n) ∷ ds)) ≤ most_of side
next side.Input side.Input n before ds h room rest = let few = rest (omega (arith, room)) in omega (arith, few)
next side.Output side.Output n before ds h room rest = let few = rest (omega (arith, room)) in omega (arith, few)
next side.Input side.Output n before ds h room rest = rest h
next side.Output side.Input n before ds h room rest = rest h

pub few_names : (side : Direction) (before ds : List Declared) → of_side side before ≤ most_of side
    → at_each over before ds ≡ []
    → of_side side before + length (names_of side ds) ≤ most_of side
few_names side before [] h none = omega (arith, h)
few_names side before ((x, n) ∷ ds) h none =
    let here = no_items (over before (x, n)) _ none in
    let room = not_over (most_of x) (of_side x before) (no_place (is_over before (x, n)) n.at here.0) in
    let rest = few_names side ((x, n) ∷ before) ds in
    next side x n before ds h room (λ few. rest few here.1)

-- ---- What a tree without load faults has where the builder looks for it.

pub mapped_there : {X Y : Type 0} (f : X → Y) (o : Option X) (p : Option Y) → option_map f o ≡ p → IsSome p → IsSome o
mapped_there f None None e h = h
mapped_there f None (Some y) e h = absurd cc
mapped_there f (Some x) p e h = refl

pub found_value : {X : Type 0} (o : Option X) → IsSome o → (x : X) × (o ≡ Some x)
found_value None there = absurd cc
found_value (Some x) there = (x, refl)

-- ---- lines

-- none at what a line has
pub none_at : {X Y Z : Type 0} (f : Y → List Z) (g : X → Option Y) (xs : List X) (i : ℕ) (d : X) (y : Y)
    → flat_map f (filter_map g xs) ≡ [] → i < length xs
    → g (get_or xs i d) ≡ Some y → f y ≡ []
none_at f g [] i d y none within is = absurd (omega arith)
none_at f g (x ∷ xs) zero d y none within is = (no_items (f y) _ (rw is at none)).0
none_at f g (x ∷ xs) (suc i) d y none within is =
    let rest = elim (g x) as (λ o. flat_map f (cons_option o (filter_map g xs)) ≡ []
    → flat_map f (filter_map g xs) ≡ []) [ None ↦ λ k. k | Some z ↦ λ k. (no_items (f z) _ k).1 ] none in
    none_at f g xs i d y rest (omega arith) is

-- ---- a term

-- the points of a term have one of degree 1
pub one_there : (points : List Point) → has_shape points ≡ true → IsSome (first (filter has_one points))
one_there points shape =
    elim (first (filter has_one points)) as (λ o. first (filter has_one points) ≡ o → IsSome o) [
      | None ↦ λ none.
          let front : drop_while has_zero points ≡ [] =
          drop_while-all has_zero points (none-passes has_one points none) in
          let no : false ≡ true = rw front at shape in
          cc
      | Some p ↦ λ e. refl
    ] refl

abscissa_there : (o : Option Point) → IsSome o → IsSome (abscissa_of o)
abscissa_there None there = there
abscissa_there (Some p) there = refl

-- and so the corners have a top
pub top_there : (points : List Point) (k : Corners) → AreCornersOf points k → has_shape points ≡ true → IsSome k.top
top_there points k held shape =
    mapped_there (λ (t : Dec × Dec). t.0.0) k.top (abscissa_of (first (filter has_one points))) held.b
    (abscissa_there (first (filter has_one points)) (one_there points shape))

-- ---- ranges

given_there : (hull : Option Ends) (r : Option Range) → IsSome hull → IsSome (given_or hull r)
given_there hull None h = h
given_there hull (Some r) h = refl

hull_there : (ts : List Term) (at : ℕ) → at_if (is_none (first ts)) at ≡ []
    → IsSome (hull_of (map x_of (flat_map points_of ts)))
hull_there [] at h = absurd cc
hull_there (t ∷ ts) at h = refl

pub input_range_there : (s : Fuzzify) → without_terms (part.Fuzzify s) ≡ [] → IsSome (input_range s)
input_range_there s h = given_there _ (fuzzy_range s) (hull_there (terms_of s) s.end h)

numbers_there : (lines : List DefuzzyLine) (at : ℕ) → at_if (is_none (first (filter_map singleton_of lines))) at ≡ []
    → IsSome (hull_of (map (λ (n : ℤ × ℕ). n.0) (filter_map number_line lines)))
numbers_there [] at h = absurd cc
numbers_there (defuzzy.Singleton t ∷ lines) at h = refl
numbers_there (defuzzy.Default d ∷ lines) at h =
    elim (fallback_number d.value) as (λ o. IsSome (hull_of (map (λ (n : ℤ × ℕ). n.0)
    (cons_option (option_map (λ (n : SignedNumber). (value n, d.at)) o) (filter_map number_line lines))))) [
      | None ↦ numbers_there lines at h
      | Some n ↦ refl
    ]
numbers_there (_ ∷ lines) at h = numbers_there lines at h

widened_there : (hull : Option Ends) → IsSome hull → IsSome (option_map widened hull)
widened_there None h = h
widened_there (Some e) h = refl

pub output_range_there : (s : Defuzzify) → without_terms (part.Defuzzify s) ≡ [] → IsSome (output_range s)
output_range_there s h =
    given_there _ (defuzzy_range s) (widened_there (output_hull s) (numbers_there s.lines s.end h))

-- ---- DEFAULT

neither : {X : Type 0} (test : Bool) (o : Option X) → (test || is_none o) ≡ false → IsSome o
neither false (Some x) h = refl
neither _ _ h = cc

pub default_there : (s : Defuzzify) → incomplete (part.Defuzzify s) ≡ [] → IsSome (default_of s)
default_there s h = neither (is_none (first (filter_map method_line s.lines))) (default_of s) (no_place _ s.end h)

-- ---- the sections of declared names

-- the side that a section is for
abbrev section_side : Part → Direction
section_side (part.Fuzzify s) = Input
section_side (part.Defuzzify s) = Output

sided_section : (text : List ℕ) (b : FunctionBlock) (p : Part)
    → mistaken_section text b p ≡ mistaken text b (section_side p) (section_name p)
sided_section text b (part.Fuzzify s) = refl
sided_section text b (part.Defuzzify s) = refl

pub as_side : (side x : Direction) → is_direction side x ≡ true → x ≡ side
as_side Input Input h = refl
as_side Output Output h = refl
as_side _ _ h = cc

found-passes : {X : Type 0} (test : X → Bool) (xs : List X) (x : X) → find test xs ≡ Some x → test x ≡ true
found-passes test [] x h = cc
found-passes test (y ∷ xs) x h =
    elim (test y) as (λ b. test y ≡ b → cond b (Some y) (find test xs) ≡ Some x → test x ≡ true) [
      | true ↦ λ e k. let same : y ≡ x = cc in rw (← same) e
      | false ↦ λ e k. found-passes test xs x k
    ] refl h

pub neither_test : (p q : Bool) → (p || q) ≡ false → (p ≡ false) × (q ≡ false)
neither_test true q h = absurd cc
neither_test false q h = (refl, h)

-- where no item is the same as one before it, each is the first that is the same as itself
module _ {X : Type 0} (same : X → X → Bool) (at : X → ℕ) (itself : (x : X) → same x x ≡ true) where
  abbrev again : List X → X → List ℕ
  again before x = at_if (list_any (same x) before) (at x)

  not-before : (before xs : List X) (i : ℕ) (d : X) → at_each again before xs ≡ [] → i < length xs
      → list_any (same (get_or xs i d)) before ≡ false
  not-before before [] i d h within = absurd (omega arith)
  not-before before (x ∷ xs) zero d h within =
      no_place (list_any (same x) before) (at x) (no_items (again before x) _ h).0
  not-before before (x ∷ xs) (suc i) d h within =
      (neither_test (same (get_or xs i d) x) _
      (not-before (x ∷ before) xs i d (no_items (again before x) _ h).1 (omega arith))).1

  first-same : (before xs : List X) (i : ℕ) (d : X) → at_each again before xs ≡ [] → i < length xs
      → find (same (get_or xs i d)) xs ≡ Some (get_or xs i d)
  first-same before [] i d h within = absurd (omega arith)
  first-same before (x ∷ xs) zero d h within = rw (itself x) refl
  first-same before (x ∷ xs) (suc i) d h within =
      let rest = (no_items (again before x) _ h).1 in
      let other = (neither_test (same (get_or xs i d) x) _ (not-before (x ∷ before) xs i d rest (omega arith))).0 in
      rw other (first-same (x ∷ before) xs i d rest (omega arith))

module _ (text : List ℕ) (b : FunctionBlock) (well_formed : first_fault text b ≡ None) where
  module _ (i : ℕ) (d : Declared) (within : i < length (declared_in b)) where
    abbrev here : Declared
    here = get_or (declared_in b) i d

    direction_there : direction text b here.1 ≡ Some here.0
    direction_there =
        let once = (no_items (repeated (same_declared text b) (λ (e : Declared). e.1.at) (declared_in b)) _
        (faultless text b well_formed).once).0 in
        let found = first-same (same_declared text b) (λ (e : Declared). e.1.at) (λ e.
        (bytes_eq-Decides (letters text e.1) (letters text e.1)).1 refl) [] (declared_in b) i d once within in
        ap (option_map (λ (e : Declared). e.0)) found

    section_there : IsSome (section_of text b (letters text here.1))
    section_there =
        let none = All-from_recursion (λ (e : Declared). without_section text b e ≡ []) (declared_in b)
        (nowhere (without_section text b) (declared_in b) (no_items _ _ (faultless text b well_formed).missing).0) i
        d within in
        elim (section_of text b (letters text here.1)) as (λ o. at_if (is_none o) here.1.at ≡ [] → IsSome o)
        [ None ↦ λ h. absurd cc | Some p ↦ λ h. refl ] none

    -- the section of a name is one of its own variable, and so of its side
    same_direction : (p : Part) → section_of text b (letters text here.1) ≡ Some p
        → direction text b (section_name p) ≡ Some here.0
    same_direction p found =
        let ls = letters text here.1 in
        let equal : ls ≡ letters text (section_name p) =
        (bytes_eq-Decides ls (letters text (section_name p))).0
        (found-passes (λ (q : Part). is_named text ls (section_name q)) b.parts p found) in
        subst (λ (ms : List ℕ). direction_of text b ms ≡ Some here.0) equal direction_there

    same_side : (p : Part) → section_of text b (letters text here.1) ≡ Some p
        → is_direction (section_side p) here.0 ≡ true
    same_side p found =
        let sided = (part_well_formed text b (faultless text b well_formed) (letters text here.1) p found).sided in
        shaped (is_direction (section_side p) here.0) (section_name p).at
        (rw (same_direction p found) at (rw (sided_section text b p) at sided))

  -- the well-formed section of each declared variable of a side
  module _ {S : Type 0} (side : Direction) (as_section : Part → Option S) (IsWellFormed : S → Type 0)
      (of_side : (p : Part) → section_side p ≡ side → IsWellFormedPart text b p
      → (s : S) × (as_section p ≡ Some s) × IsWellFormed s) where
    side_sections : All (HasSection side as_section IsWellFormed text b) (declared_in b)
    side_sections i d within is =
        let ls = letters text (here i d within).1 in
        let p = found_value (section_of text b ls) (section_there i d within) in
        let same : section_side p.0 ≡ side =
        sym (as_side (section_side p.0) (here i d within).0 (same_side i d within p.0 p.1))
        ∙ as_side side (here i d within).0 is in
        let s = of_side p.0 same (part_well_formed text b (faultless text b well_formed) ls p.0 p.1) in
        (s.0, ap (option_and_then as_section) p.1 ∙ s.1, s.2)

  pub input_sections : All (HasSection Input as_fuzzify IsWellFormedFuzzify text b) (declared_in b)
  input_sections = side_sections Input as_fuzzify IsWellFormedFuzzify of_input
    where
      of_input : (p : Part) → section_side p ≡ Input → IsWellFormedPart text b p
          → (s : Fuzzify) × (as_fuzzify p ≡ Some s) × IsWellFormedFuzzify s
      of_input (part.Fuzzify s) is well_formed_part =
          (s, refl, record { some = well_formed_part.some; shaped = well_formed_part.shaped })
      of_input (part.Defuzzify s) is well_formed_part = absurd cc

  pub output_sections : All (HasSection Output as_defuzzify IsWellFormedDefuzzify text b) (declared_in b)
  output_sections = side_sections Output as_defuzzify IsWellFormedDefuzzify of_output
    where
      of_output : (p : Part) → section_side p ≡ Output → IsWellFormedPart text b p
          → (s : Defuzzify) × (as_defuzzify p ≡ Some s) × IsWellFormedDefuzzify s
      of_output (part.Fuzzify s) is well_formed_part = absurd cc
      of_output (part.Defuzzify s) is well_formed_part =
          (s, refl, record { some = well_formed_part.some; complete = well_formed_part.complete })

-- ---- the section of a declared variable that is read

pub part_there : {S : Type 0} (f : Part → Option S) (o : Option Part) (s : S) → option_and_then f o ≡ Some s
    → (p : Part) × (o ≡ Some p) × (f p ≡ Some s)
part_there f None s h = absurd cc
part_there f (Some p) s h = (p, refl, h)

pub section_read : {S : Type 0} (side : Direction) (as_section : Part → Option S) (IsWellFormed : S → Type 0)
    (text : List ℕ) (b : FunctionBlock)
    → All (HasSection side as_section IsWellFormed text b) (declared_in b) → (read : List Declared) (i : ℕ)
    (d : Declared)
    → read ≡ declared_in b
    → i < length read → is_direction side (get_or read i d).0 ≡ true
    → (s : S) × (option_and_then as_section (section_of text b (letters text (get_or read i d).1)) ≡ Some s)
    × IsWellFormed s
section_read side as_section IsWellFormed text b have read i d same within is =
    subst (All (HasSection side as_section IsWellFormed text b)) (sym same) have i d within is

-- ---- The section of a declared variable of a side, as it is looked for.

-- what is made of the part that a name's letters find is what `IsVariableNamed` says of the name
pub IsVariableNamed-read : {S Y : Type 0} (as_section : Part → Option S) (IsOf : S → Y → Type 0) (tree : Tree)
    (ls ms : List ℕ) (o : Option (Bor Part)) (p : Bor Part) (y : Y) → ls ≡ ms
    → option_map (λ (q : Bor Part). q.now) o ≡ section_of tree.text.items tree.block ls → o ≡ Some p
    → ((s : S) × (as_section p.now ≡ Some s) × IsOf s y)
    → (s : S) × (option_and_then as_section (section_of tree.text.items tree.block ms) ≡ Some s) × IsOf s y
IsVariableNamed-read as_section IsOf tree ls ms o p y spelled looked unwrapped (s, is, of) =
    (s, section-at as_section tree.text.items tree.block ls ms o p spelled looked unwrapped ∙ is, of)

module _ {S : Type 0} (side : Direction) (as_section : Part → Option S) (IsWellFormed : S → Type 0) (tree : Tree)
    (have : All (HasSection side as_section IsWellFormed tree.text.items tree.block) (declared_in tree.block))
    (read : List Declared) (i : ℕ) (d : Declared) (same : read ≡ declared_in tree.block) (ls : List ℕ)
    (spelled : ls ≡ letters tree.text.items (get_or read i d).1) (o : Option (Bor Part)) (within : i < length read)
    (sided : sameb the_type (get_or read i d).0 side ≡ true)
    (looked : option_map (λ (q : Bor Part). q.now) o ≡ section_of tree.text.items tree.block ls) where
  there : (s : S) × (option_and_then as_section
      (section_of tree.text.items tree.block (letters tree.text.items (get_or read i d).1)) ≡ Some s) × IsWellFormed s
  there = section_read side as_section IsWellFormed tree.text.items tree.block have read i d same within
      (same-direction (get_or read i d).0 side ∙ sided)

  pub part_read : IsSome o
  part_read =
      let p = part_there as_section _ there.0 there.1 in
      mapped_there _ o _ looked (rw (spelled, p.1) refl)

  -- the part is a section of this kind, and well-formed
  pub IsWellFormed-read : (p : Bor Part) → o ≡ Some p → (s : S) × (as_section p.now ≡ Some s) × IsWellFormed s
  IsWellFormed-read p unwrapped =
      let found = section-at as_section tree.text.items tree.block ls _ o p spelled looked unwrapped in
      (there.0, sym found ∙ there.1, there.2)

-- ---- The numbers of known names: they are there, and bytes.

-- ---- numbers

or_zero-le : (o : Option ℕ) (n : ℕ) → ((k : ℕ) → o ≡ Some k → k ≤ n) → or_zero o ≤ n
or_zero-le None n few = omega arith
or_zero-le (Some k) n few = few k refl

most-le : (side : Direction) → most_of side ≤ 8
most-le Input = omega arith
most-le Output = omega arith

declared_so : (side : Direction) (o : Option Direction) → is_some_direction side o ≡ true → o ≡ Some side
declared_so side None h = cc
declared_so side (Some d) h = ap Some (as_side side d h)

few_in : {X : Type 0} (text : List ℕ) (ls : List ℕ) (names : X → List Name) (o : Option X) (n : ℕ)
    → ((x : X) → o ≡ Some x → length (names x) ≤ 15)
    → option_and_then (λ x. number_in text (names x) ls) o ≡ Some n → n ≤ 15
few_in text ls names None n few e = absurd cc
few_in text ls names (Some x) n few e = omega (arith, few x refl, (number_within text (names x) ls n e).1)

module _ (text : List ℕ) (b : FunctionBlock) (well_formed : first_fault text b ≡ None) where
  variable_few : (side : Direction) (ls : List ℕ) → or_zero (variable_number text b side ls) ≤ 8
  variable_few side ls =
      let many = no_items (at_each over [] (declared_in b)) _ (faultless text b well_formed).counts in
      let few = few_names side [] (declared_in b) (omega arith) many.0 in
      or_zero-le (variable_number text b side ls) 8
      (λ k e. omega (arith, (number_within text (declared_as side b) ls k e).1, few, most-le side))

  pub term_few : (side : Direction) (ls ts : List ℕ) (n : ℕ) → term_number text b side ls ts ≡ Some n → n ≤ 15
  term_few Input ls ts n e = few_in text ts term_names (fuzzify_of text b ls) n (λ s h. omega (
    arith,
    few_items 15 (λ (t : Term). t.name.at) (terms_of s) (well_formed_input text b (faultless text b well_formed) ls s
        h).few,
    length-map (terms_of s) (λ (t : Term). t.name),
  )) e
  term_few Output ls ts n e = few_in text ts singleton_names (defuzzify_of text b ls) n
      (λ s h. omega (
        arith,
        few_items 15 (λ (t : Singleton). t.name.at) (singletons_of s)
            (well_formed_output text b (faultless text b well_formed) ls s h).few,
        length-map (singletons_of s) (λ (t : Singleton). t.name),
      )) e

  pub number_few : (side : Direction) (v t : Name) (ls : List ℕ) (d : Variable) → IsKnown text b side v t
      → ls ≡ letters text v
      → Some d ≡ variable_in text (declared_in b) ls → d.number ≤ 8
  number_few side v t ls d known spelled found =
      let numbered : Direction → Variable =
      λ (d : Direction). record
      { direction = d; number = or_zero (number_in text (names_of d (declared_in b)) (letters text v)) } in
      let there : variable_in text (declared_in b) (letters text v) ≡ Some (numbered side) =
      ap (option_map numbered) (declared_so side (direction text b v) known.declared) in
      let same : d ≡ numbered side = (let e : Some d ≡ Some (numbered side) = (rw spelled at found) ∙ there in cc) in
      rw same (variable_few side (letters text v))
