-- Each text has a fault or a block, and not two of them: a tree without load faults has a block, and at most one.
use Rattle.fcl_check.proofs.Words.{[], ◌∙◌, ◌∷◌, ◌≡◌, ◌≤◌, ◌⊎◌, abscissa_of, All, AllByRecursion, AllZip, ap}
use Rattle.fcl_check.proofs.Words.{as_defuzzify, as_fuzzify, at_if, Block, conclusion_of, conclusions_of, cons_option}
use Rattle.fcl_check.proofs.Words.{Dec, Declared, declared_as, declared_in, default_number, default_of, Defuzzify}
use Rattle.fcl_check.proofs.Words.{Direction, drop_while, fallback_number, false, filter, filter_map, first}
use Rattle.fcl_check.proofs.Words.{first_fault, FunctionBlock, Fuzzify, has_one, has_shape, has_zero, HasSection}
use Rattle.fcl_check.proofs.Words.{if◌then◌else◌, inl, input_range, inr, is_direction, IsInputNamed, IsInputOf}
use Rattle.fcl_check.proofs.Words.{IsOutputNamed, IsOutputOf, IsRuleOf, IsSome, IsTermOf, IsVariableNamed}
use Rattle.fcl_check.proofs.Words.{IsWellFormedDefuzzify, IsWellFormedFuzzify, last, length, List, literal_of}
use Rattle.fcl_check.proofs.Words.{LoadFault, map, Name, None, not, number_of, Option, option_map, option_or}
use Rattle.fcl_check.proofs.Words.{or_condition, output_range, Part, Point, points_of, refl, Rule, RuleNode}
use Rattle.fcl_check.proofs.Words.{same_Some, SignedNumber, Singleton, singletons_of, Some, SpelledBlocksAreValid}
use Rattle.fcl_check.proofs.Words.{str_to_ascii_lowercase, subst, sym, take_while, Term, terms_of, Trapezoid, true}
use Rattle.fcl_check.proofs.Words.{value, view, Weight, x_of, ℕ}
use Rattle.std.proofs.{lemmas.List.Elements.recursion_from_All, lemmas.Option.some_pair_parts}
use Rattle.fuzzy_meaning.specs.{declared.block.Input.Input, declared.block.Output.Output}
use Rattle.fcl_syntax.specs.{Readings.EachTextIsRead, Readings.TreesAreOne, Text.SpellsTree}
use Rattle.fcl_check.specs.{Texts.SpellsBlock}
use Rattle.fcl_syntax.specs.declared.tree.Direction.TheVariants as side
use Rattle.fcl_check.specs.Texts.{TreesHaveBlocks, EachTextIsJudged, HasLoadFault, LoadFaultsAreOne}
use Rattle.fcl_check.specs.OneBlock.{BlocksAreOne}
use Rattle.fcl_check.proofs.Faultless.{nowhere, shaped, found_value, input_range_there, one_there}
use Rattle.fcl_check.proofs.Faultless.{default_there, output_range_there, input_sections, output_sections}
use Rattle.fcl_check.proofs.{Naming.named_as, Elements.all_weaker}

-- ---- A tree without load faults has a block: each declared variable has what a block has of it, and so has each rule.

-- ---- Values that are found for the items of a list, one for each.

-- a list that has a first item has a last one
pub last_there : {X : Type 0} (xs : List X) → IsSome (first xs) → IsSome (last xs)
last_there [] there = absurd cc
last_there (x ∷ xs) there = elim (last xs) as (λ o. IsSome (option_or o (Some x))) [ None ↦ refl | Some y ↦ refl ]

pub found_items : {X Y : Type 0} (R : X → Y → Type 0) (xs : List X) → AllByRecursion (λ x. (y : Y) × R x y) xs
    → (ys : List Y) × AllZip R xs ys
found_items R [] found = ([], tt)
found_items R (x ∷ xs) found =
    let rest = found_items R xs found.1 in
    (found.0.0 ∷ rest.0, (found.0.1, rest.1))

-- of each declared variable of a direction, of its name alone
pub found_names : {Y : Type 0} (R : Name → Y → Type 0) (side : Direction) (ds : List Declared)
    → AllByRecursion (λ d. is_direction side d.0 ≡ true → (y : Y) × R d.1 y) ds
    → AllByRecursion (λ n. (y : Y) × R n y) (filter_map (named_as side) ds)
found_names R side [] found = tt
found_names {Y} R side (d ∷ ds) found =
    let rest = found_names R side ds found.1 in
    elim (is_direction side d.0) as (λ v. (v ≡ true → (y : Y) × R d.1 y) → AllByRecursion (λ n. (y : Y) × R n y)
    (cons_option (if v then Some d.1 else None) (filter_map (named_as side) ds))) [
      | true ↦ λ here. (here refl, rest)
      | false ↦ λ here. rest
    ] found.0

-- ---- A well-formed section of an input makes one.

-- ---- terms

-- the corner at a point
abbrev corner_at : Point → Dec
corner_at p = record { 0 = x_of p }

number_of-corner : (o : Option Point) → number_of (option_map corner_at o) ≡ abscissa_of o
number_of-corner None = refl
number_of-corner (Some p) = refl

found_term : (t : Term) → has_shape (points_of t) ≡ true → (z : Trapezoid) × IsTermOf t z
found_term t shape =
    let points = points_of t in
    let there = one_there points shape in
    let b = found_value (first (filter has_one points)) there in
    let c = found_value (last (filter has_one points)) (last_there (filter has_one points) there) in
    let a = last (take_while has_zero points) in
    let d = first (filter has_zero (drop_while has_zero points)) in (
      record { a = option_map corner_at a; b = corner_at b.0; c = corner_at c.0; d = option_map corner_at d },
      record {
        a = number_of-corner a;
        b = sym (ap abscissa_of b.1);
        c = sym (ap abscissa_of c.1);
        d = number_of-corner d;
      },
    )

-- ---- inputs

pub found_input : (s : Fuzzify) → IsWellFormedFuzzify s → (x : Input) × IsInputOf s x
found_input s well_formed =
    let range = found_value (input_range s) (input_range_there s well_formed.some) in
    let shaped_terms = nowhere (λ (t : Term). at_if (not (has_shape (points_of t))) t.at) (terms_of s)
    well_formed.shaped in
    let terms = found_items IsTermOf (terms_of s)
    (all_weaker (λ (t : Term). at_if (not (has_shape (points_of t))) t.at ≡ [])
    (λ (t : Term). (z : Trapezoid) × IsTermOf t z) (λ t none. found_term t (shaped (has_shape (points_of t)) t.at none))
    (terms_of s) shaped_terms) in (
      record { lo = record { 0 = range.0.0 }; hi = record { 0 = range.0.1 }; terms = terms.0 },
      record { range = sym range.1; terms = terms.1 },
    )

-- ---- A well-formed section of an output makes one.

abbrev pub decimal_of : SignedNumber → Dec
decimal_of n = record { 0 = value n }

number_of-decimal : (o : Option SignedNumber) → number_of (option_map decimal_of o) ≡ option_map value o
number_of-decimal None = refl
number_of-decimal (Some n) = refl

singleton_numbers : (ts : List Singleton)
    → map (λ (d : Dec). d.0) (map (λ (t : Singleton). decimal_of t.value) ts) ≡ map
    (λ (t : Singleton). value t.value) ts
singleton_numbers [] = refl
singleton_numbers (t ∷ ts) = ap (◌∷◌ (value t.value)) (singleton_numbers ts)

pub found_output : (s : Defuzzify) → IsWellFormedDefuzzify s → (y : Output) × IsOutputOf s y
found_output s well_formed =
    let range = found_value (output_range s) (output_range_there s well_formed.some) in
    let d = found_value (default_of s) (default_there s well_formed.complete) in
    let number = fallback_number d.0.value in (
      record {
        lo = record { 0 = range.0.0 };
        hi = record { 0 = range.0.1 };
        singletons = map (λ (t : Singleton). decimal_of t.value) (singletons_of s);
        default = option_map decimal_of number;
      },
      record {
        range = sym range.1;
        singletons = singleton_numbers (singletons_of s);
        default = ap Some (number_of-decimal number) ∙ sym (ap (option_map default_number) d.1);
      },
    )

-- ---- In a tree without load faults each declared variable has what a block has of it.

module _ {S X : Type 0} (direction : Direction) (as_section : Part → Option S) (IsWellFormed : S → Type 0)
    (IsOf : S → X → Type 0)
    (found : (s : S) → IsWellFormed s → (x : X) × IsOf s x) (text : List ℕ) (b : FunctionBlock) where
  abbrev Named : Name → X → Type 0
  Named = IsVariableNamed as_section IsOf text b

  found_variable : (d : Declared) → HasSection direction as_section IsWellFormed text b d → is_direction direction d.0
      ≡ true
      → (x : X) × Named d.1 x
  found_variable d has is =
      let s = has is in
      let x = found s.0 s.2 in
      (x.0, (s.0, s.1, x.1))

  found_variables : All (HasSection direction as_section IsWellFormed text b) (declared_in b)
      → (xs : List X) × AllZip Named (declared_as direction b) xs
  found_variables have =
      let each = all_weaker (HasSection direction as_section IsWellFormed text b)
      (λ (d : Declared). is_direction direction d.0 ≡ true → (x : X) × Named d.1 x)
      found_variable (declared_in b)
      (recursion_from_All (HasSection direction as_section IsWellFormed text b) (declared_in b) have) in
      found_items Named (declared_as direction b) (found_names Named direction (declared_in b) each)

module _ (text : List ℕ) (b : FunctionBlock) (well_formed : first_fault text b ≡ None) where
  pub found_inputs : (xs : List Input) × AllZip (IsInputNamed text b) (declared_as side.Input b) xs
  found_inputs = found_variables side.Input as_fuzzify IsWellFormedFuzzify IsInputOf found_input text b
      (input_sections text b well_formed)

  pub found_outputs : (ys : List Output) × AllZip (IsOutputNamed text b) (declared_as side.Output b) ys
  found_outputs = found_variables side.Output as_defuzzify IsWellFormedDefuzzify IsOutputOf found_output text b
      (output_sections text b well_formed)

-- ---- A tree without load faults has a block.

-- ---- rules

number_of-weight : (o : Option Weight)
    → number_of (option_map (λ (w : Weight). decimal_of w.value) o) ≡ option_map (λ (w : Weight). value w.value) o
number_of-weight None = refl
number_of-weight (Some w) = refl

module _ (text : List ℕ) (b : FunctionBlock) where
  found_rule : (r : RuleNode) → (q : Rule) × IsRuleOf text b r q
  found_rule r = (
    record {
      cond = or_condition (literal_of text b) r.condition;
      weight = option_map (λ (w : Weight). decimal_of w.value) r.weight;
      concl = map (conclusion_of text b) (conclusions_of r);
    },
    record { condition = refl; weight = number_of-weight r.weight; conclusions = refl },
  )

  found_rules : (rs : List RuleNode) → AllByRecursion (λ r. (q : Rule) × IsRuleOf text b r q) rs
  found_rules [] = tt
  found_rules (r ∷ rs) = (found_rule r, found_rules rs)

-- ---- the block

pub found_block : TreesHaveBlocks
found_block letters b well_formed =
    let inputs = found_inputs letters b well_formed in
    let outputs = found_outputs letters b well_formed in
    let rules = found_items (IsRuleOf letters b) b.rules.rules (found_rules letters b b.rules.rules) in (
      record { inputs = inputs.0; outputs = outputs.0; rules = rules.0 },
      record { inputs = inputs.1; outputs = outputs.1; rules = rules.1 },
    )

-- ---- Each text has a fault or a block, and not two of them.

module _ (valid : SpelledBlocksAreValid) (have : TreesHaveBlocks) (text : List ℕ)
    (small : length text ≤ 1048576) where
  judged_tree : (b : FunctionBlock) → SpellsTree text (view b) → (o : Option LoadFault)
      → first_fault (str_to_ascii_lowercase text) b ≡ o
      → ((f : LoadFault) × HasLoadFault text f) ⊎ ((block : Block) × SpellsBlock text block)
  judged_tree b spelled (Some f) is = inl (f, record { tree = b; spelled = spelled; first = is })
  judged_tree b spelled None well_formed =
      let found = have (str_to_ascii_lowercase text) b well_formed in
      inr (
        found.0,
        record {
          tree = b;
          spelled = spelled;
          well_formed = well_formed;
          loaded = found.1;
          valid =
              valid text b found.0 small spelled well_formed found.1;
        },
      )

pub judged_texts : EachTextIsRead → SpelledBlocksAreValid → TreesHaveBlocks → EachTextIsJudged
judged_texts read valid have text small =
    elim (read text small) [
      | inl tree ↦ inr (judged_tree valid have text small tree.0 tree.1
          (first_fault (str_to_ascii_lowercase text) tree.0) refl)
      | inr fault ↦ inl fault
    ]

-- ---- not two

module _ (trees_are_one : TreesAreOne) (text : List ℕ) where
  same_spelled : (b c : FunctionBlock) → SpellsTree text (view b) → SpellsTree text (view c)
      → first_fault (str_to_ascii_lowercase text) b ≡ first_fault (str_to_ascii_lowercase text) c
  same_spelled b c of_b of_c =
      ap (first_fault (str_to_ascii_lowercase text)) ((trees_are_one text).1 b c of_b of_c)

  same_load_fault : (f g : LoadFault) → HasLoadFault text f → HasLoadFault text g → f ≡ g
  same_load_fault f g p q = same_Some f g (sym p.first ∙ same_spelled p.tree q.tree p.spelled q.spelled ∙ q.first)

  no_block : (f : LoadFault) (block : Block) → HasLoadFault text f → SpellsBlock text block → ⊥
  no_block f block p q =
      let faultless : ◌≡◌ {A = Option LoadFault} (Some f) None =
      sym p.first ∙ same_spelled p.tree q.tree p.spelled q.spelled ∙ q.well_formed in
      cc

pub one_load_fault : TreesAreOne → LoadFaultsAreOne
one_load_fault trees_are_one text = (same_load_fault trees_are_one text, no_block trees_are_one text)

-- ---- A tree has at most one block.

-- ---- numbers

same_dec : (d e : Dec) → d.0 ≡ e.0 → d ≡ e
same_dec d e h = λ i. record { 0 = h i }

same_number : (d e : Option Dec) → number_of d ≡ number_of e → d ≡ e
same_number None None h = refl
same_number (Some d) (Some e) h = λ i. Some (same_dec d e (cc) i)
same_number d e h = absurd cc

same_decs : (ds es : List Dec) → map (λ (d : Dec). d.0) ds ≡ map (λ (d : Dec). d.0) es → ds ≡ es
same_decs [] [] h = refl
same_decs (d ∷ ds) (e ∷ es) h = λ i. same_dec d e (cc) i ∷ same_decs ds es (cc) i
same_decs _ _ h = absurd cc

-- ---- lists and variables, where each item or section gives one thing

one_each : {A X : Type 0} (R : A → X → Type 0) → ((a : A) (x y : X) → R a x → R a y → x ≡ y) → (items : List A)
    (xs ys : List X) → AllZip R items xs → AllZip R items ys
    → xs ≡ ys
one_each R one [] [] [] p q = refl
one_each R one (a ∷ items) (x ∷ xs) (y ∷ ys) p q =
    λ i. one a x y p.0 q.0 i ∷ one_each R one items xs ys p.1 q.1 i
one_each R one [] (x ∷ xs) ys p q = absurd p
one_each R one (a ∷ items) [] ys p q = absurd p
one_each R one _ _ _ p q = absurd q

one_named : {S X : Type 0} (as_section : Part → Option S) (IsOf : S → X → Type 0)
    → ((s : S) (x y : X) → IsOf s x → IsOf s y → x ≡ y) → (text : List ℕ) (b : FunctionBlock) (n : Name) (x y : X)
    → IsVariableNamed as_section IsOf text b n x
    → IsVariableNamed as_section IsOf text b n y → x ≡ y
one_named as_section IsOf one text b n x y p q =
    one p.0 x y p.2 (subst (λ s. IsOf s y) (same_Some q.0 p.0 (sym q.1 ∙ p.1)) q.2)

-- ---- inputs, outputs and rules

one_term : (t : Term) (y z : Trapezoid) → IsTermOf t y → IsTermOf t z → y ≡ z
one_term t y z p q = λ i. record {
  a = same_number y.a z.a (p.a ∙ sym q.a) i;
  b = same_dec y.b z.b (same_Some y.b.0 z.b.0 (p.b ∙ sym q.b)) i;
  c = same_dec y.c z.c (same_Some y.c.0 z.c.0 (p.c ∙ sym q.c)) i;
  d = same_number y.d z.d (p.d ∙ sym q.d) i;
}

one_input : (s : Fuzzify) (x y : Input) → IsInputOf s x → IsInputOf s y → x ≡ y
one_input s x y p q =
    let ends = some_pair_parts x.lo.0 y.lo.0 x.hi.0 y.hi.0 (p.range ∙ sym q.range) in
    λ i. record {
      lo = same_dec x.lo y.lo ends.0 i;
      hi = same_dec x.hi y.hi ends.1 i;
      terms = one_each IsTermOf one_term (terms_of s) x.terms y.terms p.terms q.terms i;
    }

one_output : (s : Defuzzify) (x y : Output) → IsOutputOf s x → IsOutputOf s y → x ≡ y
one_output s x y p q =
    let ends = some_pair_parts x.lo.0 y.lo.0 x.hi.0 y.hi.0 (p.range ∙ sym q.range) in
    let default = same_Some (number_of x.default) (number_of y.default) (p.default ∙ sym q.default) in
    λ i. record {
      lo = same_dec x.lo y.lo ends.0 i;
      hi = same_dec x.hi y.hi ends.1 i;
      singletons = same_decs x.singletons y.singletons (p.singletons ∙ sym q.singletons) i;
      default = same_number x.default y.default default i;
    }

one_rule : (text : List ℕ) (b : FunctionBlock) (r : RuleNode) (x y : Rule) → IsRuleOf text b r x → IsRuleOf text b r y
    → x ≡ y
one_rule text b r x y p q = λ i. record {
  cond = (p.condition ∙ sym q.condition) i;
  weight = same_number x.weight y.weight (p.weight ∙ sym q.weight) i;
  concl = (p.conclusions ∙ sym q.conclusions) i;
}

-- ---- the block

pub one_block : BlocksAreOne
one_block text b p q of_p of_q = λ i. record {
  inputs = one_each _ (one_named as_fuzzify IsInputOf one_input text b) (declared_as side.Input b) p.inputs q.inputs
      of_p.inputs of_q.inputs i;
  outputs = one_each _ (one_named as_defuzzify IsOutputOf one_output text b) (declared_as side.Output b) p.outputs
      q.outputs of_p.outputs of_q.outputs i;
  rules = one_each _ (one_rule text b) b.rules.rules p.rules q.rules of_p.rules of_q.rules i;
}
