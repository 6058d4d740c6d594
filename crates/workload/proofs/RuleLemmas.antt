-- What the rules of an FCL text name.
use Rattle.std.proofs.Common.{arith, ◌≡◌, ◌<◌, ◌≤◌, ◌+◌, ◌*◌, ◌/◌, ◌%◌, ℕ, zero, suc, false, List, [], ◌∷◌, ◌++◌}
use Rattle.std.proofs.Common.{map, drop, get_or, refl, sym, ap, ◌∙◌, Some}
use Rattle.std.specs.List.{AllZip, flat_map, range_with_len}
use Rattle.std.specs.Prelude.{codes, is_none, not, ◌&&◌}
use Rattle.std.specs.Str.{str_to_ascii_lowercase}
use Rattle.fuzzy_meaning.specs.Conditions.{Condition, all, also, end, is as literal}
use Rattle.fuzzy_meaning.specs.declared.block.Rule.{Rule}
use Rattle.fcl_syntax.specs.declared.{tree.Conclusion.Conclusion, tree.Direction.Direction, tree.Name.Name}
use Rattle.fcl_syntax.specs.declared.tree.Direction.TheVariants.{Input, Output}
use Rattle.fcl_syntax.specs.declared.tree.Rule.{Rule as RuleNode}
use Rattle.fcl_check.specs.Faults.{Pair, conclusions_of, condition_pairs, direction, is_some_direction, mistaken}
use Rattle.fcl_check.specs.Faults.{mistaken_in, unknown_in, unknown_pair}
use Rattle.fcl_check.specs.{Loaded.IsRuleOf, Loaded.numbers_of, Loaded.or_zero, Places.at_if, Places.at_some}
use Rattle.fcl_check.specs.Names.{direction_of, is_direction, letters, term_number, variable_number}
use Rattle.workload.specs.{Blocks.drawn_rule, declared.texts.TheConstants.VARIABLES}
use Rattle.workload.proofs.TreeOfText.{name_at, rule_at, rule_length, rules_from, tree, width}

-- ---- names of the variables

-- the text from its front on, in small letters
abbrev pub letters_before : List ℕ → List ℕ
letters_before rest = str_to_ascii_lowercase (VARIABLES ++ rest)

abbrev literal_at : ℕ × ℕ → Condition
literal_at p = literal p.0 p.1

-- `t` or `s`, and a digit
abbrev numbered : ℕ → ℕ → List ℕ
numbered letter n = letter ∷ (48 + n) ∷ []

pub each_five : (P : ℕ → Type 0) → P 0 → P 1 → P 2 → P 3 → P 4 → (n : ℕ) → n < 5 → P n
each_five P a b c d e zero h = a
each_five P a b c d e (suc zero) h = b
each_five P a b c d e (suc (suc zero)) h = c
each_five P a b c d e (suc (suc (suc zero))) h = d
each_five P a b c d e (suc (suc (suc (suc zero)))) h = e
each_five P a b c d e (suc (suc (suc (suc (suc n))))) h = absurd (omega arith)

each_nine : (P : ℕ → Type 0) → P 0 → P 1 → P 2 → P 3 → P 4 → P 5 → P 6 → P 7 → P 8 → (n : ℕ) → n < 9 → P n
each_nine P a b c d e f g h i zero l = a
each_nine P a b c d e f g h i (suc zero) l = b
each_nine P a b c d e f g h i (suc (suc zero)) l = c
each_nine P a b c d e f g h i (suc (suc (suc zero))) l = d
each_nine P a b c d e f g h i (suc (suc (suc (suc n)))) l =
    each_five (λ (n : ℕ). P (suc (suc (suc (suc n))))) e f g h i n (omega arith)

module _ (rest : List ℕ) where
  abbrev ls : List ℕ
  ls = letters_before rest

  abbrev IsTermIn : Direction → List ℕ → ℕ → ℕ → Type 0
  IsTermIn side v letter n = term_number ls tree side v (numbered letter n) ≡ Some (n + 1)

  term_of_x : (n : ℕ) → n < 9 → IsTermIn Input (codes "x") 116 n
  term_of_x = each_nine (IsTermIn Input (codes "x") 116) refl refl refl refl refl refl refl refl refl

  term_of_y : (n : ℕ) → n < 9 → IsTermIn Input (codes "y") 116 n
  term_of_y = each_nine (IsTermIn Input (codes "y") 116) refl refl refl refl refl refl refl refl refl

  term_of_z : (n : ℕ) → n < 5 → IsTermIn Output (codes "z") 115 n
  term_of_z = each_five (IsTermIn Output (codes "z") 115) refl refl refl refl refl

  -- ---- a variable and a term of it in a rule

  -- what the text says there, and what that is
  record IsKnownPair (side : Direction) (v t : Name) (a b : ℕ) : Type 0 where
    variable_letters : List ℕ
    term_letters : List ℕ
    variable_is : letters ls v ≡ variable_letters
    term_is : letters ls t ≡ term_letters
    declared : direction_of ls tree variable_letters ≡ Some side
    variable_at : variable_number ls tree side variable_letters ≡ Some a
    term_at : term_number ls tree side variable_letters term_letters ≡ Some b

  numbers_known : (side : Direction) (v t : Name) (a b : ℕ) → IsKnownPair side v t a b
      → numbers_of ls tree side v t ≡ (a, b)
  numbers_known side v t a b k =
      (λ i. (
        or_zero (variable_number ls tree side (k.variable_is i)),
        or_zero (term_number ls tree side (k.variable_is i) (k.term_is i)),
      ))
      ∙ (λ i. (or_zero (k.variable_at i), or_zero (k.term_at i)))

  term_known : (side : Direction) (v t : Name) (a b : ℕ) → IsKnownPair side v t a b
      → term_number ls tree side (letters ls v) (letters ls t) ≡ Some b
  term_known side v t a b k = (λ i. term_number ls tree side (k.variable_is i) (k.term_is i)) ∙ k.term_at

  direction_known : (side : Direction) (v t : Name) (a b : ℕ) → IsKnownPair side v t a b
      → direction ls tree v ≡ Some side
  direction_known side v t a b k = ap (direction_of ls tree) k.variable_is ∙ k.declared

  unknown_none : (side : Direction) (v t : Name) (a b : ℕ) → IsKnownPair side v t a b
      → unknown_pair ls tree side v t ≡ []
  unknown_none side v t a b k =
      (λ i. at_if (is_none (direction_known side v t a b k i)) v.at ++
      at_if (is_some_direction side (direction_known side v t a b k i) && is_none (term_known side v t a b k i)) t.at)
      ∙ nowhere side
    where
      nowhere : (d : Direction) → at_if (is_direction d d && false) t.at ≡ []
      nowhere Input = refl
      nowhere Output = refl

  mistaken_none : (side : Direction) (v t : Name) (a b : ℕ) → IsKnownPair side v t a b → mistaken ls tree side v ≡ []
  mistaken_none side v t a b k =
      ap (at_some (λ (d : Direction). at_if (not (is_direction side d)) v.at)) (direction_known side v t a b k)
      ∙ nowhere side
    where
      nowhere : (d : Direction) → at_if (not (is_direction d d)) v.at ≡ []
      nowhere Input = refl
      nowhere Output = refl

  -- ---- a rule

  -- the letters of what a rule names, in the text's order
  abbrev pub named_by : RuleNode → List (List ℕ)
  named_by r =
      map (letters ls) (flat_map (λ (p : Pair). p.variable ∷ p.term ∷ []) (condition_pairs r)
      ++ flat_map (λ (c : Conclusion). c.variable ∷ c.term ∷ []) (conclusions_of r))

  -- ... and in rule number n under a shift
  abbrev pub named_in : ℕ → ℕ → List (List ℕ)
  named_in shift n =
      codes "x" ∷ numbered 116 (n / 9) ∷ codes "y" ∷ numbered 116 (n % 9) ∷ codes "z"
      ∷ numbered 115 ((n / 9 + 2 * (n % 9) + shift) % 5) ∷ []

  -- the rule has no fault of a name, and is the one that is drawn
  pub record IsDrawn (r : RuleNode) (q : Rule) : Type 0 where
    pub known : unknown_in ls tree r ≡ []
    pub right : mistaken_in ls tree r ≡ []
    pub drawn : IsRuleOf ls tree r q

  module _ (shift n at : ℕ) (small : n < 81) (named : named_by (rule_at n at) ≡ named_in shift n) where
    abbrev nth : ℕ → List (List ℕ) → List ℕ
    nth k l = get_or l k []

    abbrev start : ℕ
    start = at + 5 + width (n + 1)

    x_known : IsKnownPair Input (name_at (start + 6)) (name_at (start + 11)) 1 (n / 9 + 1)
    x_known = record {
      variable_letters = codes "x";
      term_letters = numbered 116 (n / 9);
      variable_is = ap (nth 0) named;
      term_is = ap (nth 1) named;
      declared = refl;
      variable_at = refl;
      term_at = term_of_x (n / 9) (omega arith);
    }

    y_known : IsKnownPair Input (name_at (start + 18)) (name_at (start + 23)) 2 (n % 9 + 1)
    y_known = record {
      variable_letters = codes "y";
      term_letters = numbered 116 (n % 9);
      variable_is = ap (nth 2) named;
      term_is = ap (nth 3) named;
      declared = refl;
      variable_at = refl;
      term_at = term_of_y (n % 9) (omega arith);
    }

    abbrev singleton : ℕ
    singleton = (n / 9 + 2 * (n % 9) + shift) % 5

    z_known : IsKnownPair Output (name_at (start + 31)) (name_at (start + 36)) 1 (singleton + 1)
    z_known = record {
      variable_letters = codes "z";
      term_letters = numbered 115 singleton;
      variable_is = ap (nth 4) named;
      term_is = ap (nth 5) named;
      declared = refl;
      variable_at = refl;
      term_at = term_of_z singleton (omega arith);
    }

    pub is_drawn : IsDrawn (rule_at n at) (drawn_rule shift n)
    is_drawn = record {
      known = λ i. ((unknown_none Input _ _ _ _ x_known i ++ (unknown_none Input _ _ _ _ y_known i ++ []))
          ++ (unknown_none Output _ _ _ _ z_known i ++ []));
      right = λ i. ((mistaken_none Input _ _ _ _ x_known i ++ (mistaken_none Input _ _ _ _ y_known i ++ []))
          ++ (mistaken_none Output _ _ _ _ z_known i ++ []));
      drawn = record {
        condition = sym (λ i. all (also (literal_at (numbers_known Input _ _ _ _ x_known i))
            (also (literal_at (numbers_known Input _ _ _ _ y_known i)) end)));
        weight = refl;
        conclusions = sym (λ i. numbers_known Output _ _ _ _ z_known i ∷ []);
      };
    }

  -- so many rules from one on
  pub are_drawn : (shift count n at : ℕ) → n + count ≤ 81
      → map named_by (rules_from n at count) ≡ map (named_in shift) (range_with_len n count)
      → AllZip IsDrawn (rules_from n at count) (map (drawn_rule shift) (range_with_len n count))
  are_drawn shift zero n at few named = tt
  are_drawn shift (suc count) n at few named = (
    is_drawn shift n at (omega arith) (ap (λ (l : List (List (List ℕ))). get_or l 0 []) named),
    are_drawn shift count (n + 1) (at + rule_length n) (omega arith) (ap (drop 1) named),
  )
