-- The conditions and rules of a text: how deep and how many they are, and which are valid.
use Rattle.fcl_check.proofs.Words.{[], ◌*◌, ◌++◌, ◌+◌, ◌-◌, ◌∙◌, ◌∷◌, ◌≡◌, ◌≤◌, AllByRecursion, AllZip, and_condition}
use Rattle.fcl_check.proofs.Words.{and_of, and_pairs, and_text, ands_conditions, ands_pairs, ands_text, ap, arith}
use Rattle.fcl_check.proofs.Words.{AscendWithin, behind, Block, block_text, Conclusion, conclusion_of}
use Rattle.fcl_check.proofs.Words.{conclusion_text, conclusions_of, conclusions_text, Condition, each, either_text}
use Rattle.fcl_check.proofs.Words.{end_text, filter_map-append, FunctionBlock, group, HasTerm, is, IsClean, IsRuleOf}
use Rattle.fcl_check.proofs.Words.{length, length-map, less, List, literal_of, lone, map, more_ands, more_nots, Name}
use Rattle.fcl_check.proofs.Words.{neg, no_ands, no_nots, None, not_condition, not_pairs, not_text, nots_conditions}
use Rattle.fcl_check.proofs.Words.{nots_pairs, nots_text, offset_of, offsets, or_condition, or_of, or_pairs, or_text}
use Rattle.fcl_check.proofs.Words.{Pair, part_text, plain, refl, Rule, rule_item_text, rule_line_text, rule_size}
use Rattle.fcl_check.proofs.Words.{rulebase_text, RuleNode, section_text, semicolon_text, Some, suc, sum_by, Sym}
use Rattle.fcl_check.proofs.Words.{TAnd, TAnds, TNot, TNots, Token, TOr, view, view_part, view_rule_item}
use Rattle.fcl_check.proofs.Words.{view_rule_line, view_section, view_weight, weight_text, zero, ℕ}
use Rattle.fuzzy_meaning.specs.Conditions.{depth, greatest_depth, nodes, total_nodes, AllHaveLiterals}
use Rattle.std.proofs.{lemmas.List.length-append}
use Rattle.fuzzy_meaning.specs.{Blocks.IsValidCondition}
use Rattle.fcl_tokens.specs.declared.token.Keyword.TheVariants as key
use Rattle.fcl_tokens.specs.declared.token.Token.TheVariants as tok
use Rattle.fcl_syntax.specs.{Grammar.opener, Grammar.key_text, declared.fault.Kind.TheVariants.Unsupported}
use Rattle.std.proofs.lemmas.List.Sums.{sum_by-cons}
use Rattle.fcl_syntax.specs.{declared.fault.Kind.Kind, declared.fault.Kind.TheVariants.Deep}
use Rattle.fcl_check.proofs.Elements.{parts_of}

-- ---- How deep the condition of a text is, and how many conditions there are: no more than the text's offsets.

-- how many tokens of a text keep their offset
abbrev pub count : List Sym → ℕ
count symbols = length (offsets symbols)

pub count-append : (a b : List Sym) → count (a ++ b) ≡ count a + count b
count-append a b = rw (filter_map-append (λ (s : Sym). offset_of s.token) a b) (length-append (offsets a) (offsets b))

count-three : (a b c : List Sym) → count (a ++ (b ++ c)) ≡ count a + (count b + count c)
count-three a b c = rw (count-append a (b ++ c), count-append b c) refl

-- there are no more numbers that ascend than lie between their bounds
pub few_within : (low end : ℕ) (ns : List ℕ) → AscendWithin low end ns → length ns ≤ end - low
few_within low end [] up = omega arith
few_within low end (n ∷ ns) up = let rest = few_within (suc n) end ns up.1.1 in omega (arith, up.0, up.1.0, rest)

pub clean_parts : (a b : List Sym) → IsClean (a ++ b) → IsClean a × IsClean b
clean_parts [] b h = (tt, h)
clean_parts (s ∷ a) b h =
    let both = clean_parts a b h.1 in
    ((h.0, both.0), both.1)

token-opener : (n : ℕ) (x : Token) → (opener n x).token ≡ x
token-opener zero x = refl
token-opener (suc n) x = refl

pub no_annotation : (k : Kind) → Some k ≡ None → ⊥
no_annotation k h = cc

module _ (f : Name → Name → Condition) where
  -- ---- how many

  module _ (one : (v t : Name) → nodes (f v t) ≡ 1) where
    mutual
      nodes_not : (t : TNot) (n : ℕ) → nodes (not_condition f t) ≤ count (not_text t n)
      nodes_not (neg at t) n = rw (token-opener n (tok.Word at key.Not)) (omega (arith, nodes_not t (less n)))
      nodes_not (group at o) n =
          rw (token-opener n (tok.Open at))
          (omega (arith, nodes_or o (less n), count-append (or_text o (less n)) (plain tok.Close ∷ [])))
      nodes_not (is v i None t) n = omega (arith, one v t)
      nodes_not (is v i (Some at) t) n = omega (arith, one v t)
      nodes_not (lone v x) n = omega (arith, one v v)

      nodes_nots : (ts : TNots) (n : ℕ) → total_nodes (nots_conditions f ts) ≤ count (nots_text ts n)
      nodes_nots no_nots n = omega arith
      nodes_nots (more_nots at t ts) n =
          omega (arith, nodes_not t n, nodes_nots ts n, count-append (not_text t n) (nots_text ts n))

      nodes_and : (a : TAnd) (n : ℕ) → nodes (and_condition f a) ≤ count (and_text a n)
      nodes_and (and_of t no_nots) n = omega (arith, nodes_not t n, count-append (not_text t n) [])
      nodes_and (and_of t (more_nots at u ts)) n =
          let all = count-three (not_text t n) (plain (tok.Word at key.And) ∷ not_text u n) (nots_text ts n) in
          omega (arith, nodes_not t n, nodes_not u n, nodes_nots ts n, all)

      nodes_ands : (items : TAnds) (n : ℕ) → total_nodes (ands_conditions f items) ≤ count (ands_text items n)
      nodes_ands no_ands n = omega arith
      nodes_ands (more_ands at a items) n =
          omega (arith, nodes_and a n, nodes_ands items n, count-append (and_text a n) (ands_text items n))

      pub nodes_or : (o : TOr) (n : ℕ) → nodes (or_condition f o) ≤ count (or_text o n)
      nodes_or (or_of a no_ands) n = omega (arith, nodes_and a n, count-append (and_text a n) [])
      nodes_or (or_of a (more_ands at c items)) n =
          let all = count-three (and_text a n) (plain (tok.Word at key.Or) ∷ and_text c n) (ands_text items n) in
          omega (arith, nodes_and a n, nodes_and c n, nodes_ands items n, all)

  -- ---- how deep

  module _ (flat : (v t : Name) → depth (f v t) ≡ 1) where
    mutual
      depth_not : (t : TNot) (n : ℕ) → IsClean (not_text t n) → depth (not_condition f t) ≤ 2 * n + 2
      depth_not (neg at t) zero clean = absurd (no_annotation Deep clean.0)
      depth_not (neg at t) (suc n) clean = omega (arith, depth_not t n clean.1)
      depth_not (group at o) zero clean = absurd (no_annotation Deep clean.0)
      depth_not (group at o) (suc n) clean =
          omega (arith, depth_or o n (clean_parts (or_text o n) (plain tok.Close ∷ []) clean.1).0)
      depth_not (is v i None t) n clean = omega (arith, flat v t)
      depth_not (is v i (Some at) t) n clean = omega (arith, flat v t)
      depth_not (lone v x) n clean = omega (arith, flat v v)

      depth_nots : (ts : TNots) (n : ℕ) → IsClean (nots_text ts n) → greatest_depth (nots_conditions f ts) ≤ 2 * n + 2
      depth_nots no_nots n clean = omega arith
      depth_nots (more_nots at t ts) n clean =
          let both = clean_parts (not_text t n) (nots_text ts n) clean.1 in
          omega (arith, depth_not t n both.0, depth_nots ts n both.1)

      depth_and : (a : TAnd) (n : ℕ) → IsClean (and_text a n) → depth (and_condition f a) ≤ 2 * n + 3
      depth_and (and_of t no_nots) n clean = omega (arith, depth_not t n (clean_parts (not_text t n) [] clean).0)
      depth_and (and_of t (more_nots at u ts)) n clean =
          let both = clean_parts (not_text t n) (nots_text (more_nots at u ts) n) clean in
          omega (arith, depth_not t n both.0, depth_nots (more_nots at u ts) n both.1)

      depth_ands : (items : TAnds) (n : ℕ) → IsClean (ands_text items n)
          → greatest_depth (ands_conditions f items) ≤ 2 * n + 3
      depth_ands no_ands n clean = omega arith
      depth_ands (more_ands at a items) n clean =
          let both = clean_parts (and_text a n) (ands_text items n) clean.1 in
          omega (arith, depth_and a n both.0, depth_ands items n both.1)

      pub depth_or : (o : TOr) (n : ℕ) → IsClean (or_text o n) → depth (or_condition f o) ≤ 2 * n + 4
      depth_or (or_of a no_ands) n clean = omega (arith, depth_and a n (clean_parts (and_text a n) [] clean).0)
      depth_or (or_of a (more_ands at c items)) n clean =
          let both = clean_parts (and_text a n) (ands_text (more_ands at c items) n) clean in
          omega (arith, depth_and a n both.0, depth_ands (more_ands at c items) n both.1)

-- ---- The condition of a rule is valid where each of its pairs is: in a clean text no name stands alone.

module _ (block : Block) (f : Name → Name → Condition) (P : Pair → Type 0)
    (valid : (v t : Name) → P (record { variable = v; term = t })
    → IsValidCondition block (f v t)) where
  -- what follows from a clean text and its pairs follows of two texts, one behind the other
  of_both : {A B : Type 0} (front back : List Sym) (ps qs : List Pair) → IsClean (front ++ back)
      → AllByRecursion P (ps ++ qs) → (IsClean front → AllByRecursion P ps → A)
      → (IsClean back → AllByRecursion P qs → B) → A × B
  of_both front back ps qs clean all f g =
      let both = clean_parts front back clean in
      let pairs = parts_of P ps qs all in
      (f both.0 pairs.0, g both.1 pairs.1)

  mutual
    valid_not : (t : TNot) (n : ℕ) → IsClean (not_text t n) → AllByRecursion P (not_pairs t)
        → IsValidCondition block (not_condition f t)
    valid_not (neg at t) n clean all = valid_not t (less n) clean.1 all
    valid_not (group at o) n clean all =
        valid_or o (less n) (clean_parts (or_text o (less n)) (plain tok.Close ∷ []) clean.1).0 all
    valid_not (is v i None t) n clean all = valid v t all.0
    valid_not (is v i (Some at) t) n clean all = valid v t all.0
    valid_not (lone v x) n clean all = absurd (no_annotation (Unsupported 12) clean.0)

    valid_nots : (ts : TNots) (n : ℕ) → IsClean (nots_text ts n) → AllByRecursion P (nots_pairs ts)
        → AllHaveLiterals (HasTerm block) (nots_conditions f ts)
    valid_nots no_nots n clean all = tt
    valid_nots (more_nots at t ts) n clean all =
        of_both _ (nots_text ts n) _ (nots_pairs ts) clean.1 all (valid_not t n) (valid_nots ts n)

    valid_and : (a : TAnd) (n : ℕ) → IsClean (and_text a n) → AllByRecursion P (and_pairs a)
        → IsValidCondition block (and_condition f a)
    valid_and (and_of t no_nots) n clean all =
        valid_not t n (clean_parts (not_text t n) [] clean).0 (parts_of P (not_pairs t) [] all).0
    valid_and (and_of t (more_nots at u ts)) n clean all =
        of_both _ (nots_text (more_nots at u ts) n) _ (nots_pairs (more_nots at u ts)) clean all (valid_not t n)
        (valid_nots (more_nots at u ts) n)

    valid_ands : (items : TAnds) (n : ℕ) → IsClean (ands_text items n) → AllByRecursion P (ands_pairs items)
        → AllHaveLiterals (HasTerm block) (ands_conditions f items)
    valid_ands no_ands n clean all = tt
    valid_ands (more_ands at a items) n clean all =
        of_both _ (ands_text items n) _ (ands_pairs items) clean.1 all (valid_and a n) (valid_ands items n)

    pub valid_or : (o : TOr) (n : ℕ) → IsClean (or_text o n) → AllByRecursion P (or_pairs o)
        → IsValidCondition block (or_condition f o)
    valid_or (or_of a no_ands) n clean all =
        valid_and a n (clean_parts (and_text a n) [] clean).0 (parts_of P (and_pairs a) [] all).0
    valid_or (or_of a (more_ands at c items)) n clean all =
        of_both _ (ands_text (more_ands at c items) n) _ (ands_pairs (more_ands at c items)) clean all (valid_and a n)
        (valid_ands (more_ands at c items) n)

-- ---- The size of the rules of a text is no more than its offsets, and they are not too deep.

-- ---- a rule

count-behind : (cs : List Conclusion) → length cs ≤ count (behind tok.Comma conclusion_text cs)
count-behind [] = omega arith
count-behind (c ∷ cs) = omega (arith, count-behind cs)

-- the text behind a rule's condition
abbrev ending : RuleNode → List Sym
ending r = plain (tok.Word r.then_at key.Then)
    ∷ (conclusions_text (r.first, r.more) ++ either_text weight_text semicolon_text (view_weight r.weight))

count-conclusions : (r : RuleNode) → length (conclusions_of r) ≤ count (ending r)
count-conclusions r =
    let more = behind tok.Comma conclusion_text r.more in
    let weight = either_text weight_text semicolon_text (view_weight r.weight) in
    omega (arith, count-behind r.more, count-append more weight)

module _ (text : List ℕ) (b : FunctionBlock) where
  rule_size-le : (r : RuleNode) (q : Rule) → IsRuleOf text b r q
      → rule_size q ≤ count (rule_item_text (view_rule_item r))
  rule_size-le r q rule =
      let o = r.condition in
      let literal = literal_of text b in
      let conditions : nodes q.cond ≤ count (or_text o 64) =
      rw (rule.condition) (nodes_or literal (λ v t. refl) o 64) in
      let ends : length q.concl ≡ length (conclusions_of r) = ap length rule.conclusions
      ∙ length-map (conclusions_of r) (conclusion_of text b) in
      omega (arith, conditions, ends, count-conclusions r, count-append (or_text o 64) (ending r))

  pub rule_sizes : (rs : List RuleNode) (qs : List Rule) → AllZip (IsRuleOf text b) rs qs
      → sum_by rule_size qs ≤ count (each rule_item_text (map view_rule_item rs))
  rule_sizes [] [] zip = omega arith
  rule_sizes (r ∷ rs) (q ∷ qs) zip =
      let texts = count-append (rule_item_text (view_rule_item r)) (each rule_item_text (map view_rule_item rs)) in
      omega (arith, sum_by-cons rule_size q qs, rule_size-le r q zip.0, rule_sizes rs qs zip.1, texts)
  rule_sizes _ _ zip = absurd zip

-- ---- the rules in the text of a block

abbrev pub rules_text : FunctionBlock → List Sym
rules_text b = each rule_item_text (map view_rule_item b.rules.rules)

-- behind the rules, and from them on
abbrev tail_text : FunctionBlock → List Sym
tail_text b = rules_text b ++ key_text key.EndRuleblock b.rules.end

module _ (b : FunctionBlock) where
  abbrev variables : List Sym
  variables = each section_text (map view_section b.variables)

  abbrev parts : List Sym
  parts = each part_text (map view_part b.parts)

  abbrev lines : List Sym
  lines = each rule_line_text (map view_rule_line b.rules.lines)

  abbrev rulebase : List Sym
  rulebase = rulebase_text (view b).rules

  pub count-rules : count (rules_text b) ≤ count (block_text (view b))
  count-rules =
      let ending = end_text (view b).end in
      omega (
        arith,
        count-append variables (parts ++ (rulebase ++ ending)),
        count-append parts (rulebase ++ ending),
        count-append rulebase ending,
        count-append lines (tail_text b),
        count-append (rules_text b) (key_text key.EndRuleblock b.rules.end),
      )

  clean-rules : IsClean (block_text (view b)) → IsClean (rules_text b)
  clean-rules clean =
      let ending = end_text (view b).end in
      let behind_variables = clean_parts variables (parts ++ (rulebase ++ ending)) clean.1.1 in
      let behind_parts = clean_parts parts (rulebase ++ ending) behind_variables.1 in
      let base = clean_parts rulebase ending behind_parts.1 in
      let behind_lines = clean_parts lines (tail_text b) base.0.1.1 in
      (clean_parts (rules_text b) (key_text key.EndRuleblock b.rules.end) behind_lines.1).0

-- ---- depths

-- the text of the condition is clean
abbrev pub HasCleanCondition : RuleNode → Type 0
HasCleanCondition r = IsClean (or_text r.condition 64)

clean_conditions : (rs : List RuleNode) → IsClean (each rule_item_text (map view_rule_item rs))
    → AllByRecursion HasCleanCondition rs
clean_conditions [] clean = tt
clean_conditions (r ∷ rs) clean =
    let both = clean_parts (rule_item_text (view_rule_item r)) (each rule_item_text (map view_rule_item rs)) clean in
    ((clean_parts (or_text r.condition 64) (ending r) both.0.1.1.1.1).0, clean_conditions rs both.1)

pub clean_rules : (b : FunctionBlock) → IsClean (block_text (view b)) → AllByRecursion HasCleanCondition b.rules.rules
clean_rules b clean = clean_conditions b.rules.rules (clean-rules b clean)

-- at most 256 conditions lie one in another
pub shallow_rule : (text : List ℕ) (b : FunctionBlock) (r : RuleNode) (q : Rule) → HasCleanCondition r
    → IsRuleOf text b r q → depth q.cond ≤ 256
shallow_rule text b r q clean rule =
    let literal = literal_of text b in
    let deep : depth (or_condition literal r.condition) ≤ 132 =
    depth_or literal (λ v t. refl) r.condition 64 clean in
    rw (rule.condition) (omega (arith, deep))
