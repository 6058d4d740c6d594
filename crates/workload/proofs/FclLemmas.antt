-- The FCL text of each shift spells the block that is drawn.
use Rattle.std.proofs.Common.{arith, ◌≡◌, ◌<◌, ◌≤◌, ℕ, zero, suc, true, List, [], ◌∷◌, ◌++◌, length, map, refl, ap}
use Rattle.std.proofs.Common.{Option, Some, None, Ok, Err}
use Rattle.std.specs.Fmt.{digits}
use Rattle.std.specs.List.{AllByRecursion, AllZip, flat_map, list_all, range_with_len}
use Rattle.std.specs.Prelude.{codes, is_none}
use Rattle.std.proofs.lemmas.Bool.{and_parts}
use Rattle.fuzzy_meaning.specs.declared.block.Rule.{Rule}
use Rattle.fcl_tokens.specs.Cuts.{CutsAreTokens}
use Rattle.fcl_tokens.specs.Lexing.{Lexed, colon_piece, delimiter_piece, lexed, number_len, number_piece, open_piece}
use Rattle.fcl_tokens.specs.Lexing.{point_piece, slash_piece, tokenization, word_token}
use Rattle.fcl_tokens.specs.declared.token.Token.{Token}
use Rattle.fcl_syntax.specs.Annotations.{IsClean, Sym, tokens_of, Spells}
use Rattle.fcl_syntax.specs.{Grammar.block_text, Text.SpellsTree, View.view}
use Rattle.fcl_syntax.specs.declared.{fault.Kind.Kind, tree.Rule.Rule as RuleNode}
use Rattle.fcl_check.specs.Faults.{first_fault, kinds, mistaken_in, mistaken_section, unknown, unknown_in}
use Rattle.fcl_check.specs.Faults.{unknown_section, wrong_side}
use Rattle.fcl_check.specs.Loaded.{IsBlockOf, IsInputOf, IsOutputOf, IsRuleOf, IsTermOf}
use Rattle.fcl_check.specs.{Places.first, Texts.SpelledBlocksAreValid, declared.fault.LoadFault.LoadFault}
use Rattle.workload.specs.Blocks.{drawn_block, drawn_input, drawn_output, drawn_rules, term_number}
use Rattle.workload.specs.{Laws.DrawnTextsSpellBlocks, Texts.fcl_text, Texts.rule_text}
use Rattle.workload.proofs.RuleLemmas.{IsDrawn, are_drawn, each_five, letters_before, named_by, named_in}
use Rattle.workload.proofs.TreeOfText.{defuzzify_at, fuzzify_at, term_at, tree}

-- ---- the tokens

abbrev tokens : List Token
tokens = tokens_of (block_text (view tree))

abbrev places_in : Lexed → List ℕ
places_in (Ok l) = l.1
places_in (Err e) = []

abbrev IsCutInto : List Token → ℕ → Type 0
IsCutInto ts shift = tokenization (fcl_text shift) ≡ Ok (ts, places_in (tokenization (fcl_text shift)))

cut : (shift : ℕ) → shift < 5 → IsCutInto tokens shift
unfolding fcl_text digits lexed number_len number_piece word_token open_piece slash_piece point_piece colon_piece
    delimiter_piece
cut = each_five (IsCutInto tokens) refl refl refl refl refl

short : (shift : ℕ) → shift < 5 → length (fcl_text shift) ≡ 4795
unfolding fcl_text digits
short = each_five (λ (shift : ℕ). length (fcl_text shift) ≡ 4795) refl refl refl refl refl

unannotated : (o : Option Kind) → is_none o ≡ true → o ≡ None
unannotated None h = refl
unannotated (Some k) h = absurd cc

clean : (ss : List Sym) → list_all (λ (s : Sym). is_none s.annotation) ss ≡ true → IsClean ss
clean [] h = tt
clean (s ∷ ss) h =
    let parts = and_parts (is_none s.annotation) (list_all (λ (s : Sym). is_none s.annotation) ss) h in
    (unannotated s.annotation parts.0, clean ss parts.1)

spells : Spells block_text tokens (view tree)
spells = record { parts = refl; clean = clean (block_text (view tree)) refl }

spelled : CutsAreTokens → (shift : ℕ) → shift < 5 → SpellsTree (fcl_text shift) (view tree)
spelled cuts shift h = record {
  tokens = tokens;
  places = places_in (tokenization (fcl_text shift));
  cut = (cuts.tokens (fcl_text shift) tokens (places_in (tokenization (fcl_text shift)))).0 (cut shift h);
  spells = spells;
}

-- ---- the block

-- what stands behind the variables
abbrev rest_of : ℕ → List ℕ
rest_of shift = flat_map (rule_text shift) (range_with_len 0 81) ++ codes "END_RULEBLOCK\nEND_FUNCTION_BLOCK\n"

abbrev NamesRules : ℕ → Type 0
NamesRules shift =
    map (named_by (rest_of shift)) tree.rules.rules ≡ map (named_in (rest_of shift) shift) (range_with_len 0 81)

named_0 : NamesRules 0
unfolding digits
named_0 = refl

named_1 : NamesRules 1
unfolding digits
named_1 = refl

named_2 : NamesRules 2
unfolding digits
named_2 = refl

named_3 : NamesRules 3
unfolding digits
named_3 = refl

named_4 : NamesRules 4
unfolding digits
named_4 = refl

drawn : (shift : ℕ) → shift < 5 → AllZip (IsDrawn (rest_of shift)) tree.rules.rules (drawn_rules shift)
unfolding drawn_rules
drawn shift h =
    are_drawn (rest_of shift) shift 81 0 964 (omega arith)
    (each_five NamesRules named_0 named_1 named_2 named_3 named_4 shift h)

-- kinds of faults that have no place are no fault
no_places : (ks : List ((ℕ → LoadFault) × List ℕ)) → AllByRecursion (λ (k : (ℕ → LoadFault) × List ℕ). k.1 ≡ []) ks
    → flat_map (λ (k : (ℕ → LoadFault) × List ℕ). map k.0 k.1) ks ≡ []
no_places [] h = refl
no_places (k ∷ ks) h = λ i. map k.0 (h.0 i) ++ no_places ks h.1 i

module _ (rest : List ℕ) where
  abbrev ls : List ℕ
  ls = letters_before rest

  rules_are : (rs : List RuleNode) (qs : List Rule) → AllZip (IsDrawn rest) rs qs → AllZip (IsRuleOf ls tree) rs qs
  rules_are [] [] h = tt
  rules_are [] (q ∷ qs) h = h
  rules_are (r ∷ rs) [] h = h
  rules_are (r ∷ rs) (q ∷ qs) h = (h.0.drawn, rules_are rs qs h.1)

  -- what has no place in such a rule has none in such rules
  none_in : (places : RuleNode → List ℕ) → ((r : RuleNode) (q : Rule) → IsDrawn rest r q → places r ≡ [])
      → (rs : List RuleNode) (qs : List Rule) → AllZip (IsDrawn rest) rs qs → flat_map places rs ≡ []
  none_in places none [] [] h = refl
  none_in places none [] (q ∷ qs) h = absurd h
  none_in places none (r ∷ rs) [] h = absurd h
  none_in places none (r ∷ rs) (q ∷ qs) h = λ i. none r q h.0 i ++ none_in places none rs qs h.1 i

  unknown_none : (qs : List Rule) → AllZip (IsDrawn rest) tree.rules.rules qs → unknown ls tree ≡ []
  unknown_none qs h = ap (λ (places : List ℕ). flat_map (unknown_section ls tree) tree.parts ++ places)
      (none_in (unknown_in ls tree) (λ r q d. d.known) tree.rules.rules qs h)

  wrong_none : (qs : List Rule) → AllZip (IsDrawn rest) tree.rules.rules qs → wrong_side ls tree ≡ []
  wrong_none qs h = ap (λ (places : List ℕ). flat_map (mistaken_section ls tree) tree.parts ++ places)
      (none_in (mistaken_in ls tree) (λ r q d. d.right) tree.rules.rules qs h)

  -- all kinds but two come from the variables and the sections alone
  faultless : (qs : List Rule) → AllZip (IsDrawn rest) tree.rules.rules qs → first_fault ls tree ≡ None
  faultless qs h = ap first (no_places (kinds ls tree) (
    refl,
    (
      unknown_none qs h,
      (
        refl,
        (
          refl,
          (
            refl,
            (
              refl,
              (
                refl,
                (
                  refl,
                  (
                    refl,
                    (
                      refl,
                      (wrong_none qs h, (refl, tt)),
                    ),
                  ),
                ),
              ),
            ),
          ),
        ),
      ),
    ),
  ))

is_term : (at j : ℕ) → j < 9 → IsTermOf (term_at at j) (term_number j)
is_term at zero h = record { a = refl; b = refl; c = refl; d = refl }
is_term at (suc zero) h = record { a = refl; b = refl; c = refl; d = refl }
is_term at (suc (suc zero)) h = record { a = refl; b = refl; c = refl; d = refl }
is_term at (suc (suc (suc zero))) h = record { a = refl; b = refl; c = refl; d = refl }
is_term at (suc (suc (suc (suc zero)))) h = record { a = refl; b = refl; c = refl; d = refl }
is_term at (suc (suc (suc (suc (suc zero))))) h = record { a = refl; b = refl; c = refl; d = refl }
is_term at (suc (suc (suc (suc (suc (suc zero)))))) h = record { a = refl; b = refl; c = refl; d = refl }
is_term at (suc (suc (suc (suc (suc (suc (suc zero))))))) h = record { a = refl; b = refl; c = refl; d = refl }
is_term at (suc (suc (suc (suc (suc (suc (suc (suc zero)))))))) h = record { a = refl; b = refl; c = refl; d = refl }
is_term at (suc (suc (suc (suc (suc (suc (suc (suc (suc j))))))))) h = absurd (omega arith)

is_input : (at : ℕ) → IsInputOf (fuzzify_at at) drawn_input
is_input at = record {
  range = refl;
  terms = (
    is_term _ 0 (omega arith),
    (
      is_term _ 1 (omega arith),
      (
        is_term _ 2 (omega arith),
        (
          is_term _ 3 (omega arith),
          (
            is_term _ 4 (omega arith),
            (
              is_term _ 5 (omega arith),
              (is_term _ 6 (omega arith), (is_term _ 7 (omega arith), (is_term _ 8 (omega arith), tt))),
            ),
          ),
        ),
      ),
    ),
  );
}

is_output : (at : ℕ) → IsOutputOf (defuzzify_at at) drawn_output
is_output at = record { range = refl; singletons = refl; default = refl }

loaded : (rest : List ℕ) (shift : ℕ) → AllZip (IsDrawn rest) tree.rules.rules (drawn_rules shift)
    → IsBlockOf (letters_before rest) tree (drawn_block shift)
loaded rest shift h = record {
  inputs = ((fuzzify_at 92, refl, is_input 92), ((fuzzify_at 455, refl, is_input 455), tt));
  outputs = ((defuzzify_at 818, refl, is_output 818), tt);
  rules = rules_are rest tree.rules.rules (drawn_rules shift) h;
}

pub drawn_texts : CutsAreTokens → SpelledBlocksAreValid → DrawnTextsSpellBlocks
unfolding fcl_text
drawn_texts cuts valid shift h =
    let small : length (fcl_text shift) ≤ 1048576 = omega (arith, short shift h) in
    let spells = spelled cuts shift h in
    let rules = drawn shift h in
    let none = faultless (rest_of shift) (drawn_rules shift) rules in
    let is = loaded (rest_of shift) shift rules in (
      record {
        tree = tree;
        spelled = spells;
        well_formed = none;
        loaded = is;
        valid = valid (fcl_text shift) tree (drawn_block shift) small spells none is;
      },
      small,
    )
