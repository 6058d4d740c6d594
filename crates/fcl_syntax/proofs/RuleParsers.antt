-- The parsers of rules and of the block.
use Rattle.std.proofs.Common.{◌≡◌, ℕ, true, List, [], ◌∷◌, refl, ◌⊎◌}
use Rattle.fcl_tokens.specs.declared.token.Keyword.TheVariants as key
use Rattle.fcl_tokens.specs.declared.token.Token.TheVariants as tok
use Rattle.fcl_tokens.specs.declared.token.Word.TheVariants as word
use Rattle.fcl_syntax.specs.declared.{tree.Conclusion.Conclusion, tree.Label.Label}
use Rattle.fcl_syntax.specs.TokenClasses.{Among, name_classes, keyword_class}
use Rattle.fcl_syntax.specs.Grammar.{conclusion_text, TSignedNumber, TWeight, weight_text, TOr, TRule, rule_text}
use Rattle.fcl_syntax.specs.Grammar.{option_classes, TRuleItem, and_classes, or_classes, TAct, act_text, TRuleLine}
use Rattle.fcl_syntax.specs.Grammar.{TRulebase, rulebase_text, ruleblock_classes, TEnd, TBlock, block_text}
use Rattle.fcl_syntax.specs.Readers.{TakesSome}
use Rattle.fcl_syntax.specs.Reading.{comma_at, conclusion_at, headed_at, with_at, with_from, rule_at, rule_from}
use Rattle.fcl_syntax.specs.Reading.{rule_item_at, act_at, rule_line_at, rulebase_at, block_at}
use Rattle.fcl_syntax.proofs.Parser.{disjoint, Parser}
use Rattle.fcl_syntax.proofs.Chains.{bind_assoc}
use Rattle.fcl_syntax.proofs.SingleTokens as single
use Rattle.fcl_syntax.proofs.{Run.parser_takes, ConditionParsers.part, ConditionParsers.or_parser, Dead.via}
use Rattle.fcl_syntax.proofs.Parsers.{bare_parser, key_parser, word_parser, name_parser, signed_number_parser, section_parser}
use Rattle.fcl_syntax.proofs.Parsers.{comma_parser, listed_parser, token_parser}
use Rattle.fcl_syntax.proofs.Named.{Reads, one_of, named, refuse, many_then}
use Rattle.fcl_syntax.proofs.{Seq.seq, TermParsers.setting_parser, TermParsers.accu_parser, TermParsers.part_parser}

abbrev pub label_parser : Parser Label
label_parser = token_parser single.label_single

-- ---- conclusions and weights

pub conclusion_is : Reads conclusion_at (via (seq name_parser (seq (key_parser key.Is) name_parser refl) refl)
    (λ t. record { variable = t.0; is_at = t.1.0; term = t.1.1 }) (λ c. (c.variable, (c.is_at, c.term)))
    conclusion_text (λ c. refl) (λ t. refl))
unfolding conclusion_at
conclusion_is = record { same = λ ts. simp (bind_assoc) }

abbrev pub conclusion_parser : Parser Conclusion
conclusion_parser = named conclusion_is

abbrev pub conclusions_parser : Parser (Conclusion × List Conclusion)
conclusions_parser = listed_parser conclusion_parser refl

pub conclusions_take : TakesSome (comma_at conclusion_at)
conclusions_take = parser_takes (comma_parser conclusion_parser refl)

abbrev pub weight_value_parser : Parser (Among name_classes ⊎ TSignedNumber)
weight_value_parser = refuse 15 name_classes signed_number_parser refl refl

pub with_is : Reads with_at (via
    (seq (key_parser key.With) (seq weight_value_parser (bare_parser tok.Semicolon refl) refl) refl)
    (λ t. record { at = t.0; value = t.1.0 }) (λ w. (w.at, (w.value, tt))) weight_text (λ w. refl) (λ t. refl))
unfolding headed_at with_from
with_is = record { same = λ ts. simp (bind_assoc) }

abbrev pub with_parser : Parser TWeight
with_parser = named with_is

abbrev pub weight_parser : Parser (TWeight ⊎ Unit {0})
weight_parser = one_of with_parser (bare_parser tok.Semicolon refl) refl refl

-- ---- rules

abbrev pub condition_parser : Parser TOr
condition_parser = or_parser 64 (part 64)

pub condition_apart : disjoint condition_parser.goes (keyword_class key.Then ∷ []) ≡ true
condition_apart = rw (part 64).goes refl

pub rule_is : Reads rule_at (via (seq (key_parser key.Rule) (seq label_parser (seq (bare_parser tok.Colon refl)
    (seq (key_parser key.If) (seq condition_parser (seq (key_parser key.Then) (seq conclusions_parser weight_parser refl)
    refl)
    condition_apart) refl) refl) refl) refl)
    (λ t. record {
      at = t.0;
      label = t.1.0;
      if_at = t.1.1.1.0;
      condition = t.1.1.1.1.0;
      then_at = t.1.1.1.1.1.0;
      conclusions = t.1.1.1.1.1.1.0;
      weight = t.1.1.1.1.1.1.1;
    })
    (λ r. (r.at, (r.label, (tt, (r.if_at, (r.condition, (r.then_at, (r.conclusions, r.weight)))))))) rule_text
    (λ r. refl) (λ t. refl))
unfolding headed_at rule_from
rule_is = record { same = λ ts. simp (bind_assoc) }

abbrev pub rule_parser : Parser TRule
rule_parser = named rule_is

abbrev pub rule_item_parser : Parser TRuleItem
rule_item_parser = refuse 7 option_classes rule_parser refl refl

pub rule_item_take : TakesSome rule_item_at
rule_item_take = parser_takes rule_item_parser

-- ---- the lines before the rules

abbrev pub act_word_parser : Parser (ℕ ⊎ ℕ)
act_word_parser = one_of (word_parser word.Min) (word_parser word.Prod) refl refl

pub act_is : Reads act_at (via
    (seq (key_parser key.Act)
    (seq (bare_parser tok.Colon refl) (seq act_word_parser (bare_parser tok.Semicolon refl) refl) refl) refl)
    (λ t. record { at = t.0; word = t.1.1.0 }) (λ a. (a.at, (tt, (a.word, tt)))) act_text (λ a. refl) (λ t. refl))
unfolding act_at
act_is = record { same = λ ts. simp (bind_assoc) }

abbrev pub act_parser : Parser TAct
act_parser = named act_is

abbrev pub rule_line_parser : Parser TRuleLine
rule_line_parser = one_of (setting_parser key.And word.Min and_classes 2 refl refl)
    (one_of (setting_parser key.Or word.Max or_classes 3 refl refl) (one_of act_parser accu_parser refl refl) refl refl)
    refl refl

pub rule_line_take : TakesSome rule_line_at
rule_line_take = parser_takes rule_line_parser

-- ---- RULEBLOCK

pub rulebase_is : Reads rulebase_at (via (seq (key_parser key.Ruleblock) (seq name_parser (many_then rule_line_parser
    (many_then rule_item_parser (key_parser key.EndRuleblock) refl refl refl) refl refl refl) refl) refl)
    (λ t. record { at = t.0; name = t.1.0; lines = t.1.1.0; rules = t.1.1.1.0; end = t.1.1.1.1 })
    (λ r. (r.at, (r.name, (r.lines, (r.rules, r.end))))) rulebase_text (λ r. refl) (λ t. refl))
unfolding rulebase_at
rulebase_is = record { same = λ ts. simp (bind_assoc) }

abbrev pub rulebase_parser : Parser TRulebase
rulebase_parser = named rulebase_is

-- ---- the block

abbrev pub end_parser : Parser TEnd
end_parser = refuse 7 option_classes (refuse 8 ruleblock_classes (key_parser key.EndFunctionBlock) refl refl) refl refl

pub block_is : Reads block_at (via (seq (key_parser key.FunctionBlock) (seq name_parser (many_then section_parser
    (many_then part_parser (seq rulebase_parser end_parser refl) refl refl refl) refl refl refl) refl) refl)
    (λ t. record {
      at = t.0;
      name = t.1.0;
      variables = t.1.1.0;
      parts = t.1.1.1.0;
      rules = t.1.1.1.1.0;
      end = t.1.1.1.1.1;
    })
    (λ b. (b.at, (b.name, (b.variables, (b.parts, (b.rules, b.end)))))) block_text (λ b. refl) (λ t. refl))
unfolding block_at
block_is = record { same = λ ts. simp (bind_assoc) }

abbrev pub block_parser : Parser TBlock
block_parser = named block_is
