-- A tree of the program as a tree of the grammar, where nothing is refused.
-- Reached by the promise.
use Rattle.std.specs.Prelude.{ℕ, List, map, Option, Some, None, ◌⊎◌}
use Rattle.std.proofs.Common.{inl, inr}
use Rattle.fcl_syntax.specs.declared.tree.ActWord.{ActWord}
use Rattle.fcl_syntax.specs.declared.tree.ActWord.TheVariants as act
use Rattle.fcl_syntax.specs.declared.{tree.Activation.Activation, tree.Declaration.Declaration}
use Rattle.fcl_syntax.specs.declared.{tree.Defuzzify.Defuzzify, tree.DefuzzyLine.DefuzzyLine}
use Rattle.fcl_syntax.specs.declared.tree.DefuzzyLine.TheVariants as defuzzy
use Rattle.fcl_syntax.specs.declared.tree.Degree.{Degree}
use Rattle.fcl_syntax.specs.declared.tree.Degree.TheVariants as degree
use Rattle.fcl_syntax.specs.declared.{tree.Fallback.Fallback, tree.FallbackValue.FallbackValue}
use Rattle.fcl_syntax.specs.declared.tree.FallbackValue.TheVariants as fallback
use Rattle.fcl_syntax.specs.declared.{tree.FunctionBlock.FunctionBlock, tree.Fuzzify.Fuzzify}
use Rattle.fcl_syntax.specs.declared.tree.FuzzyLine.{FuzzyLine}
use Rattle.fcl_syntax.specs.declared.tree.FuzzyLine.TheVariants as fuzzy
use Rattle.fcl_syntax.specs.declared.tree.SignedNumber.{SignedNumber}
use Rattle.fcl_syntax.specs.declared.tree.SignedNumber.TheVariants as signed
use Rattle.fcl_syntax.specs.declared.tree.Part.{Part}
use Rattle.fcl_syntax.specs.declared.tree.Part.TheVariants as part
use Rattle.fcl_syntax.specs.declared.{tree.Point.Point, tree.Range.Range, tree.Rule.Rule, tree.RuleLine.RuleLine}
use Rattle.fcl_syntax.specs.declared.tree.RuleLine.TheVariants as line
use Rattle.fcl_syntax.specs.declared.{tree.Rulebase.Rulebase, tree.Setting.Setting, tree.Singleton.Singleton}
use Rattle.fcl_syntax.specs.declared.{tree.Term.Term, tree.Variables.Variables, tree.Weight.Weight}
use Rattle.fcl_syntax.specs.Grammar.{TSigned, plus, minus, bare, TSignedNumber, TDeclaration, TVariables, TSection}
use Rattle.fcl_syntax.specs.Grammar.{TCoordinate, TUnit, TZero, TPoint, TTerm, TRange, TFuzzify, TSetting, TSingleton}
use Rattle.fcl_syntax.specs.Grammar.{TFallback, TDefuzzyLine, TDefuzzify, TPart, TWeight, TRule, TRuleItem, TAct}
use Rattle.fcl_syntax.specs.Grammar.{TRuleLine, TRulebase, TBlock}

-- ---- variables, terms and ranges

abbrev pub view_declaration : Declaration → TDeclaration
view_declaration d = record { names = (d.first, d.more); type = inr d.real }

abbrev pub view_variables : Variables → TVariables
view_variables v = record {
  at = v.at;
  direction = v.direction;
  declarations =
      map view_declaration v.declarations;
  end = v.end;
}

abbrev pub view_section : Variables → TSection
view_section v = inr (view_variables v)

abbrev pub view_signed_number : SignedNumber → TSignedNumber
view_signed_number (signed.Plus n) = plus n
view_signed_number (signed.Minus n) = minus n
view_signed_number (signed.Bare n) = bare n

abbrev pub view_coordinate : SignedNumber → TSigned TCoordinate TCoordinate
view_coordinate (signed.Plus n) = plus (inr n)
view_coordinate (signed.Minus n) = minus (inr n)
view_coordinate (signed.Bare n) = bare (inr n)

abbrev pub view_degree : Degree → TSigned TUnit TZero
view_degree (degree.Plus n) = plus (inr (inr n))
view_degree (degree.Minus n) = minus (inr (inr n))
view_degree (degree.Bare n) = bare (inr (inr n))

abbrev pub view_point : Point → TPoint
view_point p = record { open_at = p.open_at; x = view_coordinate p.x; degree = view_degree p.degree }

abbrev pub view_term : Term → TTerm
view_term t = record { at = t.at; name = t.name; points = inr (view_point t.first, map view_point t.more) }

abbrev pub view_range : Range → TRange
view_range r = record {
  at = r.at;
  assigned = r.assigned;
  open_at = r.open_at;
  low = view_signed_number r.low;
  high = view_signed_number r.high;
}

abbrev pub view_fuzzy_line : FuzzyLine → TTerm ⊎ TRange
view_fuzzy_line (fuzzy.Term t) = inl (view_term t)
view_fuzzy_line (fuzzy.Range r) = inr (view_range r)

abbrev pub view_fuzzify : Fuzzify → TFuzzify
view_fuzzify f = record { at = f.at; name = f.name; lines = map view_fuzzy_line f.lines; end = f.end }

abbrev pub view_setting : {classes : List ℕ} → Setting → TSetting classes
view_setting s = record { at = s.at; word = inr s.word }

abbrev pub view_singleton : Singleton → TSingleton
view_singleton s = record { at = s.at; name = s.name; value = inr (view_signed_number s.value) }

abbrev pub view_value : FallbackValue → TSignedNumber ⊎ ℕ
view_value (fallback.Number n) = inl (view_signed_number n)
view_value (fallback.Nc at) = inr at

abbrev pub view_fallback : Fallback → TFallback
view_fallback d = record { at = d.at; value = view_value d.value }

abbrev pub view_defuzzy_line : DefuzzyLine → TDefuzzyLine
view_defuzzy_line (defuzzy.Singleton s) = inl (view_singleton s)
view_defuzzy_line (defuzzy.Accu s) = inr (inl (view_setting s))
view_defuzzy_line (defuzzy.Method s) = inr (inr (inl (view_setting s)))
view_defuzzy_line (defuzzy.Default d) = inr (inr (inr (inl (view_fallback d))))
view_defuzzy_line (defuzzy.Range r) = inr (inr (inr (inr (view_range r))))

abbrev pub view_defuzzify : Defuzzify → TDefuzzify
view_defuzzify d = record { at = d.at; name = d.name; lines = map view_defuzzy_line d.lines; end = d.end }

abbrev pub view_part : Part → TPart
view_part (part.Fuzzify f) = inr (inl (view_fuzzify f))
view_part (part.Defuzzify d) = inr (inr (view_defuzzify d))

-- ---- rules

abbrev pub view_with : Weight → TWeight
view_with w = record { at = w.at; value = inr (view_signed_number w.value) }

abbrev pub view_weight : Option Weight → TWeight ⊎ Unit {0}
view_weight None = inr tt
view_weight (Some w) = inl (view_with w)

abbrev pub view_rule : Rule → TRule
view_rule r = record {
  at = r.at;
  label = r.label;
  if_at = r.if_at;
  condition = r.condition;
  then_at = r.then_at;
  conclusions = (r.first, r.more);
  weight = view_weight r.weight;
}

abbrev pub view_rule_item : Rule → TRuleItem
view_rule_item r = inr (view_rule r)

abbrev pub view_act_word : ActWord → ℕ ⊎ ℕ
view_act_word (act.Min at) = inl at
view_act_word (act.Prod at) = inr at

abbrev pub view_act : Activation → TAct
view_act a = record { at = a.at; word = view_act_word a.word }

abbrev pub view_rule_line : RuleLine → TRuleLine
view_rule_line (line.And s) = inl (view_setting s)
view_rule_line (line.Or s) = inr (inl (view_setting s))
view_rule_line (line.Act a) = inr (inr (inl (view_act a)))
view_rule_line (line.Accu s) = inr (inr (inr (view_setting s)))

abbrev pub view_rulebase : Rulebase → TRulebase
view_rulebase r = record {
  at = r.at;
  name = r.name;
  lines = map view_rule_line r.lines;
  rules = map view_rule_item r.rules;
  end = r.end;
}

abbrev pub view : FunctionBlock → TBlock
view b = record {
  at = b.at;
  name = b.name;
  variables = map view_section b.variables;
  parts = map view_part b.parts;
  rules = view_rulebase b.rules;
  end = inr (inr b.end);
}
