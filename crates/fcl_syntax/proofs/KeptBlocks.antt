-- Each block in a text is one of the program, so each text spells one or has a first fault.
use Rattle.std.proofs.Common.{◌≡◌, ℕ, ◌⊎◌, inl, inr, [], ◌∷◌, ◌++◌, Some, None, Result, Ok}
use Rattle.std.proofs.Common.{Err, refl, ap, sym, subst, ◌∙◌}
use Rattle.fcl_tokens.specs.declared.token.Keyword.TheVariants as key
use Rattle.fcl_tokens.specs.declared.token.Token.TheVariants as tok
use Rattle.fcl_tokens.specs.declared.token.Word.TheVariants as word
use Rattle.fcl_tokens.specs.Cuts.{CutsAreTokens}
use Rattle.fcl_syntax.specs.declared.{fault.Kind.TheVariants.Unsupported, text.SyntaxFault.SyntaxFault}
use Rattle.fcl_syntax.specs.declared.tree.ActWord.TheVariants as act
use Rattle.fcl_syntax.specs.declared.tree.FunctionBlock.{FunctionBlock}
use Rattle.fcl_syntax.specs.declared.tree.RuleLine.TheVariants as line
use Rattle.fcl_syntax.specs.Grammar.{TDeclaration, names_text, each, type_text, word_text, declaration_text}
use Rattle.fcl_syntax.specs.Grammar.{TVariables, variables_text, key_text, TSection, section_text, or_text, TRule}
use Rattle.fcl_syntax.specs.Grammar.{rule_text, conclusions_text, TWeight, weight_text, semicolon_text}
use Rattle.fcl_syntax.specs.Grammar.{signed_number_text, TRuleItem, rule_item_text, TAct, TRuleLine, rule_line_text}
use Rattle.fcl_syntax.specs.Grammar.{and_classes, or_classes, accu_classes, TRulebase, rulebase_text, TEnd, end_text}
use Rattle.fcl_syntax.specs.Grammar.{part_text, TBlock, block_text}
use Rattle.fcl_syntax.specs.TokenClasses.{name_classes, other_type_classes}
use Rattle.fcl_syntax.specs.Annotations.{IsClean, plain, either_text, or_refused}
use Rattle.fcl_syntax.specs.{Text.SpellsTree, Text.IsFirstFault, TextReading.read_text, Readings.EachTextIsRead}
use Rattle.fcl_syntax.specs.View.{view_signed_number, view_declaration, view_variables, view_section, view_part}
use Rattle.fcl_syntax.specs.View.{view_weight, view_rule, view_rule_item, view_act_word, view_act, view_rule_line}
use Rattle.fcl_syntax.specs.View.{view_rulebase, view}
use Rattle.fcl_syntax.proofs.AnnotatedTexts.{clean_back, clean_front}
use Rattle.fcl_syntax.proofs.KeptLists.{HasTree, accepted, each_tree, no_annotation}
use Rattle.fcl_syntax.proofs.KeptTerms.{signed_number_tree, part_tree, setting_tree}
use Rattle.fcl_syntax.proofs.Theorem.{read_faults, read_spells}

act_word_tree : (w : ℕ ⊎ ℕ) → HasTree view_act_word w
act_word_tree (inl at) = (act.Min at, refl)
act_word_tree (inr at) = (act.Prod at, refl)

act_tree : (a : TAct) → HasTree view_act a
act_tree a =
    let found = act_word_tree a.word in
    (record { at = a.at; word = found.0 }, λ i. record a { word = found.1 i })

-- ---- variables

declaration_tree : (d : TDeclaration) → IsClean (declaration_text d) → HasTree view_declaration d
declaration_tree d h =
    let rest = plain tok.Colon ∷ (type_text d.type ++ plain tok.Semicolon ∷ []) in
    let real = accepted (Unsupported 5) other_type_classes (word_text word.Real) d.type
    (clean_front (type_text d.type) (plain tok.Semicolon ∷ [])
    (clean_back (names_text d.names) rest h).1) in
    (record { first = d.names.0; more = d.names.1; real = real.0 }, λ i. record d { type = real.1 i })

variables_tree : (v : TVariables) → IsClean (variables_text v) → HasTree view_variables v
variables_tree v h =
    let declarations = each_tree view_declaration declaration_text declaration_tree
    v.declarations
    (clean_front (each declaration_text v.declarations) (key_text key.EndVar v.end)
    h.1) in (
      record { at = v.at; direction = v.direction; declarations = declarations.0; end = v.end },
      λ i. record v { declarations = declarations.1 i },
    )

section_tree : (s : TSection) → IsClean (section_text s) → HasTree view_section s
section_tree (inl x) h = absurd (no_annotation (Unsupported 6) h.0)
section_tree (inr v) h = let found = variables_tree v h in (found.0, ap inr found.1)

-- ---- rules

weight_tree : (w : TWeight ⊎ Unit {0}) → IsClean (either_text weight_text semicolon_text w) → HasTree view_weight w
weight_tree (inl w) h =
    let found = accepted (Unsupported 15) name_classes signed_number_text w.value
    (clean_front (or_refused (Unsupported 15) name_classes signed_number_text w.value)
    (plain tok.Semicolon ∷ []) h.1) in
    let number = signed_number_tree found.0 in
    let is : inr (view_signed_number number.0) ≡ w.value = ap inr number.1 ∙ found.1 in
    (Some (record { at = w.at; value = number.0 }), λ i. inl (record w { value = is i }))
weight_tree (inr u) h = (None, refl)

rule_tree : (r : TRule) → IsClean (rule_text r) → HasTree view_rule r
rule_tree r h =
    let rest = conclusions_text r.conclusions ++ either_text weight_text semicolon_text r.weight in
    let then = plain (tok.Word r.then_at key.Then) ∷ rest in
    let content = h.1.1.1.1 in
    let behind_then = (clean_back (or_text r.condition 64) then content).1 in
    let weight = weight_tree r.weight
    (clean_back (conclusions_text r.conclusions) (either_text weight_text semicolon_text r.weight) behind_then) in (
      record {
        at = r.at;
        label = r.label;
        if_at = r.if_at;
        condition = r.condition;
        then_at = r.then_at;
        first = r.conclusions.0;
        more = r.conclusions.1;
        weight = weight.0;
      },
      λ i. record r { weight = weight.1 i },
    )

rule_item_tree : (r : TRuleItem) → IsClean (rule_item_text r) → HasTree view_rule_item r
rule_item_tree (inl x) h = absurd (no_annotation (Unsupported 7) h.0)
rule_item_tree (inr r) h = let found = rule_tree r h in (found.0, ap inr found.1)

rule_line_tree : (l : TRuleLine) → IsClean (rule_line_text l) → HasTree view_rule_line l
rule_line_tree (inl s) h = let found = setting_tree key.And word.Min and_classes 2 s h in
    (line.And found.0, ap inl found.1)
rule_line_tree (inr (inl s)) h = let found = setting_tree key.Or word.Max or_classes 3 s h in
    (line.Or found.0, λ i. inr (inl (found.1 i)))
rule_line_tree (inr (inr (inl a))) h = let found = act_tree a in (line.Act found.0, λ i. inr (inr (inl (found.1 i))))
rule_line_tree (inr (inr (inr s))) h = let found = setting_tree key.Accu word.Max accu_classes 4 s h in
    (line.Accu found.0, λ i. inr (inr (inr (found.1 i))))

rulebase_tree : (r : TRulebase) → IsClean (rulebase_text r) → HasTree view_rulebase r
rulebase_tree r h =
    let rest = each rule_item_text r.rules ++ key_text key.EndRuleblock r.end in
    let content = h.1.1 in
    let lines = each_tree view_rule_line rule_line_text rule_line_tree r.lines
    (clean_front (each rule_line_text r.lines) rest content) in
    let behind_lines = clean_back (each rule_line_text r.lines) rest content in
    let rules = each_tree view_rule_item rule_item_text rule_item_tree r.rules
    (clean_front (each rule_item_text r.rules) (key_text key.EndRuleblock r.end) behind_lines) in (
      record { at = r.at; name = r.name; lines = lines.0; rules = rules.0; end = r.end },
      λ i. record r { lines = lines.1 i; rules = rules.1 i },
    )

-- ---- blocks

end_tree : (e : TEnd) → IsClean (end_text e) → (at : ℕ) × (inr (inr at) ≡ e)
end_tree (inl x) h = absurd (no_annotation (Unsupported 7) h.0)
end_tree (inr (inl x)) h = absurd (no_annotation (Unsupported 8) h.0)
end_tree (inr (inr at)) h = (at, refl)

block_tree : (b : TBlock) → IsClean (block_text b) → HasTree view b
block_tree b h =
    let last = rulebase_text b.rules ++ end_text b.end in
    let rest = each part_text b.parts ++ last in
    let content = h.1.1 in
    let variables = each_tree view_section section_text section_tree b.variables
    (clean_front (each section_text b.variables) rest content) in
    let behind_variables = clean_back (each section_text b.variables) rest content in
    let parts = each_tree view_part part_text part_tree b.parts
    (clean_front (each part_text b.parts) last behind_variables) in
    let behind_parts = clean_back (each part_text b.parts) last behind_variables in
    let rules = rulebase_tree b.rules (clean_front (rulebase_text b.rules) (end_text b.end) behind_parts) in
    let end = end_tree b.end (clean_back (rulebase_text b.rules) (end_text b.end) behind_parts) in (
      record { at = b.at; name = b.name; variables = variables.0; parts = parts.0; rules = rules.0; end = end.0 },
      λ i. record b { variables = variables.1 i; parts = parts.1 i; rules = rules.1 i; end = end.1 i },
    )

-- ---- texts

pub each_text_is_read_lem : CutsAreTokens → EachTextIsRead
each_text_is_read_lem cuts text short = go (read_text text) refl
  where
    go : (r : Result TBlock SyntaxFault) → read_text text ≡ r
        → ((b : FunctionBlock) × SpellsTree text (view b)) ⊎ ((e : SyntaxFault) × IsFirstFault text e)
    go (Ok t) is =
        let spells = read_spells cuts text t is in
        let found = block_tree t spells.spells.clean in
        inl (found.0, subst (SpellsTree text) (sym found.1) spells)
    go (Err e) is = inr (e, read_faults cuts text e is)
