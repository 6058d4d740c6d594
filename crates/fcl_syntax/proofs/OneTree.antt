-- Trees of the program with one view are one: each is what its view gives back.
use Rattle.std.proofs.Common.{◌≡◌, ℕ, false, ◌⊎◌, inl, inr, List, [], ◌∷◌, map, Option, Some, None, refl, sym, ap, ◌∙◌}
use Rattle.fcl_tokens.specs.declared.token.Amount.TheVariants as amount
use Rattle.fcl_syntax.specs.declared.tree.ActWord.{ActWord}
use Rattle.fcl_syntax.specs.declared.tree.ActWord.TheVariants as act
use Rattle.fcl_syntax.specs.declared.tree.DefuzzyLine.{DefuzzyLine}
use Rattle.fcl_syntax.specs.declared.tree.DefuzzyLine.TheVariants as defuzzy
use Rattle.fcl_syntax.specs.declared.tree.Degree.{Degree}
use Rattle.fcl_syntax.specs.declared.tree.Degree.TheVariants as degree
use Rattle.fcl_syntax.specs.declared.tree.FallbackValue.{FallbackValue}
use Rattle.fcl_syntax.specs.declared.tree.FallbackValue.TheVariants as fallback
use Rattle.fcl_syntax.specs.declared.{tree.FunctionBlock.FunctionBlock, tree.FuzzyLine.FuzzyLine}
use Rattle.fcl_syntax.specs.declared.tree.FuzzyLine.TheVariants as fuzzy
use Rattle.fcl_syntax.specs.declared.{tree.Number.Number, tree.Part.Part}
use Rattle.fcl_syntax.specs.declared.tree.Part.TheVariants as part
use Rattle.fcl_syntax.specs.declared.tree.RuleLine.{RuleLine}
use Rattle.fcl_syntax.specs.declared.tree.RuleLine.TheVariants as line
use Rattle.fcl_syntax.specs.declared.tree.SignedNumber.{SignedNumber}
use Rattle.fcl_syntax.specs.declared.tree.SignedNumber.TheVariants as signed
use Rattle.fcl_syntax.specs.{declared.tree.Setting.Setting, declared.tree.UnitNumber.UnitNumber}
use Rattle.fcl_syntax.specs.{declared.tree.Weight.Weight, declared.tree.ZeroNumber.ZeroNumber, TokenClasses.Among}
use Rattle.fcl_syntax.specs.Grammar.{TSigned, plus, minus, bare, TSignedNumber, TUnit, TZero, TPoint, TTerm, TRange}
use Rattle.fcl_syntax.specs.Grammar.{TFuzzify, TSetting, TDefuzzyLine, TDefuzzify, TWeight, TRuleLine, TBlock}
use Rattle.fcl_syntax.specs.Grammar.{option_classes, var_classes}
use Rattle.fcl_syntax.specs.View.{view_declaration, view_variables, view_section, view_signed_number, view_coordinate}
use Rattle.fcl_syntax.specs.View.{view_degree, view_point, view_term, view_range, view_fuzzy_line, view_fuzzify}
use Rattle.fcl_syntax.specs.View.{view_singleton, view_value, view_defuzzy_line, view_defuzzify, view_part}
use Rattle.fcl_syntax.specs.View.{view_weight, view_rule, view_act_word, view_rule_line, view_rulebase, view}

-- what undoes a view
record IsUndone {A T : Type 0} (view : A → T) : Type 0 where
  back : T → A
  is : (a : A) → back (view a) ≡ a

-- the tree that is not refused; in what a view gives there is one
abbrev right_or : {A B : Type 0} → B → A ⊎ B → B
right_or d (inl x) = d
right_or d (inr b) = b

abbrev rights : {A B : Type 0} → List (A ⊎ B) → List B
rights [] = []
rights (inl x ∷ items) = rights items
rights (inr b ∷ items) = b ∷ rights items

abbrev kept : {R A T : Type 0} → (A → T) → A → R ⊎ T
kept view a = inr (view a)

module _ {A T : Type 0} {view : A → T} (undone : IsUndone view) where
  each_back : (items : List A) → map undone.back (map view items) ≡ items
  each_back [] = refl
  each_back (a ∷ items) = λ i. undone.is a i ∷ each_back items i

  each_undone : IsUndone (map view)
  each_undone = record { back = map undone.back; is = each_back }

  kept_back : (R : Type 0) (items : List A) → map undone.back (rights (map (kept {R = R} view) items)) ≡ items
  kept_back R [] = refl
  kept_back R (a ∷ items) = λ i. undone.is a i ∷ kept_back R items i

  kept_undone : (R : Type 0) → IsUndone (map (kept {R = R} view))
  kept_undone R = record { back = λ ts. map undone.back (rights ts); is = kept_back R }

-- ---- numbers

abbrev number : Number
number = record { at = 0; amount = amount.Zero; whole = false }

abbrev signed_back : {A : Type 0} → (A → Number) → TSigned A A → SignedNumber
signed_back f (plus a) = signed.Plus (f a)
signed_back f (minus a) = signed.Minus (f a)
signed_back f (bare a) = signed.Bare (f a)

signed_is : (x : SignedNumber) → signed_back (λ n. n) (view_signed_number x) ≡ x
signed_is (signed.Plus n) = refl
signed_is _ = refl

signed_undone : IsUndone view_signed_number
signed_undone = record { back = signed_back (λ n. n); is = signed_is }

coordinate_is : (x : SignedNumber) → signed_back (right_or number) (view_coordinate x) ≡ x
coordinate_is (signed.Plus n) = refl
coordinate_is _ = refl

abbrev unit : TUnit → UnitNumber
unit u =
    let none : UnitNumber = record { at = 0; is_one = false; whole = false } in
    right_or none (right_or (inr none) u)

abbrev zero : TZero → ZeroNumber
zero z = let none : ZeroNumber = record { at = 0; whole = false } in right_or none (right_or (inr none) z)

abbrev degree_back : TSigned TUnit TZero → Degree
degree_back (plus u) = degree.Plus (unit u)
degree_back (minus z) = degree.Minus (zero z)
degree_back (bare u) = degree.Bare (unit u)

degree_is : (d : Degree) → degree_back (view_degree d) ≡ d
degree_is (degree.Plus n) = refl
degree_is _ = refl

-- ---- variables, terms and ranges

variables_undone : IsUndone view_variables
variables_undone =
    let each = each_undone {view = view_declaration} (record {
      back = λ d. record { first = d.names.0; more = d.names.1; real = right_or 0 d.type };
      is = λ d. refl;
    }) in
    record {
      back = λ v. record { at = v.at; direction = v.direction; declarations = each.back v.declarations; end = v.end };
      is = λ v i. record v { declarations = each.is v.declarations i };
    }

point_undone : IsUndone view_point
point_undone = record {
  back = λ p. record {
    open_at = p.open_at;
    x = signed_back (right_or number) p.x;
    degree = degree_back p.degree;
  };
  is = λ p i. record p { x = coordinate_is p.x i; degree = degree_is p.degree i };
}

term_undone : IsUndone view_term
term_undone =
    let each = each_undone point_undone in
    let none : TPoint = record {
      open_at = 0;
      x = bare (inr number);
      degree = minus (inr (inr (record { at = 0; whole = false })));
    } in
    record {
      back = λ t. let points = right_or (none, []) t.points in
          record { at = t.at; name = t.name; first = point_undone.back points.0; more = each.back points.1 };
      is = λ t i. record t { first = point_undone.is t.first i; more = each.is t.more i };
    }

range_undone : IsUndone view_range
range_undone = record {
  back = λ r. record {
    at = r.at;
    assigned = r.assigned;
    open_at = r.open_at;
    low = signed_undone.back r.low;
    high = signed_undone.back r.high;
  };
  is = λ r i. record r { low = signed_undone.is r.low i; high = signed_undone.is r.high i };
}

abbrev fuzzy_line_back : TTerm ⊎ TRange → FuzzyLine
fuzzy_line_back (inl t) = fuzzy.Term (term_undone.back t)
fuzzy_line_back (inr r) = fuzzy.Range (range_undone.back r)

fuzzy_line_is : (l : FuzzyLine) → fuzzy_line_back (view_fuzzy_line l) ≡ l
fuzzy_line_is (fuzzy.Term t) = ap fuzzy.Term (term_undone.is t)
fuzzy_line_is (fuzzy.Range r) = ap fuzzy.Range (range_undone.is r)

fuzzify_undone : IsUndone view_fuzzify
fuzzify_undone =
    let each = each_undone (record { back = fuzzy_line_back; is = fuzzy_line_is }) in
    record {
      back = λ f. record { at = f.at; name = f.name; lines = each.back f.lines; end = f.end };
      is = λ f i. record f { lines = each.is f.lines i };
    }

-- ---- outputs

abbrev setting_back : {classes : List ℕ} → TSetting classes → Setting
setting_back s = record { at = s.at; word = right_or 0 s.word }

singleton_undone : IsUndone view_singleton
singleton_undone = record {
  back = λ s. record { at = s.at; name = s.name; value = signed_undone.back (right_or (bare number) s.value) };
  is = λ s i. record s { value = signed_undone.is s.value i };
}

abbrev value_back : TSignedNumber ⊎ ℕ → FallbackValue
value_back (inl n) = fallback.Number (signed_undone.back n)
value_back (inr at) = fallback.Nc at

value_is : (v : FallbackValue) → value_back (view_value v) ≡ v
value_is (fallback.Number n) = ap fallback.Number (signed_undone.is n)
value_is (fallback.Nc at) = refl

abbrev defuzzy_line_back : TDefuzzyLine → DefuzzyLine
defuzzy_line_back (inl s) = defuzzy.Singleton (singleton_undone.back s)
defuzzy_line_back (inr (inl s)) = defuzzy.Accu (setting_back s)
defuzzy_line_back (inr (inr (inl s))) = defuzzy.Method (setting_back s)
defuzzy_line_back (inr (inr (inr (inl d)))) = defuzzy.Default (record { at = d.at; value = value_back d.value })
defuzzy_line_back (inr (inr (inr (inr r)))) = defuzzy.Range (range_undone.back r)

defuzzy_line_is : (l : DefuzzyLine) → defuzzy_line_back (view_defuzzy_line l) ≡ l
defuzzy_line_is (defuzzy.Singleton s) = ap defuzzy.Singleton (singleton_undone.is s)
defuzzy_line_is (defuzzy.Accu s) = refl
defuzzy_line_is (defuzzy.Method s) = refl
defuzzy_line_is (defuzzy.Default d) = λ i. defuzzy.Default (record d { value = value_is d.value i })
defuzzy_line_is (defuzzy.Range r) = ap defuzzy.Range (range_undone.is r)

defuzzify_undone : IsUndone view_defuzzify
defuzzify_undone =
    let each = each_undone (record { back = defuzzy_line_back; is = defuzzy_line_is }) in
    record {
      back = λ d. record { at = d.at; name = d.name; lines = each.back d.lines; end = d.end };
      is = λ d i. record d { lines = each.is d.lines i };
    }

-- ---- rules

abbrev weight_back : TWeight ⊎ Unit {0} → Option Weight
weight_back (inl w) = Some (record { at = w.at; value = signed_undone.back (right_or (bare number) w.value) })
weight_back (inr u) = None

weight_is : (w : Option Weight) → weight_back (view_weight w) ≡ w
weight_is None = refl
weight_is (Some w) = λ i. Some (record w { value = signed_undone.is w.value i })

rule_undone : IsUndone view_rule
rule_undone = record {
  back = λ r. record {
    at = r.at;
    label = r.label;
    if_at = r.if_at;
    condition = r.condition;
    then_at = r.then_at;
    first = r.conclusions.0;
    more = r.conclusions.1;
    weight = weight_back r.weight;
  };
  is = λ r i. record r { weight = weight_is r.weight i };
}

abbrev act_word_back : ℕ ⊎ ℕ → ActWord
act_word_back (inl at) = act.Min at
act_word_back (inr at) = act.Prod at

act_word_is : (w : ActWord) → act_word_back (view_act_word w) ≡ w
act_word_is (act.Min at) = refl
act_word_is (act.Prod at) = refl

abbrev rule_line_back : TRuleLine → RuleLine
rule_line_back (inl s) = line.And (setting_back s)
rule_line_back (inr (inl s)) = line.Or (setting_back s)
rule_line_back (inr (inr (inl a))) = line.Act (record { at = a.at; word = act_word_back a.word })
rule_line_back (inr (inr (inr s))) = line.Accu (setting_back s)

rule_line_is : (l : RuleLine) → rule_line_back (view_rule_line l) ≡ l
rule_line_is (line.And s) = refl
rule_line_is (line.Or s) = refl
rule_line_is (line.Act a) = λ i. line.Act (record a { word = act_word_is a.word i })
rule_line_is (line.Accu s) = refl

rulebase_undone : IsUndone view_rulebase
rulebase_undone =
    let lines = each_undone (record { back = rule_line_back; is = rule_line_is }) in
    let rules = kept_undone rule_undone (Among option_classes) in
    record {
      back = λ r. record {
        at = r.at;
        name = r.name;
        lines = lines.back r.lines;
        rules = rules.back r.rules;
        end = r.end;
      };
      is = λ r i. record r { lines = lines.is r.lines i; rules = rules.is r.rules i };
    }

-- ---- blocks

abbrev section_back : TFuzzify ⊎ TDefuzzify → Part
section_back (inl f) = part.Fuzzify (fuzzify_undone.back f)
section_back (inr d) = part.Defuzzify (defuzzify_undone.back d)

parts_is : (ps : List Part) → map section_back (rights (map view_part ps)) ≡ ps
parts_is [] = refl
parts_is (part.Fuzzify f ∷ ps) = λ i. part.Fuzzify (fuzzify_undone.is f i) ∷ parts_is ps i
parts_is (part.Defuzzify d ∷ ps) = λ i. part.Defuzzify (defuzzify_undone.is d i) ∷ parts_is ps i

abbrev variables_kept : IsUndone (map view_section)
variables_kept = kept_undone variables_undone (Among var_classes)

abbrev back : TBlock → FunctionBlock
back b = record {
  at = b.at;
  name = b.name;
  variables = variables_kept.back b.variables;
  parts = map section_back (rights b.parts);
  rules = rulebase_undone.back b.rules;
  end = right_or 0 (right_or (inr 0) b.end);
}

back-view : (b : FunctionBlock) → back (view b) ≡ b
back-view b = λ i. record b {
  variables = variables_kept.is b.variables i;
  parts = parts_is b.parts i;
  rules = rulebase_undone.is b.rules i;
}

pub one_tree : (p q : FunctionBlock) → view p ≡ view q → p ≡ q
one_tree p q e = sym (back-view p) ∙ ap back e ∙ back-view q
