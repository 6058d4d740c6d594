-- Reading from left to right, one function for each function of the parser. The contracts of these alone cite it, and
-- no public clause.
-- Beside the promise.
use Rattle.std.specs.Prelude.{◌≡◌, ℕ, zero, suc, Bool, true, false, List, [], ◌∷◌, length, Option, Some, None, Result}
use Rattle.std.specs.Prelude.{Ok, Err, ◌==◌, if◌then◌else◌, ◌⊎◌}
use Rattle.std.proofs.Common.{inl, inr}
use Rattle.fcl_tokens.specs.declared.token.Amount.TheVariants as amount
use Rattle.fcl_tokens.specs.declared.token.Keyword.{Keyword}
use Rattle.fcl_tokens.specs.declared.token.Keyword.TheVariants as key
use Rattle.fcl_tokens.specs.declared.token.Token.{Token}
use Rattle.fcl_tokens.specs.declared.token.Token.TheVariants as tok
use Rattle.fcl_tokens.specs.declared.token.Word.{Word}
use Rattle.fcl_tokens.specs.declared.token.Word.TheVariants as word
use Rattle.fcl_syntax.specs.declared.{fault.Fault.Fault, terms.Sign.Sign}
use Rattle.fcl_syntax.specs.declared.fault.Kind.TheVariants.{Deep, Unsupported}
use Rattle.fcl_syntax.specs.declared.terms.Sign.TheVariants as sign
use Rattle.fcl_syntax.specs.declared.{tree.Conclusion.Conclusion, tree.Direction.Direction, tree.Label.Label}
use Rattle.fcl_syntax.specs.declared.tree.Direction.TheVariants.{Input, Output}
use Rattle.fcl_syntax.specs.declared.{tree.Name.Name, tree.Number.Number, tree.UnitNumber.UnitNumber}
use Rattle.fcl_syntax.specs.declared.tree.ZeroNumber.{ZeroNumber}
use Rattle.fcl_syntax.specs.TokenClasses.{class_of, keyword_class, word_class, name_classes, other_type_classes}
use Rattle.fcl_syntax.specs.TokenClasses.{signed_classes, beyond_unit_classes, beyond_zero_classes, follow_classes}
use Rattle.fcl_syntax.specs.TokenClasses.{Among, comma_classes, defuzzy_line_classes, fuzzy_line_classes}
use Rattle.fcl_syntax.specs.TokenClasses.{open_classes, opener_classes, part_classes, rule_item_classes}
use Rattle.fcl_syntax.specs.TokenClasses.{rule_line_classes, section_classes}
use Rattle.fcl_syntax.specs.Readers.{◌>>=◌, Read, cond_read, fault_at, starts, one_at, many_at, ended}
use Rattle.fcl_syntax.specs.Grammar.{TSigned, plus, minus, bare, TSignedNumber, TType, TDeclaration, TVariables}
use Rattle.fcl_syntax.specs.Grammar.{var_classes, TSection, TCoordinate, TUnit, TZero, TPoint, TPoints, TTerm, TRange}
use Rattle.fcl_syntax.specs.Grammar.{TFuzzify, TSetting, accu_classes, TAccu, method_classes, TSingleton, TFallback}
use Rattle.fcl_syntax.specs.Grammar.{TDefuzzyLine, TDefuzzify, option_classes, TPart, TNot, neg, group, is, TAnd}
use Rattle.fcl_syntax.specs.Grammar.{and_of, TOr, or_of, TWeight, TRule, TRuleItem, and_classes, or_classes, TAct}
use Rattle.fcl_syntax.specs.Grammar.{TRuleLine, TRulebase, ruleblock_classes, TEnd, TBlock}
use Rattle.fcl_syntax.specs.Conditions.{nots_of, ands_of}

abbrev pub unit : Unit {0}
unit = tt

abbrev pub refuse_at : {A : Type 0} → ℕ → List Token → Read A
refuse_at code ts = Err (fault_at (Unsupported code) (length ts))

-- what is read, where one of the classes is refused
unfoldable pub refusing : {A : Type 0} → (classes : List ℕ) → ℕ → (List Token → Read A) → List Token
    → Read (Among classes ⊎ A)
refusing classes code read ts = cond_read (starts classes ts) (refuse_at code ts) (do
  x ← read ts
  Ok (inr x.0, x.1))

-- one where the classes are next, and else the other
unfoldable pub either_at : {A B : Type 0} → List ℕ → (List Token → Read A) → (List Token → Read B) → List Token
    → Read (A ⊎ B)
either_at classes one other ts = cond_read (starts classes ts) (do
  x ← one ts
  Ok (inl x.0, x.1)) (do
    x ← other ts
    Ok (inr x.0, x.1))

-- ---- single tokens

-- the next token, where it is one that is wanted
unfoldable pub token_at : {A : Type 0} → (Token → Option A) → List Token → Read A
token_at want ts = one_at want ts

abbrev pub some_unit : Bool → Option (Unit {0})
some_unit true = Some tt
some_unit false = None

abbrev pub at_if : Bool → ℕ → Option ℕ
at_if true at = Some at
at_if false at = None

-- the token of a class, where its class is all that it says
abbrev pub bare_of : ℕ → Option Token
bare_of n =
    if n == class_of tok.Close then Some tok.Close else
    if n == class_of tok.Assign then Some tok.Assign else
    if n == class_of tok.To then Some tok.To else
    if n == class_of tok.Colon then Some tok.Colon else
    if n == class_of tok.Semicolon then Some tok.Semicolon else
    if n == class_of tok.Comma then Some tok.Comma else
    if n == class_of tok.Plus then Some tok.Plus else
    if n == class_of tok.Minus then Some tok.Minus else None

-- a token that says nothing beside its class
abbrev pub IsBare : Token → Type 0
IsBare x = bare_of (class_of x) ≡ Some x

abbrev pub bare_want : Token → Token → Option (Unit {0})
bare_want x y = some_unit (class_of y == class_of x)

abbrev pub expect_at : Token → List Token → Read (Unit {0})
expect_at x = token_at (bare_want x)

abbrev pub key_want : Keyword → Token → Option ℕ
key_want k (tok.Word at j) = at_if (keyword_class j == keyword_class k) at
key_want k _ = None

abbrev pub key_at : Keyword → List Token → Read ℕ
key_at k = token_at (key_want k)

abbrev pub word_want : Word → Token → Option ℕ
word_want w (tok.Name at v) = at_if (word_class v == word_class w) at
word_want w _ = None

abbrev pub word_at : Word → List Token → Read ℕ
word_at w = token_at (word_want w)

abbrev pub open_want : Token → Option ℕ
open_want (tok.Open at) = Some at
open_want _ = None

abbrev pub open_at : List Token → Read ℕ
open_at = token_at open_want

abbrev pub name_want : Token → Option Name
name_want (tok.Name at w) = Some (record { at = at; word = w })
name_want _ = None

abbrev pub name_at : List Token → Read Name
name_at = token_at name_want

abbrev pub number_want : Token → Option Number
number_want (tok.Number at n w) = Some (record { at = at; amount = n; whole = w })
number_want _ = None

abbrev pub number_at : List Token → Read Number
number_at = token_at number_want

abbrev pub unit_want : Token → Option UnitNumber
unit_want (tok.Number at amount.Zero w) = Some (record { at = at; is_one = false; whole = w })
unit_want (tok.Number at amount.One w) = Some (record { at = at; is_one = true; whole = w })
unit_want _ = None

abbrev pub zero_want : Token → Option ZeroNumber
zero_want (tok.Number at amount.Zero w) = Some (record { at = at; whole = w })
zero_want _ = None

abbrev pub label_want : Token → Option Label
label_want (tok.Number at n true) = Some (record { at = at; amount = n })
label_want _ = None

abbrev pub label_at : List Token → Read Label
label_at = token_at label_want

abbrev pub direction_want : Token → Option (ℕ × Direction)
direction_want (tok.Word at key.VarInput) = Some (at, Input)
direction_want (tok.Word at key.VarOutput) = Some (at, Output)
direction_want _ = None

-- one, and by what it is what is behind it
unfoldable pub headed_at : {A B : Type 0} → (List Token → Read A) → (A → List Token → Read B) → List Token → Read B
headed_at first inner ts = do
  x ← first ts
  inner x.0 x.1

-- ---- numbers

unfoldable pub sign_at : List Token → Read Sign
sign_at ts = cond_read (starts (class_of tok.Plus ∷ []) ts) (do
  x ← expect_at tok.Plus ts
  Ok (sign.Plus, x.1)) (cond_read (starts (class_of tok.Minus ∷ []) ts) (do
    x ← expect_at tok.Minus ts
    Ok (sign.Minus, x.1)) (Ok (sign.Bare, ts)))

abbrev pub signed : {A : Type 0} → Sign → A → TSigned A A
signed sign.Plus n = plus n
signed sign.Minus n = minus n
signed sign.Bare n = bare n

abbrev pub behind_sign : {A B : Type 0} → (List Token → Read A) → (List Token → Read B) → Sign → List Token
    → Read (TSigned A B)
behind_sign f g sign.Plus ts = f ts >>= λ n. Ok (plus n.0, n.1)
behind_sign f g sign.Minus ts = g ts >>= λ n. Ok (minus n.0, n.1)
behind_sign f g sign.Bare ts = f ts >>= λ n. Ok (bare n.0, n.1)

unfoldable pub signed_at : {A B : Type 0} → (List Token → Read A) → (List Token → Read B) → List Token
    → Read (TSigned A B)
signed_at f g ts = do
  s ← sign_at ts
  behind_sign f g s.0 s.1

abbrev pub signed_number_at : List Token → Read TSignedNumber
signed_number_at = signed_at number_at number_at

abbrev pub coordinate_at : List Token → Read (TSigned TCoordinate TCoordinate)
coordinate_at = signed_at (refusing name_classes 10 number_at) (refusing name_classes 10 number_at)

abbrev pub unit_at : List Token → Read TUnit
unit_at = refusing name_classes 10 (refusing beyond_unit_classes 11 (token_at unit_want))

abbrev pub zero_at : List Token → Read TZero
zero_at = refusing name_classes 10 (refusing beyond_zero_classes 11 (token_at zero_want))

abbrev pub degree_at : List Token → Read (TSigned TUnit TZero)
degree_at = signed_at unit_at zero_at

-- ---- variables

-- what is behind a comma
unfoldable pub comma_at : {A : Type 0} → (List Token → Read A) → List Token → Read A
comma_at item ts = do
  c ← expect_at tok.Comma ts
  item c.1

-- one and more, with commas between them
unfoldable pub listed_at : {A : Type 0} → (List Token → Read A) → List Token → Read (A × List A)
listed_at item ts = do
  a ← item ts
  more ← many_at comma_classes (comma_at item) a.1
  Ok ((a.0, more.0), more.1)

-- REAL, by its offset
abbrev pub type_at : List Token → Read TType
type_at = refusing other_type_classes 5 (word_at word.Real)

unfoldable pub declaration_from : Name → List Token → Read TDeclaration
declaration_from first ts = do
  more ← many_at comma_classes (comma_at name_at) ts
  c ← expect_at tok.Colon more.1
  t ← type_at c.1
  s ← expect_at tok.Semicolon t.1
  Ok (record { names = (first, more.0); type = t.0 }, s.1)

abbrev pub declaration_at : List Token → Read TDeclaration
declaration_at = headed_at name_at declaration_from

unfoldable pub variables_from : ℕ → Direction → List Token → Read TVariables
variables_from at direction ts = do
  ds ← many_at name_classes declaration_at ts
  e ← key_at key.EndVar ds.1
  Ok (record { at = at; direction = direction; declarations = ds.0; end = e.0 }, e.1)

abbrev pub variables_at : List Token → Read TVariables
variables_at = headed_at (token_at direction_want) (λ v. variables_from v.0 v.1)

abbrev pub section_at : List Token → Read TSection
section_at = refusing var_classes 6 variables_at

-- ---- terms of an input, and ranges

unfoldable pub point_from : ℕ → List Token → Read TPoint
point_from at ts = do
  x ← coordinate_at ts
  c ← expect_at tok.Comma x.1
  d ← degree_at c.1
  e ← expect_at tok.Close d.1
  Ok (record { open_at = at; x = x.0; degree = d.0 }, e.1)

abbrev pub point_at : List Token → Read TPoint
point_at = headed_at open_at point_from

unfoldable pub some_points_at : List Token → Read (TPoint × List TPoint)
some_points_at ts = do
  p ← point_at ts
  more ← many_at open_classes point_at p.1
  Ok ((p.0, more.0), more.1)

abbrev pub points_at : List Token → Read TPoints
points_at = refusing signed_classes 14 some_points_at

unfoldable pub term_at : List Token → Read TTerm
term_at ts = do
  t ← key_at key.Term ts
  n ← name_at t.1
  a ← expect_at tok.Assign n.1
  p ← points_at a.1
  s ← expect_at tok.Semicolon p.1
  Ok (record { at = t.0; name = n.0; points = p.0 }, s.1)

unfoldable pub opening_at : List Token → Read (Bool × ℕ)
opening_at ts = cond_read (starts (class_of tok.Assign ∷ []) ts) (do
  a ← expect_at tok.Assign ts
  o ← open_at a.1
  Ok ((true, o.0), o.1)) (do
    o ← open_at ts
    Ok ((false, o.0), o.1))

unfoldable pub range_at : List Token → Read TRange
range_at ts = do
  r ← key_at key.Range ts
  o ← opening_at r.1
  l ← signed_number_at o.1
  t ← expect_at tok.To l.1
  h ← signed_number_at t.1
  c ← expect_at tok.Close h.1
  s ← expect_at tok.Semicolon c.1
  Ok (record { at = r.0; assigned = o.0.0; open_at = o.0.1; low = l.0; high = h.0 }, s.1)

abbrev pub fuzzy_line_at : List Token → Read (TTerm ⊎ TRange)
fuzzy_line_at = either_at (keyword_class key.Term ∷ []) term_at range_at

unfoldable pub fuzzify_at : List Token → Read TFuzzify
fuzzify_at ts = do
  f ← key_at key.Fuzzify ts
  n ← name_at f.1
  ls ← many_at fuzzy_line_classes fuzzy_line_at n.1
  e ← key_at key.EndFuzzify ls.1
  Ok (record { at = f.0; name = n.0; lines = ls.0; end = e.0 }, e.1)

-- ---- terms of an output

unfoldable pub setting_at : Keyword → Word → (classes : List ℕ) → ℕ → List Token → Read (TSetting classes)
setting_at k w classes code ts = do
  x ← key_at k ts
  c ← expect_at tok.Colon x.1
  y ← refusing classes code (word_at w) c.1
  s ← expect_at tok.Semicolon y.1
  Ok (record { at = x.0; word = y.0 }, s.1)

abbrev pub accu_at : List Token → Read TAccu
accu_at = setting_at key.Accu word.Max accu_classes 4

unfoldable pub singleton_at : List Token → Read TSingleton
singleton_at ts = do
  t ← key_at key.Term ts
  n ← name_at t.1
  a ← expect_at tok.Assign n.1
  v ← refusing open_classes 13 signed_number_at a.1
  s ← expect_at tok.Semicolon v.1
  Ok (record { at = t.0; name = n.0; value = v.0 }, s.1)

abbrev pub fallback_value_at : List Token → Read (TSignedNumber ⊎ ℕ)
fallback_value_at = either_at signed_classes signed_number_at (word_at word.Nc)

unfoldable pub fallback_at : List Token → Read TFallback
fallback_at ts = do
  d ← key_at key.Default ts
  a ← expect_at tok.Assign d.1
  v ← fallback_value_at a.1
  s ← expect_at tok.Semicolon v.1
  Ok (record { at = d.0; value = v.0 }, s.1)

abbrev pub defuzzy_line_at : List Token → Read TDefuzzyLine
defuzzy_line_at = either_at (keyword_class key.Term ∷ []) singleton_at (either_at (keyword_class key.Accu ∷ []) accu_at
    (either_at (keyword_class key.Method ∷ []) (setting_at key.Method word.Cogs method_classes 1)
    (either_at (keyword_class key.Default ∷ []) fallback_at range_at)))

unfoldable pub defuzzify_at : List Token → Read TDefuzzify
defuzzify_at ts = do
  d ← key_at key.Defuzzify ts
  n ← name_at d.1
  ls ← many_at defuzzy_line_classes defuzzy_line_at n.1
  e ← key_at key.EndDefuzzify ls.1
  Ok (record { at = d.0; name = n.0; lines = ls.0; end = e.0 }, e.1)

abbrev pub part_at : List Token → Read TPart
part_at = refusing option_classes 7 (either_at (keyword_class key.Fuzzify ∷ []) fuzzify_at defuzzify_at)

-- ---- conditions

unfoldable pub not_word_at : List Token → Read (Option ℕ)
not_word_at ts = cond_read (starts (keyword_class key.Not ∷ []) ts) (do
  x ← key_at key.Not ts
  Ok (Some x.0, x.1)) (Ok (None, ts))

-- name IS [NOT] name, unless AND, OR, THEN or ")" is behind the first name
unfoldable pub operand_at : List Token → Read TNot
operand_at ts = do
  v ← name_at ts
  cond_read (starts follow_classes v.1) (Err (fault_at (Unsupported 12) (suc (length v.1)))) (do
    i ← key_at key.Is v.1
    n ← not_word_at i.1
    t ← name_at n.1
    Ok (is v.0 i.0 n.0 t.0, t.1))

-- a keyword, and what is behind it
unfoldable pub behind_key_in : {A : Type 0} → Keyword → (List Token → Read A) → List Token → Read (ℕ × A)
behind_key_in k inner ts = do
  x ← key_at k ts
  t ← inner x.1
  Ok ((x.0, t.0), t.1)

abbrev pub behind_keys_in : {A : Type 0} → Keyword → (List Token → Read A) → List Token → Read (List (ℕ × A))
behind_keys_in k inner = many_at (keyword_class k ∷ []) (behind_key_in k inner)

-- one, and more of them, each behind the keyword
unfoldable pub joined_in : {A W : Type 0} → Keyword → (List Token → Read A) → (A → List (ℕ × A) → W) → List Token
    → Read W
joined_in k inner whole ts = do
  t ← inner ts
  more ← behind_keys_in k inner t.1
  Ok (whole t.0 more.0, more.1)

abbrev pub and_in : (List Token → Read TNot) → List Token → Read TAnd
and_in inner = joined_in key.And inner (λ t ts. and_of t (nots_of ts))

abbrev pub or_in : (List Token → Read TNot) → List Token → Read TOr
or_in inner = joined_in key.Or (and_in inner) (λ a items. or_of a (ands_of items))

unfoldable pub neg_in : (List Token → Read TNot) → List Token → Read TNot
neg_in inner ts = do
  x ← key_at key.Not ts
  t ← inner x.1
  Ok (neg x.0 t.0, t.1)

unfoldable pub group_in : (List Token → Read TNot) → List Token → Read TNot
group_in inner ts = do
  x ← open_at ts
  o ← or_in inner x.1
  y ← expect_at tok.Close o.1
  Ok (group x.0 o.0, y.1)

unfoldable pub opened_in : (List Token → Read TNot) → List Token → Read TNot
opened_in inner ts = cond_read (starts (keyword_class key.Not ∷ []) ts) (neg_in inner ts) (group_in inner ts)

-- a condition's part, where n more "(" and NOT may be open
unfoldable pub not_at : ℕ → List Token → Read TNot
not_at zero ts = cond_read (starts opener_classes ts) (Err (fault_at Deep (length ts))) (operand_at ts)
not_at (suc n) ts = cond_read (starts opener_classes ts) (opened_in (not_at n) ts) (operand_at ts)

-- ---- rules

unfoldable pub conclusion_at : List Token → Read Conclusion
conclusion_at ts = do
  v ← name_at ts
  i ← key_at key.Is v.1
  t ← name_at i.1
  Ok (record { variable = v.0; is_at = i.0; term = t.0 }, t.1)

abbrev pub conclusions_at : List Token → Read (Conclusion × List Conclusion)
conclusions_at = listed_at conclusion_at

unfoldable pub with_from : ℕ → List Token → Read TWeight
with_from at ts = do
  v ← refusing name_classes 15 signed_number_at ts
  s ← expect_at tok.Semicolon v.1
  Ok (record { at = at; value = v.0 }, s.1)

abbrev pub with_at : List Token → Read TWeight
with_at = headed_at (key_at key.With) with_from

abbrev pub weight_at : List Token → Read (TWeight ⊎ Unit {0})
weight_at = either_at (keyword_class key.With ∷ []) with_at (expect_at tok.Semicolon)

unfoldable pub rule_from : ℕ → List Token → Read TRule
rule_from at ts = do
  n ← label_at ts
  c ← expect_at tok.Colon n.1
  i ← key_at key.If c.1
  o ← or_in (not_at 64) i.1
  t ← key_at key.Then o.1
  cs ← conclusions_at t.1
  w ← weight_at cs.1
  Ok (
    record { at = at; label = n.0; if_at = i.0; condition = o.0; then_at = t.0; conclusions = cs.0; weight = w.0 },
    w.1,
  )

abbrev pub rule_at : List Token → Read TRule
rule_at = headed_at (key_at key.Rule) rule_from

abbrev pub rule_item_at : List Token → Read TRuleItem
rule_item_at = refusing option_classes 7 rule_at

abbrev pub act_word_at : List Token → Read (ℕ ⊎ ℕ)
act_word_at = either_at (word_class word.Min ∷ []) (word_at word.Min) (word_at word.Prod)

unfoldable pub act_at : List Token → Read TAct
act_at ts = do
  a ← key_at key.Act ts
  c ← expect_at tok.Colon a.1
  w ← act_word_at c.1
  s ← expect_at tok.Semicolon w.1
  Ok (record { at = a.0; word = w.0 }, s.1)

abbrev pub rule_line_at : List Token → Read TRuleLine
rule_line_at = either_at (keyword_class key.And ∷ []) (setting_at key.And word.Min and_classes 2)
    (either_at (keyword_class key.Or ∷ []) (setting_at key.Or word.Max or_classes 3)
    (either_at (keyword_class key.Act ∷ []) act_at accu_at))

unfoldable pub rulebase_at : List Token → Read TRulebase
rulebase_at ts = do
  b ← key_at key.Ruleblock ts
  n ← name_at b.1
  ls ← many_at rule_line_classes rule_line_at n.1
  rs ← many_at rule_item_classes rule_item_at ls.1
  e ← key_at key.EndRuleblock rs.1
  Ok (record { at = b.0; name = n.0; lines = ls.0; rules = rs.0; end = e.0 }, e.1)

abbrev pub end_at : List Token → Read TEnd
end_at = refusing option_classes 7 (refusing ruleblock_classes 8 (key_at key.EndFunctionBlock))

unfoldable pub block_at : List Token → Read TBlock
block_at ts = do
  b ← key_at key.FunctionBlock ts
  n ← name_at b.1
  vs ← many_at section_classes section_at n.1
  ps ← many_at part_classes part_at vs.1
  rs ← rulebase_at ps.1
  e ← end_at rs.1
  Ok (record { at = b.0; name = n.0; variables = vs.0; parts = ps.0; rules = rs.0; end = e.0 }, e.1)

-- all of the tokens
unfoldable pub all_of : List Token → Result TBlock Fault
all_of ts = block_at ts >>= ended
