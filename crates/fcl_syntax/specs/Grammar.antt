-- The grammar: its trees, and the text of each. Where something is refused, a tree has the token
-- that is refused in its place, and the text has an annotation there; what follows an annotation is free.
-- Reached by the promise.
use Rattle.std.specs.Prelude.{ℕ, zero, suc, Bool, true, false, List, [], ◌∷◌, ◌++◌, Option, Some, None, ◌⊎◌}
use Rattle.fcl_tokens.specs.declared.token.Amount.{Amount}
use Rattle.fcl_tokens.specs.declared.token.Amount.TheVariants as amount
use Rattle.fcl_tokens.specs.declared.token.Keyword.{Keyword}
use Rattle.fcl_tokens.specs.declared.token.Keyword.TheVariants as key
use Rattle.fcl_tokens.specs.declared.token.Token.{Token}
use Rattle.fcl_tokens.specs.declared.token.Token.TheVariants as tok
use Rattle.fcl_tokens.specs.declared.token.Word.{Word}
use Rattle.fcl_tokens.specs.declared.token.Word.TheVariants as word
use Rattle.fcl_syntax.specs.declared.fault.Kind.TheVariants.{Deep, Unsupported}
use Rattle.fcl_syntax.specs.declared.{tree.Conclusion.Conclusion, tree.Direction.Direction, tree.Label.Label}
use Rattle.fcl_syntax.specs.declared.tree.Direction.TheVariants.{Input, Output}
use Rattle.fcl_syntax.specs.declared.{tree.Name.Name, tree.Number.Number, tree.UnitNumber.UnitNumber}
use Rattle.fcl_syntax.specs.declared.tree.ZeroNumber.{ZeroNumber}
use Rattle.fcl_syntax.specs.TokenClasses.{keyword_class, word_class, name_classes, other_type_classes, signed_classes}
use Rattle.fcl_syntax.specs.TokenClasses.{beyond_unit_classes, beyond_zero_classes, follow_classes, Among}
use Rattle.fcl_syntax.specs.TokenClasses.{open_classes}
use Rattle.fcl_syntax.specs.Annotations.{Sym, plain, annotated, either_text, or_refused}

-- x y z .. as sep x, sep y, sep z ..
abbrev pub behind : {A : Type 0} → Token → (A → List Sym) → List A → List Sym
behind sep text [] = []
behind sep text (a ∷ items) = plain sep ∷ (text a ++ behind sep text items)

abbrev pub each : {A : Type 0} → (A → List Sym) → List A → List Sym
each text [] = []
each text (a ∷ items) = text a ++ each text items

abbrev pub key_text : Keyword → ℕ → List Sym
key_text k at = plain (tok.Word at k) ∷ []

abbrev pub word_text : Word → ℕ → List Sym
word_text w at = plain (tok.Name at w) ∷ []

abbrev pub name_token : Name → Token
name_token n = tok.Name n.at n.word

abbrev pub name_text : Name → List Sym
name_text n = plain (name_token n) ∷ []

-- ---- numbers

abbrev pub number_token : Number → Token
number_token n = tok.Number n.at n.amount n.whole

abbrev pub number_text : Number → List Sym
number_text n = plain (number_token n) ∷ []

-- one with or without a plus sign, or one with a minus sign
pub data TSigned (A B : Type 0) : Type 0 where
  plus : A → TSigned A B
  minus : B → TSigned A B
  bare : A → TSigned A B

abbrev pub signed_text : {A B : Type 0} → (A → List Sym) → (B → List Sym) → TSigned A B → List Sym
signed_text f g (plus a) = plain tok.Plus ∷ f a
signed_text f g (minus b) = plain tok.Minus ∷ g b
signed_text f g (bare a) = f a

-- signed_number = ["+" | "-"] number
abbrev pub TSignedNumber : Type 0
TSignedNumber = TSigned Number Number

abbrev pub signed_number_text : TSignedNumber → List Sym
signed_number_text = signed_text number_text number_text

-- ---- variables

-- names = name {"," name}
abbrev pub names_text : Name × List Name → List Sym
names_text t = name_text t.0 ++ behind tok.Comma name_text t.1

-- type = REAL; another name is refused, code 5
abbrev pub TType : Type 0
TType = Among other_type_classes ⊎ ℕ

abbrev pub type_text : TType → List Sym
type_text = or_refused (Unsupported 5) other_type_classes (word_text word.Real)

-- declaration = names ":" type ";"
pub record TDeclaration : Type 0 where
  pub names : Name × List Name
  pub type : TType

abbrev pub declaration_text : TDeclaration → List Sym
declaration_text d = names_text d.names ++ (plain tok.Colon ∷ (type_text d.type ++ plain tok.Semicolon ∷ []))

-- (VAR_INPUT | VAR_OUTPUT)
abbrev pub direction_key : Direction → Keyword
direction_key Input = key.VarInput
direction_key Output = key.VarOutput

-- variables = (VAR_INPUT | VAR_OUTPUT) {declaration} END_VAR
pub record TVariables : Type 0 where
  pub at : ℕ
  pub direction : Direction
  pub declarations : List TDeclaration
  pub end : ℕ

abbrev pub variables_text : TVariables → List Sym
variables_text v = plain
    (tok.Word v.at (direction_key v.direction)) ∷ (each declaration_text v.declarations ++ key_text key.EndVar v.end)

-- VAR in its place is refused, code 6
abbrev pub var_classes : List ℕ
var_classes = keyword_class key.Var ∷ []

abbrev pub TSection : Type 0
TSection = Among var_classes ⊎ TVariables

abbrev pub section_text : TSection → List Sym
section_text = or_refused (Unsupported 6) var_classes variables_text

-- ---- terms and ranges

-- a name where a number of a point stands is refused, code 10
abbrev pub TCoordinate : Type 0
TCoordinate = Among name_classes ⊎ Number

abbrev pub coordinate_text : TCoordinate → List Sym
coordinate_text = or_refused (Unsupported 10) name_classes number_text

-- a degree is 0 or 1; another number is refused, code 11
abbrev pub unit_amount : Bool → Amount
unit_amount true = amount.One
unit_amount false = amount.Zero

abbrev pub unit_token : UnitNumber → Token
unit_token n = tok.Number n.at (unit_amount n.is_one) n.whole

abbrev pub unit_text : UnitNumber → List Sym
unit_text n = plain (unit_token n) ∷ []

abbrev pub zero_token : ZeroNumber → Token
zero_token n = tok.Number n.at amount.Zero n.whole

abbrev pub zero_text : ZeroNumber → List Sym
zero_text n = plain (zero_token n) ∷ []

abbrev pub TUnit : Type 0
TUnit = Among name_classes ⊎ (Among beyond_unit_classes ⊎ UnitNumber)

abbrev pub TZero : Type 0
TZero = Among name_classes ⊎ (Among beyond_zero_classes ⊎ ZeroNumber)

abbrev pub degree_text : TSigned TUnit TZero → List Sym
degree_text = signed_text
    (or_refused (Unsupported 10) name_classes (or_refused (Unsupported 11) beyond_unit_classes unit_text))
    (or_refused (Unsupported 10) name_classes (or_refused (Unsupported 11) beyond_zero_classes zero_text))

-- point = "(" signed_number "," signed_number ")"
pub record TPoint : Type 0 where
  pub open_at : ℕ
  pub x : TSigned TCoordinate TCoordinate
  pub degree : TSigned TUnit TZero

abbrev pub point_text : TPoint → List Sym
point_text p = plain (tok.Open p.open_at) ∷ (signed_text coordinate_text coordinate_text p.x ++
    (plain tok.Comma ∷ (degree_text p.degree ++ plain tok.Close ∷ [])))

-- point {point}; a number or a sign in their place is refused, code 14
abbrev pub TPoints : Type 0
TPoints = Among signed_classes ⊎ (TPoint × List TPoint)

abbrev pub points_text : TPoints → List Sym
points_text = or_refused (Unsupported 14) signed_classes (λ t. point_text t.0 ++ each point_text t.1)

-- TERM name ":=" point {point} ";"
pub record TTerm : Type 0 where
  pub at : ℕ
  pub name : Name
  pub points : TPoints

abbrev pub term_text : TTerm → List Sym
term_text t = plain (tok.Word t.at key.Term) ∷ plain (name_token t.name) ∷ plain tok.Assign ∷
    (points_text t.points ++ plain tok.Semicolon ∷ [])

-- range = RANGE [":="] "(" signed_number ".." signed_number ")" ";"
pub record TRange : Type 0 where
  pub at : ℕ
  pub assigned : Bool
  pub open_at : ℕ
  pub low : TSignedNumber
  pub high : TSignedNumber

abbrev pub opening_text : Bool → ℕ → List Sym
opening_text true at = plain tok.Assign ∷ plain (tok.Open at) ∷ []
opening_text false at = plain (tok.Open at) ∷ []

abbrev pub range_text : TRange → List Sym
range_text r = plain (tok.Word r.at key.Range) ∷ (opening_text r.assigned r.open_at ++
    (signed_number_text r.low ++
    (plain tok.To ∷ (signed_number_text r.high ++ plain tok.Close ∷ plain tok.Semicolon ∷ []))))

-- FUZZIFY name {term | range} END_FUZZIFY
pub record TFuzzify : Type 0 where
  pub at : ℕ
  pub name : Name
  pub lines : List (TTerm ⊎ TRange)
  pub end : ℕ

abbrev pub fuzzify_text : TFuzzify → List Sym
fuzzify_text f = plain (tok.Word f.at key.Fuzzify) ∷ plain (name_token f.name) ∷
    (each (either_text term_text range_text) f.lines ++ key_text key.EndFuzzify f.end)

-- keyword ":" word ";", where other words are refused with a code
pub record TSetting (classes : List ℕ) : Type 0 where
  pub at : ℕ
  pub word : Among classes ⊎ ℕ

abbrev pub setting_text : Keyword → Word → (classes : List ℕ) → ℕ → TSetting classes → List Sym
setting_text k w classes code s = plain (tok.Word s.at k) ∷ plain tok.Colon ∷
    (or_refused (Unsupported code) classes (word_text w) s.word ++ plain tok.Semicolon ∷ [])

-- ACCU ":" MAX ";", where BSUM and NSUM are refused, code 4
abbrev pub accu_classes : List ℕ
accu_classes = word_class word.Bsum ∷ word_class word.Nsum ∷ []

abbrev pub TAccu : Type 0
TAccu = TSetting accu_classes

abbrev pub accu_text : TAccu → List Sym
accu_text = setting_text key.Accu word.Max accu_classes 4

-- METHOD ":" COGS ";", where COG, COA, LM and RM are refused, code 1
abbrev pub method_classes : List ℕ
method_classes = word_class word.Centre ∷ word_class word.Extreme ∷ []

abbrev pub TMethod : Type 0
TMethod = TSetting method_classes

abbrev pub method_text : TMethod → List Sym
method_text = setting_text key.Method word.Cogs method_classes 1

-- TERM name ":=" signed_number ";"; "(" in the place of the number is refused, code 13
pub record TSingleton : Type 0 where
  pub at : ℕ
  pub name : Name
  pub value : Among open_classes ⊎ TSignedNumber

abbrev pub singleton_text : TSingleton → List Sym
singleton_text t = plain (tok.Word t.at key.Term) ∷ plain (name_token t.name) ∷ plain tok.Assign ∷
    (or_refused (Unsupported 13) open_classes signed_number_text t.value ++ plain tok.Semicolon ∷ [])

-- DEFAULT ":=" (signed_number | NC) ";"
pub record TFallback : Type 0 where
  pub at : ℕ
  pub value : TSignedNumber ⊎ ℕ

abbrev pub fallback_text : TFallback → List Sym
fallback_text d = plain (tok.Word d.at key.Default) ∷ plain tok.Assign ∷
    (either_text signed_number_text (word_text word.Nc) d.value ++ plain tok.Semicolon ∷ [])

-- DEFUZZIFY name {singleton | accu | method | default | range} END_DEFUZZIFY
abbrev pub TDefuzzyLine : Type 0
TDefuzzyLine = TSingleton ⊎ (TAccu ⊎ (TMethod ⊎ (TFallback ⊎ TRange)))

abbrev pub defuzzy_line_text : TDefuzzyLine → List Sym
defuzzy_line_text =
    either_text singleton_text (either_text accu_text (either_text method_text (either_text fallback_text range_text)))

pub record TDefuzzify : Type 0 where
  pub at : ℕ
  pub name : Name
  pub lines : List TDefuzzyLine
  pub end : ℕ

abbrev pub defuzzify_text : TDefuzzify → List Sym
defuzzify_text d = plain (tok.Word d.at key.Defuzzify) ∷ plain (name_token d.name) ∷
    (each defuzzy_line_text d.lines ++ key_text key.EndDefuzzify d.end)

-- part = fuzzify | defuzzify; OPTION in its place is refused, code 7
abbrev pub option_classes : List ℕ
option_classes = keyword_class key.Options ∷ []

abbrev pub TPart : Type 0
TPart = Among option_classes ⊎ (TFuzzify ⊎ TDefuzzify)

abbrev pub part_text : TPart → List Sym
part_text = or_refused (Unsupported 7) option_classes (either_text fuzzify_text defuzzify_text)

-- ---- conditions

-- or = and {OR and}, and = not {AND not}, not = NOT not | "(" or ")" | name IS [NOT] name
-- a name that AND, OR, THEN or ")" follows is refused, code 12
mutual
  pub data TNot : Type 0 where
    neg : ℕ → TNot → TNot
    group : ℕ → TOr → TNot
    is : (variable : Name) → (is_at : ℕ) → (not_at : Option ℕ) → (term : Name) → TNot
    lone : Name → Among follow_classes → TNot

  pub data TNots : Type 0 where
    no_nots : TNots
    more_nots : ℕ → TNot → TNots → TNots

  pub data TAnd : Type 0 where
    and_of : TNot → TNots → TAnd

  pub data TAnds : Type 0 where
    no_ands : TAnds
    more_ands : ℕ → TAnd → TAnds → TAnds

  pub data TOr : Type 0 where
    or_of : TAnd → TAnds → TOr

-- "(" or NOT, where n more may be open
abbrev pub opener : ℕ → Token → Sym
opener zero x = annotated Deep x
opener (suc n) x = plain x

abbrev pub less : ℕ → ℕ
less zero = zero
less (suc n) = n

abbrev pub is_text : Name → ℕ → Option ℕ → Name → List Sym
is_text v i (Some n) t =
    plain (name_token v) ∷ plain (tok.Word i key.Is) ∷ plain (tok.Word n key.Not) ∷ plain (name_token t) ∷ []
is_text v i None t = plain (name_token v) ∷ plain (tok.Word i key.Is) ∷ plain (name_token t) ∷ []

abbrev mutual
  pub not_text : TNot → ℕ → List Sym
  not_text (neg at t) n = opener n (tok.Word at key.Not) ∷ not_text t (less n)
  not_text (group at o) n = opener n (tok.Open at) ∷ (or_text o (less n) ++ plain tok.Close ∷ [])
  not_text (is v i b t) n = is_text v i b t
  not_text (lone v f) n = annotated (Unsupported 12) (name_token v) ∷ plain f.token ∷ []

  pub nots_text : TNots → ℕ → List Sym
  nots_text no_nots n = []
  nots_text (more_nots at t ts) n = plain (tok.Word at key.And) ∷ (not_text t n ++ nots_text ts n)

  pub and_text : TAnd → ℕ → List Sym
  and_text (and_of t ts) n = not_text t n ++ nots_text ts n

  pub ands_text : TAnds → ℕ → List Sym
  ands_text no_ands n = []
  ands_text (more_ands at a items) n = plain (tok.Word at key.Or) ∷ (and_text a n ++ ands_text items n)

  pub or_text : TOr → ℕ → List Sym
  or_text (or_of a items) n = and_text a n ++ ands_text items n

-- ---- rules

-- conclusion = name IS name
abbrev pub conclusion_text : Conclusion → List Sym
conclusion_text c = plain (name_token c.variable) ∷ plain (tok.Word c.is_at key.Is) ∷ plain (name_token c.term) ∷ []

abbrev pub conclusions_text : Conclusion × List Conclusion → List Sym
conclusions_text t = conclusion_text t.0 ++ behind tok.Comma conclusion_text t.1

-- WITH signed_number ";"; a name in the place of the number is refused, code 15
pub record TWeight : Type 0 where
  pub at : ℕ
  pub value : Among name_classes ⊎ TSignedNumber

abbrev pub weight_text : TWeight → List Sym
weight_text w = plain (tok.Word w.at key.With) ∷
    (or_refused (Unsupported 15) name_classes signed_number_text w.value ++ plain tok.Semicolon ∷ [])

-- [WITH signed_number] ";"
abbrev pub semicolon_text : Unit {0} → List Sym
semicolon_text _ = plain tok.Semicolon ∷ []

abbrev pub label_token : Label → Token
label_token l = tok.Number l.at l.amount true

-- rule = RULE whole ":" IF or THEN conclusion {"," conclusion} [WITH signed_number] ";"
pub record TRule : Type 0 where
  pub at : ℕ
  pub label : Label
  pub if_at : ℕ
  pub condition : TOr
  pub then_at : ℕ
  pub conclusions : Conclusion × List Conclusion
  pub weight : TWeight ⊎ Unit {0}

abbrev pub rule_text : TRule → List Sym
rule_text r =
    plain (tok.Word r.at key.Rule) ∷ plain (label_token r.label) ∷ plain tok.Colon ∷ plain (tok.Word r.if_at key.If) ∷
    (or_text r.condition 64 ++ (plain (tok.Word r.then_at key.Then) ∷
    (conclusions_text r.conclusions ++ either_text weight_text semicolon_text r.weight)))

-- OPTION in the place of a rule or of a line before it is refused, code 7
abbrev pub TRuleItem : Type 0
TRuleItem = Among option_classes ⊎ TRule

abbrev pub rule_item_text : TRuleItem → List Sym
rule_item_text = or_refused (Unsupported 7) option_classes rule_text

-- AND ":" MIN ";", where PROD and BDIF are refused, code 2
abbrev pub and_classes : List ℕ
and_classes = word_class word.Prod ∷ word_class word.Bdif ∷ []

abbrev pub and_line_text : TSetting and_classes → List Sym
and_line_text = setting_text key.And word.Min and_classes 2

-- OR ":" MAX ";", where ASUM and BSUM are refused, code 3
abbrev pub or_classes : List ℕ
or_classes = word_class word.Asum ∷ word_class word.Bsum ∷ []

abbrev pub or_line_text : TSetting or_classes → List Sym
or_line_text = setting_text key.Or word.Max or_classes 3

-- ACT ":" (MIN | PROD) ";"
pub record TAct : Type 0 where
  pub at : ℕ
  pub word : ℕ ⊎ ℕ

abbrev pub act_text : TAct → List Sym
act_text a = plain (tok.Word a.at key.Act) ∷ plain tok.Colon ∷
    (either_text (word_text word.Min) (word_text word.Prod) a.word ++ plain tok.Semicolon ∷ [])

abbrev pub TRuleLine : Type 0
TRuleLine = TSetting and_classes ⊎ (TSetting or_classes ⊎ (TAct ⊎ TAccu))

abbrev pub rule_line_text : TRuleLine → List Sym
rule_line_text = either_text and_line_text (either_text or_line_text (either_text act_text accu_text))

-- rules = RULEBLOCK name {line} {rule} END_RULEBLOCK
pub record TRulebase : Type 0 where
  pub at : ℕ
  pub name : Name
  pub lines : List TRuleLine
  pub rules : List TRuleItem
  pub end : ℕ

abbrev pub rulebase_text : TRulebase → List Sym
rulebase_text r = plain (tok.Word r.at key.Ruleblock) ∷ plain (name_token r.name) ∷
    (each rule_line_text r.lines ++ (each rule_item_text r.rules ++ key_text key.EndRuleblock r.end))

-- END_FUNCTION_BLOCK; in its place OPTION is refused, code 7, and RULEBLOCK, code 8
abbrev pub ruleblock_classes : List ℕ
ruleblock_classes = keyword_class key.Ruleblock ∷ []

abbrev pub TEnd : Type 0
TEnd = Among option_classes ⊎ (Among ruleblock_classes ⊎ ℕ)

abbrev pub end_text : TEnd → List Sym
end_text = or_refused (Unsupported 7) option_classes
    (or_refused (Unsupported 8) ruleblock_classes (key_text key.EndFunctionBlock))

-- block = FUNCTION_BLOCK name {variables} {part} rules END_FUNCTION_BLOCK
pub record TBlock : Type 0 where
  pub at : ℕ
  pub name : Name
  pub variables : List TSection
  pub parts : List TPart
  pub rules : TRulebase
  pub end : TEnd

abbrev pub block_text : TBlock → List Sym
block_text b = plain (tok.Word b.at key.FunctionBlock) ∷ plain (name_token b.name) ∷
    (each section_text b.variables ++ (each part_text b.parts ++ (rulebase_text b.rules ++ end_text b.end)))
