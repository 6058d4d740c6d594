-- The classes of tokens. What the grammar asks of a token is its class.
-- Reached by the promise.
use Rattle.std.specs.Prelude.{◌≡◌, ℕ, Bool, true, false, List, [], ◌∷◌, ◌==◌, if◌then◌else◌}
use Rattle.fcl_tokens.specs.declared.token.Amount.TheVariants as amount
use Rattle.fcl_tokens.specs.declared.token.Keyword.{Keyword}
use Rattle.fcl_tokens.specs.declared.token.Keyword.TheVariants as key
use Rattle.fcl_tokens.specs.declared.token.Token.{Token}
use Rattle.fcl_tokens.specs.declared.token.Token.TheVariants as tok
use Rattle.fcl_tokens.specs.declared.token.Word.{Word}
use Rattle.fcl_tokens.specs.declared.token.Word.TheVariants as word

abbrev pub keyword_class : Keyword → ℕ
keyword_class key.FunctionBlock = 0
keyword_class key.EndFunctionBlock = 1
keyword_class key.VarInput = 2
keyword_class key.VarOutput = 3
keyword_class key.EndVar = 4
keyword_class key.Var = 5
keyword_class key.Fuzzify = 6
keyword_class key.EndFuzzify = 7
keyword_class key.Defuzzify = 8
keyword_class key.EndDefuzzify = 9
keyword_class key.Term = 10
keyword_class key.Range = 11
keyword_class key.Accu = 12
keyword_class key.Method = 13
keyword_class key.Default = 14
keyword_class key.Ruleblock = 15
keyword_class key.EndRuleblock = 16
keyword_class key.Rule = 17
keyword_class key.If = 18
keyword_class key.Then = 19
keyword_class key.With = 20
keyword_class key.Is = 21
keyword_class key.Not = 22
keyword_class key.And = 23
keyword_class key.Or = 24
keyword_class key.Act = 25
keyword_class key.Options = 26
keyword_class key.EndOptions = 27

abbrev pub word_class : Word → ℕ
word_class word.Real = 30
word_class word.Min = 31
word_class word.Max = 32
word_class word.Prod = 33
word_class word.Bdif = 34
word_class word.Asum = 35
word_class word.Bsum = 36
word_class word.Nsum = 37
word_class word.Cogs = 38
word_class word.Centre = 39
word_class word.Extreme = 40
word_class word.Nc = 41
word_class word.Other = 42

abbrev pub class_of : Token → ℕ
class_of (tok.Word at k) = keyword_class k
class_of (tok.Name at w) = word_class w
class_of (tok.Number at amount.Zero true) = 50
class_of (tok.Number at amount.One true) = 51
class_of (tok.Number at (amount.Other n) true) = 52
class_of (tok.Number at amount.Zero false) = 53
class_of (tok.Number at amount.One false) = 54
class_of (tok.Number at (amount.Other n) false) = 55
class_of (tok.Open at) = 60
class_of tok.Close = 61
class_of tok.Assign = 62
class_of tok.To = 63
class_of tok.Colon = 64
class_of tok.Semicolon = 65
class_of tok.Comma = 66
class_of tok.Plus = 67
class_of tok.Minus = 68

-- all names, from REAL on
abbrev pub name_classes : List ℕ
name_classes = 30 ∷ 31 ∷ 32 ∷ 33 ∷ 34 ∷ 35 ∷ 36 ∷ 37 ∷ 38 ∷ 39 ∷ 40 ∷ 41 ∷ 42 ∷ []

-- the names that are not REAL
abbrev pub other_type_classes : List ℕ
other_type_classes = 31 ∷ 32 ∷ 33 ∷ 34 ∷ 35 ∷ 36 ∷ 37 ∷ 38 ∷ 39 ∷ 40 ∷ 41 ∷ 42 ∷ []

abbrev pub number_classes : List ℕ
number_classes = 50 ∷ 51 ∷ 52 ∷ 53 ∷ 54 ∷ 55 ∷ []

-- numbers without a point
abbrev pub whole_classes : List ℕ
whole_classes = 50 ∷ 51 ∷ 52 ∷ []

-- numbers that are 0 or 1, and the others
abbrev pub unit_classes : List ℕ
unit_classes = 50 ∷ 51 ∷ 53 ∷ 54 ∷ []

abbrev pub beyond_unit_classes : List ℕ
beyond_unit_classes = 52 ∷ 55 ∷ []

-- numbers that are 0, and the others
abbrev pub zero_classes : List ℕ
zero_classes = 50 ∷ 53 ∷ []

abbrev pub beyond_zero_classes : List ℕ
beyond_zero_classes = 51 ∷ 52 ∷ 54 ∷ 55 ∷ []

-- the signs and numbers
abbrev pub signed_classes : List ℕ
signed_classes = class_of tok.Plus ∷ class_of tok.Minus ∷ number_classes

abbrev pub comma_classes : List ℕ
comma_classes = class_of tok.Comma ∷ []

-- "("
abbrev pub open_classes : List ℕ
open_classes = class_of (tok.Open 0) ∷ []

-- what may follow a condition's operand
abbrev pub follow_classes : List ℕ
follow_classes = keyword_class key.And ∷ keyword_class key.Or ∷ keyword_class key.Then ∷ class_of tok.Close ∷ []

-- NOT and "("
abbrev pub opener_classes : List ℕ
opener_classes = keyword_class key.Not ∷ open_classes

-- ---- what each part of the grammar that repeats begins with

-- VAR_INPUT and VAR_OUTPUT
abbrev pub direction_classes : List ℕ
direction_classes = keyword_class key.VarInput ∷ keyword_class key.VarOutput ∷ []

-- these, and VAR in their place
abbrev pub section_classes : List ℕ
section_classes = keyword_class key.Var ∷ direction_classes

-- FUZZIFY and DEFUZZIFY, and OPTION in their place
abbrev pub part_classes : List ℕ
part_classes = keyword_class key.Options ∷ keyword_class key.Fuzzify ∷ keyword_class key.Defuzzify ∷ []

-- a line of FUZZIFY
abbrev pub fuzzy_line_classes : List ℕ
fuzzy_line_classes = keyword_class key.Term ∷ keyword_class key.Range ∷ []

-- a line of DEFUZZIFY
abbrev pub defuzzy_line_classes : List ℕ
defuzzy_line_classes =
    keyword_class key.Term ∷ keyword_class key.Accu ∷ keyword_class key.Method ∷ keyword_class key.Default ∷
    keyword_class key.Range ∷ []

-- a line of RULEBLOCK before the rules
abbrev pub rule_line_classes : List ℕ
rule_line_classes =
    keyword_class key.And ∷ keyword_class key.Or ∷ keyword_class key.Act ∷ keyword_class key.Accu ∷ []

-- a rule, and OPTION in its place
abbrev pub rule_item_classes : List ℕ
rule_item_classes = keyword_class key.Options ∷ keyword_class key.Rule ∷ []

abbrev pub mem : ℕ → List ℕ → Bool
mem n [] = false
mem n (m ∷ ms) = if n == m then true else mem n ms

-- a token of one of these classes
pub record Among (classes : List ℕ) : Type 0 where
  pub token : Token
  pub is : mem (class_of token) classes ≡ true
