-- The tree that the FCL text of a workload spells. Its offsets do not hang on the shift.
use Rattle.std.specs.Prelude.{ℕ, zero, suc, ◌+◌, ◌*◌, ◌==◌, Bool, true, false, List, [], ◌∷◌, nat_lt, if◌then◌else◌}
use Rattle.std.specs.Prelude.{None}
use Rattle.fcl_tokens.specs.Tokens.{amount_of}
use Rattle.fcl_tokens.specs.declared.token.Word.TheVariants as word
use Rattle.fcl_syntax.specs.Grammar.{is, no_nots, more_nots, and_of, no_ands, or_of}
use Rattle.fcl_syntax.specs.declared.{tree.Declaration.Declaration, tree.Defuzzify.Defuzzify}
use Rattle.fcl_syntax.specs.declared.tree.DefuzzyLine.{DefuzzyLine}
use Rattle.fcl_syntax.specs.declared.tree.DefuzzyLine.TheVariants as defuzzy
use Rattle.fcl_syntax.specs.declared.tree.Degree.TheVariants as degree
use Rattle.fcl_syntax.specs.declared.tree.Direction.TheVariants.{Input, Output}
use Rattle.fcl_syntax.specs.declared.tree.FallbackValue.TheVariants as fallback
use Rattle.fcl_syntax.specs.declared.{tree.FunctionBlock.FunctionBlock, tree.Fuzzify.Fuzzify}
use Rattle.fcl_syntax.specs.declared.tree.FuzzyLine.{FuzzyLine}
use Rattle.fcl_syntax.specs.declared.tree.FuzzyLine.TheVariants as fuzzy
use Rattle.fcl_syntax.specs.declared.tree.Name.{Name}
use Rattle.fcl_syntax.specs.declared.tree.Part.TheVariants as part
use Rattle.fcl_syntax.specs.declared.{tree.Point.Point, tree.Rule.Rule, tree.Rulebase.Rulebase}
use Rattle.fcl_syntax.specs.declared.tree.SignedNumber.{SignedNumber}
use Rattle.fcl_syntax.specs.declared.tree.SignedNumber.TheVariants as signed
use Rattle.fcl_syntax.specs.declared.{tree.Term.Term, tree.Variables.Variables}
use Rattle.workload.specs.Blocks.{whole}

-- ---- names and numbers at a place

abbrev pub name_at : ℕ → Name
name_at at = record { at = at; word = word.Other }

abbrev number_at : ℕ → ℕ → SignedNumber
number_at at n = signed.Bare (record { at = at; amount = amount_of (whole n); whole = true })

-- how many digits a number has, which is at most 256
abbrev pub width : ℕ → ℕ
width n = if nat_lt n 10 then 1 else (if nat_lt n 100 then 2 else 3)

-- ---- variables

abbrev declared : ℕ → Declaration
declared at = record { first = name_at at; more = []; real = at + 4 }

abbrev inputs : Variables
inputs = record { at = 25; direction = Input; declarations = declared 35 ∷ declared 45 ∷ []; end = 55 }

abbrev outputs : Variables
outputs = record { at = 63; direction = Output; declarations = declared 74 ∷ []; end = 84 }

-- ---- terms: `(32, 1) ` has six bytes and a number

-- an abscissa, and whether the degree there is one
abbrev Corner : Type 0
Corner = ℕ × Bool

abbrev pub point_at : ℕ → Corner → Point
point_at at (x, one) = record {
  open_at = at;
  x = number_at (at + 1) x;
  degree = degree.Bare (record { at = at + 3 + width x; is_one = one; whole = true });
}

abbrev points_from : ℕ → List Corner → List Point
points_from at [] = []
points_from at (c ∷ cs) = point_at at c ∷ points_from (at + 6 + width c.0) cs

abbrev points_length : List Corner → ℕ
points_length [] = 0
points_length (c ∷ cs) = 6 + width c.0 + points_length cs

abbrev first_corner : ℕ → Corner
first_corner zero = (0, true)
first_corner (suc j) = (32 * j, false)

abbrev more_corners : ℕ → List Corner
more_corners zero = (32, false) ∷ []
more_corners (suc j) =
    (32 * j + 32, true) ∷ (if j == 7 then [] else (32 * j + 64, false) ∷ [])

-- `TERM t0 := ` has eleven bytes, and `;` and a blank stand behind the points
abbrev pub term_at : ℕ → ℕ → Term
term_at at j = record {
  at = at;
  name = name_at (at + 5);
  first = point_at (at + 11) (first_corner j);
  more = points_from (at + 17 + width (first_corner j).0) (more_corners j);
}

abbrev term_length : ℕ → ℕ
term_length j = 12 + points_length (first_corner j ∷ more_corners j)

-- so many terms from one on, and the line that is behind the last of them
abbrev lines_from : ℕ → ℕ → ℕ → List FuzzyLine
lines_from at j zero =
    fuzzy.Range (record {
      at = at;
      assigned = true;
      open_at = at + 9;
      low = number_at (at + 10) 0;
      high = number_at (at + 15) 256;
    }) ∷ []
lines_from at j (suc n) = fuzzy.Term (term_at at j) ∷ lines_from (at + term_length j) (j + 1) n

abbrev pub fuzzify_at : ℕ → Fuzzify
fuzzify_at at =
    record { at = at; name = name_at (at + 8); lines = lines_from (at + 10) 0 9; end = at + 351 }

-- ---- singletons

abbrev singletons_from : ℕ → ℕ → ℕ → List DefuzzyLine
singletons_from at j zero =
    defuzzy.Method (record { at = at; word = at + 9 })
    ∷ defuzzy.Default (record { at = at + 15; value = fallback.Number (number_at (at + 26) 0) }) ∷ []
singletons_from at j (suc n) =
    defuzzy.Singleton (record { at = at; name = name_at (at + 5); value = number_at (at + 11) (25 * j) })
    ∷ singletons_from (at + 13 + width (25 * j)) (j + 1) n

abbrev pub defuzzify_at : ℕ → Defuzzify
defuzzify_at at = record { at = at; name = name_at (at + 10); lines = singletons_from (at + 12) 0 5; end = at + 116 }

-- ---- rules: `RULE 1 : IF x IS t0 AND y IS t0 THEN z IS s3;` and a line's end have 45 bytes and a number

abbrev pub rule_length : ℕ → ℕ
rule_length n = 45 + width (n + 1)

-- what stands behind the number
abbrev rule_behind : ℕ → ℕ → ℕ → Rule
rule_behind n start at = record {
  at = start;
  label = record { at = start + 5; amount = amount_of (whole (n + 1)) };
  if_at = at + 3;
  condition = or_of (and_of (is (name_at (at + 6)) (at + 8) None (name_at (at + 11)))
      (more_nots (at + 14) (is (name_at (at + 18)) (at + 20) None (name_at (at + 23))) no_nots)) no_ands;
  then_at = at + 26;
  first = record { variable = name_at (at + 31); is_at = at + 33; term = name_at (at + 36) };
  more = [];
  weight = None;
}

-- rule number n, from 0, whose text begins there
abbrev pub rule_at : ℕ → ℕ → Rule
rule_at n at = rule_behind n at (at + 5 + width (n + 1))

abbrev pub rules_from : ℕ → ℕ → ℕ → List Rule
rules_from n at zero = []
rules_from n at (suc more) = rule_at n at ∷ rules_from (n + 1) (at + rule_length n) more

-- ---- the block

abbrev rulebase : Rulebase
rulebase = record { at = 948; name = name_at 958; lines = []; rules = rules_from 0 964 81; end = 4762 }

abbrev pub tree : FunctionBlock
tree = record {
  at = 0;
  name = name_at 15;
  variables = inputs ∷ outputs ∷ [];
  parts = part.Fuzzify (fuzzify_at 92) ∷ part.Fuzzify (fuzzify_at 455) ∷ part.Defuzzify (defuzzify_at 818) ∷ [];
  rules = rulebase;
  end = 4776;
}
