-- The words that have a meaning of their own.
-- Reached by the promise.
use Rattle.std.specs.Prelude.{ℕ, List, [], ◌∷◌, codes}
use Rattle.fcl_tokens.specs.declared.token.Keyword.TheVariants as key
use Rattle.fcl_tokens.specs.declared.token.Meaning.{Meaning}
use Rattle.fcl_tokens.specs.declared.token.Meaning.TheVariants as meaning
use Rattle.fcl_tokens.specs.declared.token.Word.TheVariants as word

abbrev pub meanings : List (List ℕ × Meaning)
meanings =
    (codes "FUNCTION_BLOCK", meaning.Keyword key.FunctionBlock) ∷
    (codes "END_FUNCTION_BLOCK", meaning.Keyword key.EndFunctionBlock) ∷
    (codes "VAR_INPUT", meaning.Keyword key.VarInput) ∷
    (codes "VAR_OUTPUT", meaning.Keyword key.VarOutput) ∷
    (codes "END_VAR", meaning.Keyword key.EndVar) ∷
    (codes "VAR", meaning.Keyword key.Var) ∷
    (codes "FUZZIFY", meaning.Keyword key.Fuzzify) ∷
    (codes "END_FUZZIFY", meaning.Keyword key.EndFuzzify) ∷
    (codes "DEFUZZIFY", meaning.Keyword key.Defuzzify) ∷
    (codes "END_DEFUZZIFY", meaning.Keyword key.EndDefuzzify) ∷
    (codes "TERM", meaning.Keyword key.Term) ∷
    (codes "RANGE", meaning.Keyword key.Range) ∷
    (codes "ACCU", meaning.Keyword key.Accu) ∷
    (codes "METHOD", meaning.Keyword key.Method) ∷
    (codes "DEFAULT", meaning.Keyword key.Default) ∷
    (codes "RULEBLOCK", meaning.Keyword key.Ruleblock) ∷
    (codes "END_RULEBLOCK", meaning.Keyword key.EndRuleblock) ∷
    (codes "RULE", meaning.Keyword key.Rule) ∷
    (codes "IF", meaning.Keyword key.If) ∷
    (codes "THEN", meaning.Keyword key.Then) ∷
    (codes "WITH", meaning.Keyword key.With) ∷
    (codes "IS", meaning.Keyword key.Is) ∷
    (codes "NOT", meaning.Keyword key.Not) ∷
    (codes "AND", meaning.Keyword key.And) ∷
    (codes "OR", meaning.Keyword key.Or) ∷
    (codes "ACT", meaning.Keyword key.Act) ∷
    (codes "OPTION", meaning.Keyword key.Options) ∷
    (codes "END_OPTION", meaning.Keyword key.EndOptions) ∷
    (codes "REAL", meaning.Name word.Real) ∷
    (codes "MIN", meaning.Name word.Min) ∷
    (codes "MAX", meaning.Name word.Max) ∷
    (codes "PROD", meaning.Name word.Prod) ∷
    (codes "BDIF", meaning.Name word.Bdif) ∷
    (codes "ASUM", meaning.Name word.Asum) ∷
    (codes "BSUM", meaning.Name word.Bsum) ∷
    (codes "NSUM", meaning.Name word.Nsum) ∷
    (codes "COGS", meaning.Name word.Cogs) ∷
    (codes "COG", meaning.Name word.Centre) ∷
    (codes "COA", meaning.Name word.Centre) ∷
    (codes "LM", meaning.Name word.Extreme) ∷
    (codes "RM", meaning.Name word.Extreme) ∷
    (codes "NC", meaning.Name word.Nc) ∷
    []
