-- The tree of a text, or its first fault, by the text's bytes.
-- Reached by the promise.
use Rattle.std.specs.Prelude.{◌≡◌, ℕ, ◌≤◌, List, [], ◌∷◌, length, drop}
use Rattle.std.specs.Str.{str_to_ascii_lowercase}
use Rattle.fcl_tokens.specs.declared.lexer.LexKind.TheVariants as kinds
use Rattle.fcl_tokens.specs.declared.token.Token.{Token}
use Rattle.fcl_tokens.specs.{Tokens.HasTokens, Tokens.HasTokenFault}
use Rattle.fcl_syntax.specs.declared.fault.Kind.{Kind}
use Rattle.fcl_syntax.specs.declared.fault.Kind.TheVariants.{Expected, Deep, Unsupported}
use Rattle.fcl_syntax.specs.declared.text.SyntaxFault.{SyntaxFault}
use Rattle.fcl_syntax.specs.declared.text.SyntaxFault.TheVariants as faults
use Rattle.fcl_syntax.specs.declared.tree.FunctionBlock.{FunctionBlock}
use Rattle.fcl_syntax.specs.{Annotations.Spells, First.FirstFault}
use Rattle.fcl_syntax.specs.{Grammar.TBlock, Grammar.block_text, View.view}

-- the text has no token fault, and its tokens spell the tree
pub record SpellsTree (text : List ℕ) (t : TBlock) : Type 0 where
  pub tokens : List Token
  pub places : List ℕ
  pub cut : HasTokens text tokens places
  pub spells : Spells block_text tokens t

-- a text that can be read spells the block, and these are its bytes in small letters
pub record IsSpelled (letters : List ℕ) (b : FunctionBlock) : Type 0 where
  pub text : List ℕ
  pub small : length text ≤ 1048576
  pub letters_are : letters ≡ str_to_ascii_lowercase text
  pub spelled : SpellsTree text (view b)

abbrev pub head_or : List ℕ → ℕ → ℕ
head_or [] end = end
head_or (at ∷ ats) end = at

-- the text has no token fault, and this is the first fault of its tokens; its place is that of the
-- token behind those before it, or the text's length
pub record HasFault (text : List ℕ) (k : Kind) (at : ℕ) : Type 0 where
  pub tokens : List Token
  pub places : List ℕ
  pub left : ℕ
  pub cut : HasTokens text tokens places
  pub fault : FirstFault block_text tokens (record { kind = k; left = left })
  pub place : at ≡ head_or (drop (length fault.front) places) (length text)

-- the first fault of a text; want of memory is none
abbrev pub IsFirstFault : List ℕ → SyntaxFault → Type 0
IsFirstFault text (faults.BadByte at) = HasTokenFault text kinds.BadByte at
IsFirstFault text (faults.OpenComment at) = HasTokenFault text kinds.OpenComment at
IsFirstFault text (faults.Number at e) = HasTokenFault text (kinds.Number e) at
IsFirstFault text (faults.Expected at) = HasFault text Expected at
IsFirstFault text (faults.Unsupported at code) = HasFault text (Unsupported code) at
IsFirstFault text (faults.Deep at) = HasFault text Deep at
IsFirstFault text faults.Memory = ⊥

-- P holds of the fault, where memory was found
abbrev pub OrMemory : (SyntaxFault → Type 0) → SyntaxFault → Type 0
OrMemory P (faults.BadByte at) = P (faults.BadByte at)
OrMemory P (faults.OpenComment at) = P (faults.OpenComment at)
OrMemory P (faults.Number at e) = P (faults.Number at e)
OrMemory P (faults.Expected at) = P (faults.Expected at)
OrMemory P (faults.Unsupported at code) = P (faults.Unsupported at code)
OrMemory P (faults.Deep at) = P (faults.Deep at)
OrMemory P faults.Memory = Unit {0}
