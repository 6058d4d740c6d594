-- Reading a text: its tokens, and then all of them. No public clause cites it.
-- Beside the promise.
use Rattle.std.specs.Prelude.{◌≡◌, ℕ, ◌-◌, List, length, drop, Result, Ok, Err}
use Rattle.fcl_tokens.specs.declared.lexer.LexFault.{LexFault}
use Rattle.fcl_tokens.specs.declared.lexer.LexKind.{LexKind}
use Rattle.fcl_tokens.specs.declared.lexer.LexKind.TheVariants as kinds
use Rattle.fcl_tokens.specs.{Lexing.Lexed, Lexing.tokenization}
use Rattle.fcl_syntax.specs.declared.{fault.Fault.Fault, fault.Kind.Kind}
use Rattle.fcl_syntax.specs.declared.fault.Kind.TheVariants.{Expected, Deep, Unsupported}
use Rattle.fcl_syntax.specs.declared.text.SyntaxFault.{SyntaxFault}
use Rattle.fcl_syntax.specs.declared.text.SyntaxFault.TheVariants as faults
use Rattle.fcl_syntax.specs.{declared.tree.Tree.Tree, Text.OrMemory, Text.head_or}
use Rattle.fcl_syntax.specs.{Grammar.TBlock, Reading.all_of, View.view}

abbrev pub of_kind : LexKind → ℕ → SyntaxFault
of_kind kinds.BadByte at = faults.BadByte at
of_kind kinds.OpenComment at = faults.OpenComment at
of_kind (kinds.Number e) at = faults.Number at e

abbrev pub token_fault : LexFault → SyntaxFault
token_fault e = of_kind e.kind e.at

abbrev pub grammar_fault : Kind → ℕ → SyntaxFault
grammar_fault Expected at = faults.Expected at
grammar_fault Deep at = faults.Deep at
grammar_fault (Unsupported code) at = faults.Unsupported at code

-- the place of the token where this many are left, or the end
abbrev pub place_of : List ℕ → ℕ → ℕ → ℕ
place_of places left end = head_or (drop (length places - left) places) end

abbrev pub located : List ℕ → ℕ → Result TBlock Fault → Result TBlock SyntaxFault
located places end (Ok t) = Ok t
located places end (Err e) = Err (grammar_fault e.kind (place_of places e.left end))

abbrev pub read_lexed : ℕ → Lexed → Result TBlock SyntaxFault
read_lexed end (Ok l) = located l.1 end (all_of l.0)
read_lexed end (Err e) = Err (token_fault e)

abbrev pub read_text : List ℕ → Result TBlock SyntaxFault
read_text text = read_lexed (length text) (tokenization text)

-- what is answered is what reading gives, where memory was found
abbrev pub Reads : Result Tree SyntaxFault → Result TBlock SyntaxFault → Type 0
Reads (Ok tree) r = r ≡ Ok (view tree.block)
Reads (Err e) r = OrMemory (λ e. r ≡ Err e) e
