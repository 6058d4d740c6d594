-- The reader answers the tree that a text spells, or its first fault.
use Rattle.std.proofs.Common.{◌≡◌, ℕ, suc, ◌+◌, ◌-◌, ◌≤◌, List, [], ◌∷◌, ◌++◌, length, drop, Option, Some, None}
use Rattle.std.proofs.Common.{Result, Ok, Err, refl, sym, ap, subst, ◌∙◌, arith}
use Rattle.std.proofs.lemmas.List.{length-append}
use Rattle.std.specs.List.{cons_option, filter_map}
use Rattle.std.specs.Prelude.{IfOk, IfErr}
use Rattle.std.specs.Str.{str_to_ascii_lowercase}
use Rattle.fcl_tokens.specs.declared.lexer.LexKind.{LexKind}
use Rattle.fcl_tokens.specs.declared.lexer.LexKind.TheVariants as kinds
use Rattle.fcl_tokens.specs.declared.token.Token.{Token}
use Rattle.fcl_tokens.specs.{Cuts.CutsAreTokens, Lexing.Lexed, Lexing.tokenization}
use Rattle.fcl_tokens.specs.Tokens.{HasTokens, HasTokenFault, Lexeme, place_before, places_of}
use Rattle.fcl_syntax.specs.declared.{fault.Fault.Fault, fault.Kind.Kind}
use Rattle.fcl_syntax.specs.declared.fault.Kind.TheVariants.{Expected, Deep, Unsupported}
use Rattle.fcl_syntax.specs.declared.text.SyntaxFault.{SyntaxFault}
use Rattle.fcl_syntax.specs.declared.text.SyntaxFault.TheVariants as faults
use Rattle.fcl_syntax.specs.declared.{tree.FunctionBlock.FunctionBlock, tree.Tree.Tree}
use Rattle.fcl_syntax.specs.{Annotations.Spells, First.FirstFault}
use Rattle.fcl_syntax.specs.Text.{IsSpelled, SpellsTree, head_or, HasFault, IsFirstFault, OrMemory}
use Rattle.fcl_syntax.specs.TextReading.{of_kind, token_fault, grammar_fault, place_of, located, read_lexed}
use Rattle.fcl_syntax.specs.TextReading.{read_text, Reads}
use Rattle.fcl_syntax.specs.{Parsed.GivesTree, Parsed.GivesFault, Grammar.TBlock, Grammar.block_text, Reading.all_of}
use Rattle.fcl_syntax.specs.{Readings.FirstFaultsAreOne, Readings.TreesAreOne, View.view}
use Rattle.fcl_syntax.proofs.AnnotatedTexts.{not_both, same_err}
use Rattle.fcl_syntax.proofs.{OneTree.one_tree, RuleParsers.block_parser}
use Rattle.fcl_syntax.proofs.Exact.{whole, whole_spells, spells_whole, whole_faults, faults_whole}

pub all_is : (ts : List Token) → all_of ts ≡ whole block_parser ts
unfolding all_of
all_is ts = refl

pub all_spells : (ts : List Token) (t : TBlock) → all_of ts ≡ Ok t → Spells block_text ts t
all_spells ts t h = whole_spells block_parser ts t (sym (all_is ts) ∙ h)

pub spells_all : (ts : List Token) (t : TBlock) → Spells block_text ts t → all_of ts ≡ Ok t
spells_all ts t s = all_is ts ∙ spells_whole block_parser ts t s

pub all_faults : (ts : List Token) (e : Fault) → all_of ts ≡ Err e → FirstFault block_text ts e
all_faults ts e h = whole_faults block_parser ts e (sym (all_is ts) ∙ h)

pub faults_all : (ts : List Token) (e : Fault) → FirstFault block_text ts e → all_of ts ≡ Err e
faults_all ts e f = all_is ts ∙ faults_whole block_parser ts e f

-- ---- texts

same_ok : {A E : Type 0} (r : Result A E) (a b : A) → r ≡ Ok a → r ≡ Ok b → a ≡ b
same_ok (Ok x) a b p q = cc
same_ok (Err e) a b p q = absurd cc

-- each token has its place
same_len : (at : ℕ) (lexemes : List Lexeme)
    → length (places_of at lexemes) ≡ length (filter_map (λ (l : Lexeme). l.token) lexemes)
same_len at [] = refl
same_len at (l ∷ lexemes) =
    go l.token (places_of (at + length l.bytes) lexemes) (filter_map (λ (l : Lexeme). l.token) lexemes)
    (same_len (at + length l.bytes) lexemes)
  where
    go : (t : Option Token) (places : List ℕ) (tokens : List Token) → length places ≡ length tokens
        → length (place_before at t places) ≡ length (cons_option t tokens)
    go None places tokens e = e
    go (Some t) places tokens e = ap suc e

lens : (text : List ℕ) (tokens : List Token) (places : List ℕ) → HasTokens text tokens places
    → length places ≡ length tokens
lens text tokens places h = ap length h.stand ∙ same_len 0 h.lexemes ∙ sym (ap length h.are)

-- the place where so many tokens are left is that behind those before it
place_behind : (places : List ℕ) (tokens front bad : List Token) (left end : ℕ) → length places ≡ length tokens
    → tokens ≡ front ++ bad → left ≡ length bad
    → place_of places left end ≡ head_or (drop (length front) places) end
place_behind places tokens front bad left end len parts is =
    let n : length places - left ≡ length front = omega (arith, len, ap length parts, length-append front bad, is) in
    ap (λ (k : ℕ). head_or (drop k places) end) n

-- ---- what is read is right

located_ok : (places : List ℕ) (end : ℕ) (r : Result TBlock Fault) (t : TBlock) → located places end r ≡ Ok t → r ≡ Ok t
located_ok places end (Ok u) t h = cc
located_ok places end (Err e) t h = absurd cc

located_err : (places : List ℕ) (end : ℕ) (r : Result TBlock Fault) (e : SyntaxFault) → located places end r ≡ Err e
    → (f : Fault) × (r ≡ Err f) ×
    (grammar_fault f.kind (place_of places f.left end) ≡ e)
located_err places end (Ok u) e h = absurd cc
located_err places end (Err f) e h = (f, refl, cc)

pub read_spells : CutsAreTokens → (text : List ℕ) (t : TBlock) → read_text text ≡ Ok t → SpellsTree text t
read_spells cuts text t h = go (tokenization text) refl h
  where
    go : (l : Lexed) → tokenization text ≡ l → read_lexed (length text) l ≡ Ok t → SpellsTree text t
    go (Ok l) w h =
        record {
          tokens = l.0;
          places = l.1;
          cut = (cuts.tokens text l.0 l.1).0 w;
          spells =
              all_spells l.0 t (located_ok l.1 (length text) (all_of l.0) t h);
        }
    go (Err e) w h = absurd cc

pub spells_read : CutsAreTokens → (text : List ℕ) (t : TBlock) → SpellsTree text t → read_text text ≡ Ok t
spells_read cuts text t s =
    ap (read_lexed (length text)) ((cuts.tokens text s.tokens s.places).1 s.cut)
    ∙ ap (located s.places (length text)) (spells_all s.tokens t s.spells)

token_fault_is : (text : List ℕ) (k : LexKind) (at : ℕ) → HasTokenFault text k at → IsFirstFault text (of_kind k at)
token_fault_is text kinds.BadByte at h = h
token_fault_is text _ at h = h

grammar_fault_is : (text : List ℕ) (k : Kind) (at : ℕ) → HasFault text k at → IsFirstFault text (grammar_fault k at)
grammar_fault_is text Expected at h = h
grammar_fault_is text _ at h = h

pub read_faults : CutsAreTokens → (text : List ℕ) (e : SyntaxFault) → read_text text ≡ Err e → IsFirstFault text e
read_faults cuts text e h = go (tokenization text) refl h
  where
    go : (l : Lexed) → tokenization text ≡ l → read_lexed (length text) l ≡ Err e → IsFirstFault text e
    go (Err d) w h = let is : token_fault d ≡ e = cc in
        subst (IsFirstFault text) is (token_fault_is text d.kind d.at ((cuts.faults text d.kind d.at).0 w))
    go (Ok l) w h =
        let x = located_err l.1 (length text) (all_of l.0) e h in
        let f = all_faults l.0 x.0 x.1 in
        let cut = (cuts.tokens text l.0 l.1).0 w in
        subst (IsFirstFault text) x.2 (grammar_fault_is text x.0.kind (place_of l.1 x.0.left (length text)) (record {
          tokens = l.0;
          places = l.1;
          left = x.0.left;
          cut = cut;
          fault = f;
          place = place_behind l.1 l.0 f.front f.bad x.0.left (length text)
              (lens text l.0 l.1 cut) f.parts f.left;
        }))

has_fault_read : CutsAreTokens → (text : List ℕ) (k : Kind) (at : ℕ) → HasFault text k at
    → read_text text ≡ Err (grammar_fault k at)
has_fault_read cuts text k at h =
    let f = h.fault in
    let e : Fault = record { kind = k; left = h.left } in
    ap (read_lexed (length text)) ((cuts.tokens text h.tokens h.places).1 h.cut)
    ∙ ap (located h.places (length text)) (faults_all h.tokens e f)
    ∙ ap (λ (n : ℕ). Err (grammar_fault k n)) (place_behind h.places h.tokens f.front f.bad h.left (length text)
    (lens text h.tokens h.places h.cut) f.parts f.left ∙ sym h.place)

token_fault_read : CutsAreTokens → (text : List ℕ) (k : LexKind) (at : ℕ) → HasTokenFault text k at
    → read_text text ≡ Err (of_kind k at)
token_fault_read cuts text k at h = ap (read_lexed (length text)) ((cuts.faults text k at).1 h)

pub faults_read : CutsAreTokens → (text : List ℕ) (e : SyntaxFault) → IsFirstFault text e → read_text text ≡ Err e
faults_read cuts text (faults.BadByte at) h = token_fault_read cuts text kinds.BadByte at h
faults_read cuts text (faults.OpenComment at) h = token_fault_read cuts text kinds.OpenComment at h
faults_read cuts text (faults.Number at e) h = token_fault_read cuts text (kinds.Number e) at h
faults_read cuts text (faults.Expected at) h = has_fault_read cuts text Expected at h
faults_read cuts text (faults.Unsupported at code) h = has_fault_read cuts text (Unsupported code) at h
faults_read cuts text (faults.Deep at) h = has_fault_read cuts text Deep at h
faults_read cuts text faults.Memory h = absurd h

-- ---- the clauses of the public call

or_memory : (P Q : SyntaxFault → Type 0) (e : SyntaxFault) → ((d : SyntaxFault) → P d → Q d) → OrMemory P e
    → OrMemory Q e
or_memory P Q faults.Memory f h = tt
or_memory P Q _ f h = f _ h

pub found : CutsAreTokens → (text : List ℕ) (r : Result Tree SyntaxFault) → Reads r (read_text text)
    → IfOk r (λ tree. SpellsTree text (view tree.block))
found cuts text (Ok tree) h = read_spells cuts text (view tree.block) h
found cuts text (Err e) h = tt

pub only : CutsAreTokens → (text : List ℕ) (r : Result Tree SyntaxFault) → Reads r (read_text text) → (t : TBlock)
    → SpellsTree text t → GivesTree r t
only cuts text (Ok tree) h t s = same_ok (read_text text) (view tree.block) t h (spells_read cuts text t s)
only cuts text (Err e) h t s =
    or_memory (λ e. read_text text ≡ Err e) (λ _. ⊥) e
    (λ d k. not_both (read_text text) t d (spells_read cuts text t s) k) h

pub fault : CutsAreTokens → (text : List ℕ) (r : Result Tree SyntaxFault) → Reads r (read_text text)
    → IfErr r (OrMemory (IsFirstFault text))
fault cuts text (Ok tree) h = tt
fault cuts text (Err e) h = or_memory (λ e. read_text text ≡ Err e) (IsFirstFault text) e (read_faults cuts text) h

pub only_fault : CutsAreTokens → (text : List ℕ) (r : Result Tree SyntaxFault) → Reads r (read_text text)
    → (e : SyntaxFault) → IsFirstFault text e → GivesFault r e
only_fault cuts text (Ok tree) h e f = not_both (read_text text) (view tree.block) e h (faults_read cuts text e f)
only_fault cuts text (Err d) h e f =
    or_memory (λ d. read_text text ≡ Err d) (λ d. d ≡ e) d
    (λ c k. same_err (read_text text) c e k (faults_read cuts text e f)) h

-- ---- one reading

one_spelled : CutsAreTokens → (text : List ℕ) (t u : TBlock) → SpellsTree text t → SpellsTree text u → t ≡ u
one_spelled cuts text t u p q = same_ok (read_text text) t u (spells_read cuts text t p) (spells_read cuts text u q)

pub trees_are_one_lem : CutsAreTokens → TreesAreOne
trees_are_one_lem cuts text =
    (one_spelled cuts text, λ p q s t. one_tree p q (one_spelled cuts text (view p) (view q) s t))

pub first_faults_are_one_lem : CutsAreTokens → FirstFaultsAreOne
first_faults_are_one_lem cuts text = (
  λ e f p q. same_err (read_text text) e f (faults_read cuts text e p) (faults_read cuts text f q),
  λ e t p q. not_both (read_text text) t e (spells_read cuts text t q) (faults_read cuts text e p),
)

-- ---- the tree that is kept

pub kept_tree : CutsAreTokens → (text letters : List ℕ) (tokens : List Token) (places : List ℕ) (b : FunctionBlock)
    → length text ≤ 1048576
    → letters ≡ str_to_ascii_lowercase text → tokenization text ≡ Ok (tokens, places) → all_of tokens ≡ Ok (view b)
    → IsSpelled letters b
kept_tree cuts text letters tokens places b small is cut reads = record {
  text = text;
  small = small;
  letters_are = is;
  spelled = record {
    tokens = tokens;
    places = places;
    cut = (cuts.tokens text tokens places).0 cut;
    spells =
        all_spells tokens (view b) reads;
  };
}
