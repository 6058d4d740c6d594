-- Texts whose tokens are annotated: where something is refused, the annotation says what.
-- Reached by the promise.
use Rattle.std.specs.Prelude.{◌≡◌, ℕ, List, [], ◌∷◌, Option, Some, None, ◌⊎◌}
use Rattle.std.proofs.Common.{inl, inr}
use Rattle.fcl_tokens.specs.declared.token.Token.{Token}
use Rattle.fcl_syntax.specs.{declared.fault.Kind.Kind, TokenClasses.Among}

-- a token of a text, and what is wrong with it, if anything is
pub record Sym : Type 0 where
  pub token : Token
  pub annotation : Option Kind

abbrev pub tokens_of : List Sym → List Token
tokens_of [] = []
tokens_of (s ∷ ss) = s.token ∷ tokens_of ss

abbrev pub IsClean : List Sym → Type 0
IsClean [] = Unit {0}
IsClean (s ∷ ss) = (s.annotation ≡ None) × IsClean ss

-- a token without an annotation
abbrev pub plain : Token → Sym
plain x = record { token = x; annotation = None }

abbrev pub annotated : Kind → Token → Sym
annotated k x = record { token = x; annotation = Some k }

-- one of two texts
abbrev pub either_text : {A B : Type 0} → (A → List Sym) → (B → List Sym) → A ⊎ B → List Sym
either_text f g (inl a) = f a
either_text f g (inr b) = g b

-- a token of these classes that is refused where a text stands
abbrev pub refused_text : {classes : List ℕ} → Kind → Among classes → List Sym
refused_text k x = annotated k x.token ∷ []

abbrev pub or_refused : {A : Type 0} (k : Kind) (classes : List ℕ) → (A → List Sym) → Among classes ⊎ A → List Sym
or_refused k classes text = either_text (refused_text k) text

-- the tokens are the text of this tree, and nothing in it is refused
pub record Spells {T : Type 0} (text : T → List Sym) (ts : List Token) (t : T) : Type 0 where
  pub parts : ts ≡ tokens_of (text t)
  pub clean : IsClean (text t)
