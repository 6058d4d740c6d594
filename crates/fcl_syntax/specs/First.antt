-- Which tokens are a text, and which fault is the first.
-- Beside the promise.
use Rattle.std.specs.Prelude.{◌≡◌, Bool, true, false, List, [], ◌∷◌, ◌++◌, length, Option, Some, None, ◌==◌}
use Rattle.fcl_tokens.specs.declared.token.Token.{Token}
use Rattle.fcl_syntax.specs.declared.{fault.Fault.Fault, fault.Kind.Kind}
use Rattle.fcl_syntax.specs.Annotations.{Sym, tokens_of, annotated}
use Rattle.fcl_syntax.specs.declared.fault.Kind.TheVariants.{Expected, Deep, Unsupported}

-- the kinds that stand as annotations in texts
abbrev pub IsAnnotation : Kind → Type 0
IsAnnotation Expected = ⊥
IsAnnotation Deep = Unit {0}
IsAnnotation (Unsupported n) = Unit {0}

-- the annotations of a text of the grammar, which sets no limit to what is open at once
abbrev pub IsPlainAnnotation : Option Kind → Type 0
IsPlainAnnotation None = Unit {0}
IsPlainAnnotation (Some Expected) = ⊥
IsPlainAnnotation (Some Deep) = Unit {0}
IsPlainAnnotation (Some (Unsupported n)) = ⊥

abbrev pub IsPlain : List Sym → Type 0
IsPlain [] = Unit {0}
IsPlain (s ∷ ss) = IsPlainAnnotation s.annotation × IsPlain ss

-- code 12 looks at the token after its place too
abbrev pub looks_on : Kind → Bool
looks_on Expected = false
looks_on Deep = false
looks_on (Unsupported n) = n == 12

abbrev pub SameNext : Bool → List Token → List Token → Type 0
SameNext false a b = Unit {0}
SameNext true (x ∷ a) (y ∷ b) = x ≡ y
SameNext true [] b = ⊥
SameNext true (x ∷ a) [] = ⊥

abbrev pub SameHead : Kind → List Token → List Token → Type 0
SameHead k [] [] = Unit {0}
SameHead k [] (y ∷ b) = ⊥
SameHead k (x ∷ a) [] = ⊥
SameHead k (x ∷ a) (y ∷ b) = (x ≡ y) × SameNext (looks_on k) a b

-- a text with this annotation behind front, which agrees with bad as far as the annotation looks
pub record Shown {T : Type 0} (text : T → List Sym) (k : Kind) (front bad : List Token) : Type 0 where
  pub tree : T
  pub before : List Sym
  pub token : Token
  pub after : List Sym
  pub split : text tree ≡ before ++ annotated k token ∷ after
  pub fronts : tokens_of before ≡ front
  pub same : SameHead k (token ∷ tokens_of after) bad

-- a text of the grammar begins with front
pub record Begins {T : Type 0} (text : T → List Sym) (front : List Token) : Type 0 where
  pub tree : T
  pub more : List Token
  pub plain : IsPlain (text tree)
  pub parts : tokens_of (text tree) ≡ front ++ more

-- no text goes on with the first of bad, or with nothing where bad is empty
abbrev pub NoTextHas : {T : Type 0} → (T → List Sym) → List Token → List Token → Type 0
NoTextHas text front [] = (t : _) → IsPlain (text t) → front ≡ tokens_of (text t) → ⊥
NoTextHas text front (x ∷ bad) = Begins text (front ++ x ∷ []) → ⊥

abbrev pub NoAnnotation : {T : Type 0} → (T → List Sym) → List Token → List Token → Type 0
NoAnnotation text front bad = (k : Kind) → IsAnnotation k → Shown text k front bad → ⊥

-- the kind of fault at a place, Deep before Unsupported before Expected
abbrev pub Here : {T : Type 0} → (T → List Sym) → Kind → List Token → List Token → Type 0
Here text Expected front bad = NoTextHas text front bad × NoAnnotation text front bad
Here text Deep front bad = Shown text Deep front bad
Here text (Unsupported n) front bad = Shown text (Unsupported n) front bad × (Shown text Deep front bad → ⊥)

pub record FirstFault {T : Type 0} (text : T → List Sym) (ts : List Token) (e : Fault) : Type 0 where
  pub front : List Token
  pub bad : List Token
  pub parts : ts ≡ front ++ bad
  pub left : e.left ≡ length bad
  pub viable : Begins text front
  pub here : Here text e.kind front bad
  pub before : (f b : List Token) (y : Token) (g : List Token) → front ≡ f ++ y ∷ g → b ≡ y ∷ (g ++ bad)
      → NoAnnotation text f b
