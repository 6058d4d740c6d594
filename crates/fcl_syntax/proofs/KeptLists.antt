-- Nothing in a clean text is refused, so each list in it is one of the program.
use Rattle.std.proofs.Common.{◌≡◌, ◌⊎◌, inl, inr, List, [], ◌∷◌, map, Some, None, refl}
use Rattle.fcl_syntax.specs.{declared.fault.Kind.Kind, Grammar.each, TokenClasses.Among}
use Rattle.fcl_syntax.specs.Annotations.{IsClean, Sym, or_refused}
use Rattle.std.specs.Prelude.{ℕ}
use Rattle.fcl_syntax.proofs.AnnotatedTexts.{clean_back, clean_front}

-- a tree of the program has this view
abbrev pub HasTree : {A T : Type 0} → (A → T) → T → Type 0
HasTree {A} view t = (a : A) × (view a ≡ t)

pub no_annotation : (k : Kind) → Some k ≡ None → ⊥
no_annotation k h = cc

-- what is refused stands in no clean text
pub accepted : {A : Type 0} (k : Kind) (classes : List ℕ) (text : A → List Sym) (x : Among classes ⊎ A)
    → IsClean (or_refused k classes text x)
    → (a : A) × (inr a ≡ x) × IsClean (text a)
accepted k classes text (inl x) h = absurd (no_annotation k h.0)
accepted k classes text (inr a) h = (a, refl, h)

pub each_tree : {A T : Type 0} (view : A → T) (text : T → List Sym) → ((t : T) → IsClean (text t) → HasTree view t)
    → (ts : List T) → IsClean (each text ts) → HasTree (map view) ts
each_tree view text tree [] h = ([], refl)
each_tree view text tree (t ∷ ts) h =
    let one = tree t (clean_front (text t) (each text ts) h) in
    let rest = each_tree view text tree ts (clean_back (text t) (each text ts) h) in
    (one.0 ∷ rest.0, λ i. one.1 i ∷ rest.1 i)
