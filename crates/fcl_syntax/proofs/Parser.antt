-- A parser of the grammar: its texts, its reader, and what holds of both.
use Rattle.std.specs.Prelude.{◌≡◌, ℕ, suc, ◌+◌, Bool, true, false, List, [], ◌∷◌, ◌++◌, length, Option, Some, None}
use Rattle.std.specs.Prelude.{Result, Ok, Err, if◌then◌else◌}
use Rattle.fcl_tokens.specs.declared.token.Token.{Token}
use Rattle.fcl_syntax.specs.declared.{fault.Fault.Fault, fault.Kind.Kind}
use Rattle.fcl_syntax.specs.declared.fault.Kind.TheVariants.{Expected, Deep, Unsupported}
use Rattle.fcl_syntax.specs.{TokenClasses.class_of, TokenClasses.mem, First.SameHead, First.Shown, Readers.fault_at}
use Rattle.fcl_syntax.specs.Annotations.{Sym, tokens_of, IsClean}

abbrev pub disjoint : List ℕ → List ℕ → Bool
disjoint [] ys = true
disjoint (x ∷ xs) ys = if mem x ys then false else disjoint xs ys

-- the rest does not go on with one of these
abbrev pub Stops : List ℕ → List Token → Type 0
Stops goes [] = Unit {0}
Stops goes (x ∷ xs) = mem (class_of x) goes ≡ false

abbrev pub Starts : List ℕ → List Token → Type 0
Starts first [] = ⊥
Starts first (x ∷ xs) = mem (class_of x) first ≡ true

abbrev pub annotation_at : Option Kind → ℕ → Option Fault → Option Fault
annotation_at None left next = next
annotation_at (Some k) left next = Some (fault_at k left)

-- the first annotation of a text, before n more tokens
abbrev pub first_annotation : List Sym → ℕ → Option Fault
first_annotation [] n = None
first_annotation (s ∷ ss) n = annotation_at s.annotation (suc (length ss + n)) (first_annotation ss n)

abbrev pub or_else : Option Fault → Option Fault → Option Fault
or_else None o = o
or_else (Some e) o = Some e

abbrev pub answer : {T : Type 0} → Option Fault → T → List Token → Result (T × List Token) Fault
answer None t rest = Ok (t, rest)
answer (Some e) t rest = Err e

-- the text of a tree stands in front of the rest, has no annotation, and the rest does not go on
pub record Stands {T : Type 0} (text : T → List Sym) (goes : List ℕ) (ts : List Token) (t : T)
    (rest : List Token) : Type 0 where
  pub parts : ts ≡ tokens_of (text t) ++ rest
  pub clean : IsClean (text t)
  pub stops : Stops goes rest

-- a text of the grammar begins with front
pub record Viable {T : Type 0} (text : T → List Sym) (front : List Token) : Type 0 where
  pub tree : T
  pub more : List Token
  pub clean : IsClean (text tree)
  pub parts : tokens_of (text tree) ≡ front ++ more

abbrev pub Shows : {T : Type 0} → (T → List Sym) → Kind → List Token → List Token → Type 0
Shows text Expected front bad = Unit {0}
Shows text Deep front bad = Shown text Deep front bad
Shows text (Unsupported n) front bad = Shown text (Unsupported n) front bad

pub record Fails {T : Type 0} (text : T → List Sym) (read : List Token → Result (T × List Token) Fault)
    (ts : List Token) (e : Fault) : Type 0 where
  pub front : List Token
  pub bad : List Token
  pub parts : ts ≡ front ++ bad
  pub left : e.left ≡ length bad
  pub viable : Viable text front
  pub shows : Shows text e.kind front bad
  pub local : (b : List Token) → SameHead e.kind bad b → read (front ++ b) ≡ Err (fault_at e.kind (length b))

pub record Parser (T : Type 0) : Type 0 where
  pub text : T → List Sym
  pub read : List Token → Result (T × List Token) Fault
  pub first : List ℕ
  pub goes : List ℕ
  pub some : T
  pub some_clean : IsClean (text some)
  pub begins : (t : T) (rest : List Token) → Starts first (tokens_of (text t) ++ rest)
  pub stands : (ts : List Token) (t : T) (rest : List Token) → read ts ≡ Ok (t, rest) → Stands text goes ts t rest
  pub again : (t : T) (rest : List Token) → Stops goes rest
      → read (tokens_of (text t) ++ rest) ≡ answer (first_annotation (text t) (length rest)) t rest
  pub fails : (ts : List Token) (e : Fault) → read ts ≡ Err e → Fails text read ts e
