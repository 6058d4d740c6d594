-- What reads a list of tokens from the left, and how such are put together. No public clause cites it.
-- Beside the promise.
use Rattle.std.specs.Prelude.{◌≡◌, ℕ, zero, suc, Bool, true, false, List, [], ◌∷◌, length, Option, Some, None, Result}
use Rattle.std.specs.Prelude.{Ok, Err, ◌<◌}
use Rattle.fcl_tokens.specs.declared.token.Token.{Token}
use Rattle.fcl_syntax.specs.declared.{fault.Fault.Fault, fault.Kind.Kind, fault.Kind.TheVariants.Expected}
use Rattle.fcl_syntax.specs.declared.fault.ParseError.{ParseError}
use Rattle.fcl_syntax.specs.declared.fault.ParseError.TheVariants as errors
use Rattle.fcl_syntax.specs.{TokenClasses.class_of, TokenClasses.mem}

infixl 10 ◌>>=◌
abbrev pub ◌>>=◌ : {A B : Type 0} → Result A Fault → (A → Result B Fault) → Result B Fault
(Ok x) >>= f = f x
(Err e) >>= f = Err e

-- What a function returned, seen by view, is what reading gives, unless memory ran out.
abbrev pub FailsAs : {Y : Type 0} → ParseError → Result Y Fault → Type 0
FailsAs errors.Memory read = Unit {0}
FailsAs (errors.Fault f) read = read ≡ Err f

abbrev pub Gives : {X Y : Type 0} → (X → Y) → Result X ParseError → Result Y Fault → Type 0
Gives view (Ok x) read = read ≡ Ok (view x)
Gives view (Err e) read = FailsAs e read

abbrev pub fault_at : Kind → ℕ → Fault
fault_at k n = record { kind = k; left = n }

abbrev pub starts : List ℕ → List Token → Bool
starts first [] = false
starts first (x ∷ xs) = mem (class_of x) first

-- the first token, where it is one that is wanted
abbrev pub found : {A : Type 0} → Option A → List Token → List Token → Result (A × List Token) Fault
found None all rest = Err (fault_at Expected (length all))
found (Some a) all rest = Ok (a, rest)

abbrev pub one_at : {A : Type 0} → (Token → Option A) → List Token → Result (A × List Token) Fault
one_at want [] = Err (fault_at Expected 0)
one_at want (x ∷ xs) = found (want x) (x ∷ xs) xs

-- one more in front
abbrev pub with_front : {A : Type 0} → A → Result (List A × List Token) Fault → Result (List A × List Token) Fault
with_front a r = r >>= λ x. Ok (a ∷ x.0, x.1)

abbrev pub turn : {A : Type 0} → Bool → Result (List A × List Token) Fault → List Token
    → Result (List A × List Token) Fault
turn true r ts = r
turn false r ts = Ok ([], ts)

abbrev pub Read : Type 0 → Type 0
Read A = Result (A × List Token) Fault

abbrev pub expected : {A : Type 0} → List Token → Read A
expected ts = Err (fault_at Expected (length ts))

-- what was left of a token that may stand: what is behind it where it was read, and all where it does not stand
abbrev pub Tries : {A : Type 0} → Option A → List Token → List Token → Read A → Type 0
Tries None old new read = (read ≡ expected old) × (new ≡ old)
Tries (Some a) old new read = read ≡ Ok (a, new)

abbrev pub cond_read : {A : Type 0} → Bool → A → A → A
cond_read true a b = a
cond_read false a b = b

-- whether one stood where one may stand
abbrev pub has_one : {X : Type 0} → Result (Option X) ParseError → Bool
has_one (Ok None) = false
has_one _ = true

-- what was read there, and nothing where none stands
abbrev pub GivesOne : {X A : Type 0} → (X → A) → (List Token → Read A) → Result (Option X) ParseError → List Token
    → List Token → Type 0
GivesOne view read (Ok None) old new = new ≡ old
GivesOne view read (Ok (Some x)) old new = read old ≡ Ok (view x, new)
GivesOne view read (Err e) old new = FailsAs e (read old)

-- a tree, and then nothing
abbrev pub ended : {T : Type 0} → T × List Token → Result T Fault
ended (t, []) = Ok t
ended (t, x ∷ rest) = Err (fault_at Expected (suc (length rest)))

-- as long as the rest starts with one of these, at most n times
abbrev pub loop : {A : Type 0} → List ℕ → (List Token → Result (A × List Token) Fault) → ℕ → List Token
    → Result (List A × List Token) Fault
loop first read zero ts = Ok ([], ts)
loop first read (suc n) ts = turn (starts first ts) (read ts >>= λ a. with_front a.0 (loop first read n a.1)) ts

-- as many as there are
abbrev pub many_at : {A : Type 0} → List ℕ → (List Token → Read A) → List Token → Read (List A)
many_at first read ts = loop first read (length ts) ts

-- what is read has at least one token
pub record TakesSome {A : Type 0} (read : List Token → Read A) : Type 0 where
  pub shrinks : (ts : List Token) (a : A) (rest : List Token) → read ts ≡ Ok (a, rest) → length rest < length ts
