-- A condition's part, by what comes next.
use Rattle.std.proofs.Common.{◌≡◌, ◌≢◌, ℕ, zero, suc, ◌-◌, ◌<◌, true, false, List, [], ◌∷◌, ◌++◌, length, Result, Ok}
use Rattle.std.proofs.Common.{Err, refl, sym, arith}
use Rattle.fcl_tokens.specs.declared.{token.Keyword.Keyword, token.Token.Token}
use Rattle.fcl_syntax.specs.declared.{fault.Fault.Fault, fault.Kind.TheVariants.Deep, fault.ParseError.ParseError}
use Rattle.fcl_syntax.specs.declared.fault.ParseError.TheVariants as errors
use Rattle.fcl_syntax.specs.TokenClasses.{keyword_class, opener_classes}
use Rattle.fcl_syntax.specs.Readers.{FailsAs, Read, TakesSome, starts, fault_at}
use Rattle.fcl_syntax.specs.Reading.{behind_key_in, key_at, not_at, opened_in, operand_at}
use Rattle.fcl_syntax.proofs.Run.{Going, goes_on, fails_in}

pub not_at-leaf : (n : ℕ) (ts : List Token) → starts opener_classes ts ≡ false → not_at n ts ≡ operand_at ts
unfolding not_at
not_at-leaf zero ts h = rw h refl
not_at-leaf (suc n) ts h = rw h refl

pub not_at-deep : (n : ℕ) (ts : List Token) → n ≡ 0 → starts opener_classes ts ≡ true
    → not_at n ts ≡ Err (fault_at Deep (length ts))
unfolding not_at
not_at-deep zero ts z h = rw h refl
not_at-deep (suc n) ts z h = absurd (omega arith)

pub not_at-opened : (n : ℕ) (ts : List Token) → n ≢ 0 → starts opener_classes ts ≡ true
    → not_at n ts ≡ opened_in (not_at (n - 1)) ts
unfolding not_at
not_at-opened zero ts z h = absurd (z refl)
not_at-opened (suc n) ts z h = let e : suc n - 1 ≡ n = omega arith in rw (h, e) refl

-- a loop of parts behind a keyword, where it is next
module _ {A : Type 0} (k : Keyword) (inner : List Token → Read A) (ts : List Token) {at : ℕ} {after : List Token}
    (found : key_at k ts ≡ Ok (at, after)) where
  read_ok : (a : A) (rest : List Token) → inner after ≡ Ok (a, rest) → behind_key_in k inner ts ≡ Ok ((at, a), rest)
  unfolding behind_key_in
  read_ok a rest h = rw (found, h) refl

  read_err : (e : ParseError) → FailsAs e (inner after) → FailsAs e (behind_key_in k inner ts)
  unfolding behind_key_in
  read_err errors.Memory h = tt
  read_err (errors.Fault f) h = rw (found, h) refl

  module _ (begins : true ≡ starts (keyword_class k ∷ []) ts) {front : List (ℕ × A)}
      {total : Result (List (ℕ × A) × List Token) Fault}
      (going : Going (keyword_class k ∷ []) (behind_key_in k inner) front ts total) where
    pub behind_key-goes_on : {a : A} {rest : List Token} → inner after ≡ Ok (a, rest) → length rest < length ts
        → Going (keyword_class k ∷ []) (behind_key_in k inner) (front ++ (at, a) ∷ []) rest total
    behind_key-goes_on {a} {rest} h shorter =
        goes_on (keyword_class k ∷ []) (behind_key_in k inner) front ts (at, a) rest total (sym begins)
        (read_ok a rest h) shorter going

    pub behind_key-fails : (e : ParseError) → FailsAs e (inner after) → FailsAs e total
    behind_key-fails e h =
        fails_in (keyword_class k ∷ []) (behind_key_in k inner) front ts e total (sym begins) (read_err e h) going

  pub behind_key-shorter : TakesSome (behind_key_in k inner) → {a : A} {rest : List Token} → inner after ≡ Ok (a, rest)
      → length rest < length ts
  behind_key-shorter some {a} {rest} h = some.shrinks ts (at, a) rest (read_ok a rest h)
