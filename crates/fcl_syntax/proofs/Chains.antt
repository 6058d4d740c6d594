-- Readers in a row, as the parser has them and as a sequence of parsers has them.
use Rattle.std.proofs.Common.{◌≡◌, Bool, true, false, List, Result, Ok, Err, refl}
use Rattle.fcl_tokens.specs.declared.token.Token.{Token}
use Rattle.fcl_syntax.specs.declared.fault.Fault.{Fault}
use Rattle.fcl_syntax.specs.Readers.{◌>>=◌, cond_read}

pub bind_assoc : {A B C : Type 0} (r : Result A Fault) (f : A → Result B Fault) (g : B → Result C Fault)
    → ((r >>= f) >>= g) ≡ (r >>= λ x. f x >>= g)
bind_assoc (Ok x) f g = refl
bind_assoc (Err e) f g = refl

pub bind_ret : {A : Type 0} (r : Result (A × List Token) Fault) → (r >>= λ x. Ok (x.0, x.1)) ≡ r
bind_ret (Ok x) = refl
bind_ret (Err e) = refl

pub bind_cond : {A B : Type 0} (b : Bool) (p q : Result A Fault) (f : A → Result B Fault)
    → (cond_read b p q >>= f) ≡ cond_read b (p >>= f) (q >>= f)
bind_cond true p q f = refl
bind_cond false p q f = refl
