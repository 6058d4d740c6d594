-- Steps one after another.
use Rattle.std.proofs.Common.{◌≡◌, ℕ, zero, suc, ◌+◌, false, Ok, subst, sym, refl, arith}
use Rattle.cpu12_parts.specs.State.{State}
use Rattle.cpu12_emul.specs.{Step.Next, Step.next_of, Run.is_at_rest, Run.StepsTo, Run.PartsTo}

-- one step more
pub StepsTo-suc : (flags k : ℕ) (s t : State) (next : Next) → StepsTo flags k s t → is_at_rest t ≡ false
    → next_of flags t ≡ Ok next → StepsTo flags (suc k) s next.state
StepsTo-suc flags zero s t next to free e = (
  subst (λ (u : State). is_at_rest u ≡ false) (sym to) free,
  (next, (subst (λ (u : State). next_of flags u ≡ Ok next) (sym to) e, refl)),
)
StepsTo-suc flags (suc k) s t next to free e =
    (to.0, (to.1.0, (to.1.1.0, StepsTo-suc flags k to.1.0.state t next to.1.1.1 free e)))

pub StepsTo-more : (flags k : ℕ) (s t : State) (next : Next) → StepsTo flags k s t → is_at_rest t ≡ false
    → next_of flags t ≡ Ok next → StepsTo flags (k + 1) s next.state
StepsTo-more flags k s t next to free e =
    subst (λ (n : ℕ). StepsTo flags n s next.state) (let n : suc k ≡ k + 1 = omega arith in n)
    (StepsTo-suc flags k s t next to free e)

-- parts, and then further ones
pub PartsTo-append : (P Q : State → Type 0) → ((s : State) → Q s → P s) → (flags n k : ℕ) (s t u : State)
    → PartsTo P flags n s t → PartsTo Q flags k t u → PartsTo P flags (n + k) s u
PartsTo-append P Q by flags zero k s t u to further =
    subst (λ (j : ℕ). PartsTo P flags j s u) (let j : k ≡ 0 + k = omega arith in j)
    (subst (λ (r : State). PartsTo P flags k r u) (sym to) (PartsTo-by P Q by flags k t u further))
  where
    PartsTo-by : (P Q : State → Type 0) → ((s : State) → Q s → P s) → (flags k : ℕ) (t u : State)
        → PartsTo Q flags k t u → PartsTo P flags k t u
    PartsTo-by P Q by flags zero t u to = to
    PartsTo-by P Q by flags (suc k) t u to =
        (to.0, (to.1.0, by to.0 to.1.1, PartsTo-by P Q by flags k to.0 u to.1.2))
PartsTo-append P Q by flags (suc n) k s t u to further =
    subst (λ (j : ℕ). PartsTo P flags j s u) (let j : suc (n + k) ≡ suc n + k = omega arith in j)
    (to.0, (to.1.0, to.1.1, PartsTo-append P Q by flags n k to.0 t u to.1.2 further))
