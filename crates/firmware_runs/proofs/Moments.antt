-- When requests are taken where I is 0 throughout.
use Rattle.std.proofs.Common.{◌≡◌, ℕ, false, not, ap}
use Rattle.cpu12_isa.specs.Flags.{has, interrupts_masked}
use Rattle.cpu12_parts.specs.State.{State}
use Rattle.run_law.specs.{Moments.TakenAtOnce, Soundness.Before, Uninterrupted.taken_at}

pub at_moments : {A : Type 0} → TakenAtOnce → (Facts : State → Type 0)
    → ((s : State) → Facts s → has s.regs.ccr interrupts_masked ≡ false) → (flags n : ℕ) (s : State) (moment : A → ℕ)
    → Before Facts flags n s → taken_at flags moment n s ≡ moment
at_moments at_once Facts unmasked flags n s moment holds =
    λ i. λ q. at_once flags n s (moment q) (λ j l. ap not (unmasked _ (holds j l))) i
