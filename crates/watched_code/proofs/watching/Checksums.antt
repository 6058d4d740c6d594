-- One changed byte changes the sum; two may not.
use Rattle.watched_code.proofs.Words.{[], ◌%◌, ◌+◌, ◌-◌, ◌<◌, ◌^◌, ◌∷◌, ◌≡◌, ◌≢◌, All-cons, All-nil, arith}
use Rattle.watched_code.proofs.Words.{check_byte, get_or, refl, set, sum, ℕ}
use Rattle.std.proofs.lemmas.List.Sums.{sum_by-set}
use Rattle.watched_code.specs.Checksums.{OneChangeIsSeen, TwoChangesMayPass, TwoChangesUnseen, UnchangedSumIsZero}

zero_mod : (n : ℕ) → (n + (256 - n % 256) % 256) % 256 ≡ 0
zero_mod n = omega arith

pub unchanged_sum_is_zero : UnchangedSumIsZero
unchanged_sum_is_zero bytes = zero_mod (sum bytes)

-- a sum that was 0 is not, where a byte of it is another
pub other_sum : (n m k a v : ℕ) → (n + k) % 256 ≡ 0 → m + a ≡ n + v → a < 256 → v < 256 → v ≢ a → (m + k) % 256 ≢ 0
other_sum n m k a v zero e la lv ne z = ne (omega arith)

pub one_change_is_seen : OneChangeIsSeen
one_change_is_seen bytes at value fit lt small other =
    let kept = sum_by-set (λ (x : ℕ). x) bytes at value 0 lt in
    other_sum (sum bytes) (sum (set bytes at value)) (check_byte bytes) (get_or bytes at 0) value
    (unchanged_sum_is_zero bytes) kept (fit at 0 lt) small other

two : TwoChangesUnseen (1 ∷ 2 ∷ []) 0 1 2 1
two = record {
  fit = All-cons (λ (v : ℕ). v < 2 ^ 8) 1 (2 ∷ []) (omega arith)
      (All-cons (λ (v : ℕ). v < 2 ^ 8) 2 [] (omega arith) (All-nil (λ (v : ℕ). v < 2 ^ 8)));
  first_in = omega arith;
  second_in = omega arith;
  apart = λ e. omega arith;
  first_fits = omega arith;
  second_fits = omega arith;
  first_other = λ e. omega arith;
  second_other = λ e. omega arith;
  unseen = refl;
}

pub two_changes_may_pass : TwoChangesMayPass
two_changes_may_pass = (1 ∷ 2 ∷ [], 0, 1, 2, 1, two)
