-- A sample of a trace with upsets, by its number.
use Rattle.std.proofs.Common.{◌≡◌, ℕ, zero, suc, ◌+◌, List, [], ◌∷◌, length, Some, slice_get, refl, sym, ap, ◌∙◌, arith}
use Rattle.std.proofs.Common.{◌<◌, subst}
use Rattle.std.specs.Prelude.{Option, map}
use Rattle.std.proofs.lemmas.List.{length-map}
use Rattle.interrupt_plan.specs.declared.upsets.Upset.{Upset}
use Rattle.trace_io.specs.{declared.sample.Sample.Sample, Traces.input_bytes}
use Rattle.watched_code.specs.Watched.{Watched}
use Rattle.watched_runs.specs.Samples.{change_in, change_of, changes_from, with_upsets}

-- sample k has its bytes
pub bytes_there : (m : ℕ) (upsets : List Upset) (samples : List (List ℕ)) (k : ℕ) (x : Watched)
    → slice_get (changes_from m upsets samples) k ≡ Some x → slice_get samples k ≡ Some x.bytes
bytes_there m upsets [] k x is = absurd cc
bytes_there m upsets (bytes ∷ rest) zero x is =
    let first : Watched = record { bytes = bytes; change = change_of m upsets } in
    let same : first ≡ x = cc in
    ap (λ (y : Watched). Some y.bytes) same
bytes_there m upsets (bytes ∷ rest) (suc k) x is = bytes_there (suc m) upsets rest k x is

-- and the change of the upset with its number
pub change_there : (m : ℕ) (upsets : List Upset) (samples : List (List ℕ)) (k : ℕ) (x : Watched)
    → slice_get (changes_from m upsets samples) k ≡ Some x → x.change ≡ change_of (k + m) upsets
change_there m upsets [] k x is = absurd cc
change_there m upsets (bytes ∷ rest) zero x is =
    let first : Watched = record { bytes = bytes; change = change_of m upsets } in
    let same : first ≡ x = cc in
    let number : m ≡ 0 + m = omega arith in
    sym (ap (λ (y : Watched). y.change) same) ∙ ap (λ (n : ℕ). change_of n upsets) number
change_there m upsets (bytes ∷ rest) (suc k) x is =
    let number : k + suc m ≡ suc k + m = omega arith in
    change_there (suc m) upsets rest k x is ∙ ap (λ (n : ℕ). change_of n upsets) number

-- there are as many as before
pub length_changes : (m : ℕ) (upsets : List Upset) (samples : List (List ℕ))
    → length (changes_from m upsets samples) ≡ length samples
length_changes m upsets [] = refl
length_changes m upsets (bytes ∷ rest) = ap suc (length_changes (suc m) upsets rest)

pub count_given : (upsets : List Upset) (samples : List Sample)
    → length (with_upsets upsets (map input_bytes samples)) ≡ length samples
count_given upsets samples = length_changes 1 upsets (map input_bytes samples) ∙ length-map samples input_bytes

pub is_of_trace : (upsets : List Upset) (samples : List Sample) (k : ℕ)
    → k < length (with_upsets upsets (map input_bytes samples)) → k < length samples
is_of_trace upsets samples k = subst (λ (n : ℕ). k < n) (count_given upsets samples)

-- what is found by its number is its change
pub found_there : (upsets : List Upset) (samples : List (List ℕ)) (k n : ℕ) (x : Watched) (upset : Option Upset)
    → slice_get (with_upsets upsets samples) k ≡ Some x → n ≡ k + 1 → change_in upset ≡ change_of n upsets
    → change_in upset ≡ x.change
found_there upsets samples k n x upset is number found =
    found ∙ ap (λ (m : ℕ). change_of m upsets) number ∙ sym (change_there 1 upsets samples k x is)
