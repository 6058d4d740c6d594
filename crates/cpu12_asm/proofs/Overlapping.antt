-- Whether bytes stand where others do.
use Rattle.std.proofs.Common.{◌≡◌, ℕ, zero, suc, ◌+◌, ◌^◌, ◌<◌, ◌≤◌, ◌||◌, nat_lt, Ok, Err, Bool, true, false, List, []}
use Rattle.std.proofs.Common.{◌∷◌, ◌++◌, length, Option, Some, None, IsSome, is_some, refl, sym, ap, ◌∙◌, subst, arith}
use Rattle.std.proofs.lemmas.Bool.Decides.{nat_tests}
use Rattle.std.specs.List.{list_any}
use Rattle.cpu12_asm.specs.{Bytes.byte_at, Bytes.IsGivenOnce, Bytes.placed, Giving.Given, Giving.put}
use Rattle.cpu12_asm.specs.declared.faults.LineFault.TheVariants.{Overlap}
use Rattle.cpu12_asm.proofs.Placing.{is_same, is_same-comm, none_in_cond, or_else, byte_at-append}

second_none : (a b : Option ℕ) → or_else a b ≡ None → b ≡ None
second_none None b h = h
second_none (Some x) b h = absurd (cc)

none_found : (later : List (ℕ × ℕ)) → list_any (λ b. is_some (byte_at [] b.0)) later ≡ false
none_found [] = refl
none_found (b ∷ later) = none_found later

not_at : (x : ℕ × ℕ) (given later : List (ℕ × ℕ)) → byte_at later x.0 ≡ None
    → list_any (λ b. is_some (byte_at (x ∷ given) b.0)) later ≡ list_any (λ b. is_some (byte_at given b.0)) later
not_at x given [] h = refl
not_at x given (b ∷ later) h =
    let parts = none_in_cond (is_same x.0 b.0) b.1 (byte_at later x.0) h in
    let other : is_same b.0 x.0 ≡ false = is_same-comm b.0 x.0 ∙ parts.0 in
    let rest = not_at x given later parts.1 in
    rw (other, rest) refl

-- bytes that are given once stand where no others do
pub list_any-apart : (given later : List (ℕ × ℕ)) → IsGivenOnce (given ++ later)
    → list_any (λ b. is_some (byte_at given b.0)) later ≡ false
list_any-apart [] later h = none_found later
list_any-apart (x ∷ given) later h =
    not_at x given later
    (second_none (byte_at given x.0) (byte_at later x.0) (sym (byte_at-append x.0 given later) ∙ h.0))
    ∙ list_any-apart given later h.1

or_true : (b : Bool) → (b || true) ≡ true
or_true true = refl
or_true false = refl

-- a byte that stands where another does
pub list_any-taken : (given : List (ℕ × ℕ)) (at : ℕ) (bytes : List ℕ) (k : ℕ) → k < length bytes
    → IsSome (byte_at given (at + k)) → list_any (λ b. is_some (byte_at given b.0)) (placed at bytes) ≡ true
list_any-taken given at [] k l some = absurd (omega arith)
list_any-taken given at (v ∷ bytes) zero l some =
    let here : at + 0 ≡ at = omega arith in
    let found : is_some (byte_at given at) ≡ true = subst (λ (p : ℕ). is_some (byte_at given p) ≡ true) here some in
    rw found refl
list_any-taken given at (v ∷ bytes) (suc k) l some =
    let there : at + suc k ≡ at + 1 + k = omega arith in
    let found : IsSome (byte_at given (at + 1 + k)) = subst (λ (p : ℕ). IsSome (byte_at given p)) there some in
    let rest = list_any-taken given (at + 1) bytes k (omega arith) found in
    ap (λ (b : Bool). is_some (byte_at given at) || b) rest ∙ or_true (is_some (byte_at given at))

-- bytes that can be put, and bytes that stand where others do
pub put-good : (g : Given) (far : Bool) (bytes : List ℕ) (behind : ℕ) → behind ≡ g.place + length bytes
    → behind ≤ 2 ^ 16 → far ≡ false → IsGivenOnce (g.bytes ++ placed g.place bytes)
    → put g far bytes ≡ Ok (record { place = behind; bytes = g.bytes ++ placed g.place bytes })
put-good g far bytes behind e l near once =
    let inside : nat_lt 65536 (g.place + length bytes) ≡ false = grind (arith, nat_tests) in
    let apart = list_any-apart g.bytes (placed g.place bytes) once in
    rw (inside, near, apart, e) refl

pub put-taken : (g : Given) (far : Bool) (bytes : List ℕ) (k : ℕ) → g.place + length bytes ≤ 2 ^ 16 → far ≡ false
    → k < length bytes → IsSome (byte_at g.bytes (g.place + k)) → put g far bytes ≡ Err Overlap
put-taken g far bytes k l near within some =
    let inside : nat_lt 65536 (g.place + length bytes) ≡ false = grind (arith, nat_tests) in
    let taken = list_any-taken g.bytes g.place bytes k within some in
    rw (inside, near, taken) refl
