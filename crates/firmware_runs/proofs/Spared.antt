-- What no part of REV or REVW writes.
use Rattle.std.proofs.Common.{◌≡◌, ◌==◌, ◌||◌, ℕ, ◌<◌, ◌≤◌, nat_le, Bool, true, false, List, [], ◌∷◌, refl, arith}
use Rattle.std.proofs.lemmas.Bool.{Decides.nat_tests, or_parts}
use Rattle.cpu12_isa.specs.{Agreement.AllShown, Regions.stack_end}
use Rattle.cpu12_parts.specs.{Rules.NotIn, Rules.AreApart, Touching.Each}

is_among : List ℕ → ℕ → Bool
is_among [] k = false
is_among (at ∷ ats) k = (at == k) || is_among ats k

not_among : (k : ℕ) (ats : List ℕ) → NotIn k ats → is_among ats k ≡ false
unfolding is_among
not_among k [] h = refl
not_among k (at ∷ ats) h =
    (let ne = h.0 in let e : (at == k) ≡ false = grind (arith, nat_tests) in let r = not_among k ats h.1 in
    rw (e, r) refl)

or_right : (a b : Bool) → b ≡ true → (a || b) ≡ true
or_right true b h = refl
or_right false b h = h

-- what is hidden, from the stack's end on, and the instruction's own bytes
pub is_spared : (ℕ → Bool) → List ℕ → ℕ → Bool
is_spared h own at = h at || (nat_le stack_end at || is_among own at)

pub own_spared : (h : ℕ → Bool) (own : List ℕ) → Each (λ at. is_spared h own at ≡ true) own
unfolding is_spared is_among
own_spared h own = all own (λ at e. e)
  where
    all : (ats : List ℕ) → ((at : ℕ) → is_among ats at ≡ true → is_among own at ≡ true)
        → Each (λ at. is_spared h own at ≡ true) ats
    all [] f = tt
    all (at ∷ ats) f =
        let e : (at == at) ≡ true = grind (arith, nat_tests) in (
          or_right (h at) (nat_le stack_end at || is_among own at)
              (or_right (nat_le stack_end at) (is_among own at) (f at (rw e refl))),
          all ats (λ k e. f k (or_right (at == k) (is_among ats k) e)),
        )

pub above_spared : (h : ℕ → Bool) (own : List ℕ) (at : ℕ) → stack_end ≤ at → is_spared h own at ≡ true
unfolding is_spared
above_spared h own at le =
    let e : nat_le stack_end at ≡ true = grind (arith, nat_tests) in
    or_right (h at) (nat_le stack_end at || is_among own at) (rw e refl)

pub spared_shown : (h : ℕ → Bool) (own : List ℕ) (at : ℕ) → is_spared h own at ≡ false → h at ≡ false
unfolding is_spared
spared_shown h own at e = (or_parts (h at) (nat_le stack_end at || is_among own at) e).0

pub none_spared : (h : ℕ → Bool) (own ats : List ℕ) → AllShown h ats → Each (λ at. at < stack_end) ats
    → AreApart ats own → Each (λ at. is_spared h own at ≡ false) ats
unfolding is_spared
none_spared h own [] a b c = tt
none_spared h own (at ∷ ats) a b c = (
  one (h at) (nat_le stack_end at) (is_among own at) a.0 low (not_among at own c.0),
  none_spared h own ats a.1 b.1 c.1,
)
  where
    low : nat_le stack_end at ≡ false
    low = (let l = b.0 in grind (arith, nat_tests))

    one : (x y z : Bool) → x ≡ false → y ≡ false → z ≡ false → (x || (y || z)) ≡ false
    one x y z p q r = rw (p, q, r) refl
