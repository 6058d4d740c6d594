-- Where the instructions of a list stand.
use Rattle.handler_check.proofs.Words.{[], ◌++◌, ◌+◌, ◌<◌, ◌∙◌, ◌∷◌, ◌≡◌, ◌≤◌, ◌⊎◌, ap, arith, code_bytes, code_end}
use Rattle.handler_check.proofs.Words.{encode_of, FitCode, FitsOperands, get_or, HasCode, inl, inr, Instr, IsAt}
use Rattle.handler_check.proofs.Words.{IsFrom, length, length-append, List, refl, size_of, StandsAt, subst, suc, sym}
use Rattle.handler_check.proofs.Words.{take, zero, ℕ}
use Rattle.handler_check.proofs.Decoding.{size_low}

pub within : (start : ℕ) (is : List Instr) (at : ℕ) (i : Instr) → IsFrom start is at i
    → (start ≤ at) × (at + size_of i ≤ start + length (code_bytes is))
within start [] at i w = absurd w
within start (j ∷ js) at i w = elim w [
  | inl e ↦ (let l = length-append (encode_of j) (code_bytes js) in let s : size_of i ≡ size_of j = ap size_of e.1 in
      (omega (arith, e.0), omega (arith, e.0, l, s)))
  | inr k ↦ (let r = within (start + size_of j) js at i k in let l = length-append (encode_of j) (code_bytes js) in
      (omega (arith, r.0), omega (arith, r.1, l)))
]

pub below_end : (is : List Instr) (at : ℕ) (i : Instr) → IsAt is at i → (16384 ≤ at) × (at < code_end is)
below_end is at i w = let r = within 16384 is at i w in let s = size_low i in (r.0, omega (arith, r.1, s.0))

-- instructions at two places are one, or lie one behind the other
pub apart_places : (start : ℕ) (is : List Instr) (a b : ℕ) (i j : Instr) → IsFrom start is a i → IsFrom start is b j
    → ((a ≡ b) × (i ≡ j)) ⊎ ((a + size_of i ≤ b) ⊎ (b + size_of j ≤ a))
apart_places start [] a b i j v w = absurd v
apart_places start (k ∷ ks) a b i j v w = elim v [
  | inl e ↦ elim w [
    | inl f ↦ inl (e.0 ∙ sym f.0, e.1 ∙ sym f.1)
    | inr l ↦ (let r = within (start + size_of k) ks b j l in let s : size_of i ≡ size_of k = ap size_of e.1 in
        inr (inl (omega (arith, e.0, r.0, s))))
  ]
  | inr l ↦ elim w [
    | inl f ↦ (let r = within (start + size_of k) ks a i l in let s : size_of j ≡ size_of k = ap size_of f.1 in
        inr (inr (omega (arith, f.0, r.0, s))))
    | inr l2 ↦ apart_places (start + size_of k) ks a b i j l l2
  ]
]

pub one_instr : (is : List Instr) (at : ℕ) (i j : Instr) → IsAt is at i → IsAt is at j → j ≡ i
one_instr is at i j v w = elim (apart_places 16384 is at at i j v w) [
  | inl e ↦ sym e.1
  | inr o ↦ absurd (let s = size_low i in let z = size_low j in
      elim o [ inl l ↦ omega (arith, l, s.0) | inr l ↦ omega (arith, l, z.0) ])
]

-- the instructions by their number
is_from-more : (start : ℕ) (is : List Instr) (k : ℕ) (d : Instr) → k < length is
    → IsFrom start is (start + length (code_bytes (take k is))) (get_or is k d)
is_from-more start [] k d l = absurd (omega arith)
is_from-more start (i ∷ is) zero d l = inl (omega arith, refl)
is_from-more start (i ∷ is) (suc k) d l =
    let e : start + size_of i + length (code_bytes (take k is)) ≡ start + length (code_bytes (take (suc k) (i ∷ is))) =
    (let a = length-append (encode_of i) (code_bytes (take k is)) in omega (arith, a)) in
    inr (subst (λ (at : ℕ). IsFrom (start + size_of i) is at (get_or is k d)) e
    (is_from-more (start + size_of i) is k d (omega arith)))

pub is_at-here : (is : List Instr) (k : ℕ) (d : Instr) → k < length is
    → IsAt is (16384 + length (code_bytes (take k is))) (get_or is k d)
is_at-here is k d l = is_from-more 16384 is k d l

bytes-more : (is : List Instr) (k : ℕ) (d : Instr) → k < length is
    → length (code_bytes (take (k + 1) is)) ≡ length (code_bytes (take k is)) + size_of (get_or is k d)
bytes-more [] k d l = absurd (omega arith)
bytes-more (i ∷ is) zero d l = let a = length-append (encode_of i) [] in omega (arith, a)
bytes-more (i ∷ is) (suc k) d l =
    let a = length-append (encode_of i) (code_bytes (take k is)) in
    let b = length-append (encode_of i) (code_bytes (take (k + 1) is)) in
    let r = bytes-more is k d (omega arith) in
    let n : suc k + 1 ≡ suc (k + 1) = omega arith in
    let e : length (code_bytes (take (suc k + 1) (i ∷ is))) ≡ length (code_bytes (take (suc (k + 1)) (i ∷ is))) =
    ap (λ (n : ℕ). length (code_bytes (take n (i ∷ is)))) n in
    omega (arith, a, b, r, e)

bytes-under : (is : List Instr) (k : ℕ) → length (code_bytes (take k is)) ≤ length (code_bytes is)
bytes-under [] zero = omega arith
bytes-under [] (suc k) = omega arith
bytes-under (i ∷ is) zero = omega arith
bytes-under (i ∷ is) (suc k) =
    let a = length-append (encode_of i) (code_bytes (take k is)) in
    let b = length-append (encode_of i) (code_bytes is) in
    let r = bytes-under is k in
    omega (arith, a, b, r)

take-whole : (is : List Instr) → take (length is) is ≡ is
take-whole [] = refl
take-whole (i ∷ is) = ap (λ (l : List Instr). i ∷ l) (take-whole is)

-- i stands at a place, behind k instructions, and behind it there are k + 1
pub record StandsBehind (is : List Instr) (k at : ℕ) (i : Instr) : Type 0 where
  pub here : IsAt is at i
  pub below : at < code_end is
  pub next : at + size_of i ≡ code_end (take (k + 1) is)
  pub ends : at + size_of i ≤ code_end is

-- the next instruction of a list that equals the code's, where one is left
pub stands_behind : (is xs : List Instr) (k at : ℕ) (d : Instr) → xs ≡ is → k < length xs → at ≡ code_end (take k is)
    → StandsBehind is k at (get_or xs k d)
stands_behind is xs k at d same l place =
    subst (λ (ys : List Instr). StandsBehind is k at (get_or ys k d)) (sym same)
    (of (subst (λ (ys : List Instr). k < length ys) same l))
  where
    of : k < length is → StandsBehind is k at (get_or is k d)
    of l =
        let here : IsAt is at (get_or is k d) =
        subst (λ (p : ℕ). IsAt is p (get_or is k d)) (sym place) (is_at-here is k d l) in
        let b = below_end is at (get_or is k d) here in
        let more = bytes-more is k d l in
        let under = bytes-under is (k + 1) in
        record {
          here = here;
          below = b.1;
          next = omega (arith, place, more);
          ends = omega (arith, place, more, under);
        }

-- the place behind all instructions, where none is left
pub code_end-all : (is xs : List Instr) (k at : ℕ) → xs ≡ is → k ≡ length xs → at ≡ code_end (take k is)
    → at ≡ code_end is
code_end-all is xs k at same all place =
    place
    ∙ ap (λ (n : ℕ). code_end (take n is)) (all ∙ ap length same)
    ∙ ap code_end (take-whole is)

-- one instruction more
pub bytes-push : (is : List Instr) (i : Instr) → length (code_bytes (is ++ i ∷ [])) ≡ length (code_bytes is) + size_of i
bytes-push [] i = let a = length-append (encode_of i) [] in omega (arith, a)
bytes-push (j ∷ is) i =
    let a = length-append (encode_of j) (code_bytes is) in
    let b = length-append (encode_of j) (code_bytes (is ++ i ∷ [])) in
    let r = bytes-push is i in
    omega (arith, a, b, r)

pub fits-push : (is : List Instr) (i : Instr) → FitCode is → FitsOperands i → FitCode (is ++ i ∷ [])
fits-push [] i f g = (g, tt)
fits-push (j ∷ is) i f g = (f.0, fits-push is i f.1 g)

from-push : (start : ℕ) (is : List Instr) (i : Instr) (at : ℕ) (j : Instr) → IsFrom start (is ++ i ∷ []) at j
    → IsFrom start is at j ⊎ ((at ≡ start + length (code_bytes is)) × (j ≡ i))
from-push start [] i at j w = elim w [ inl e ↦ inr (omega (arith, e.0), e.1) | inr k ↦ absurd k ]
from-push start (k ∷ is) i at j w = elim w [
  | inl e ↦ inl (inl e)
  | inr r ↦ elim (from-push (start + size_of k) is i at j r) [
    | inl h ↦ inl (inr h)
    | inr h ↦ (let a = length-append (encode_of k) (code_bytes is) in inr (omega (arith, h.0, a), h.1))
  ]
]

pub at-push : (is : List Instr) (i : Instr) (at : ℕ) (j : Instr) → IsAt (is ++ i ∷ []) at j
    → IsAt is at j ⊎ ((at ≡ code_end is) × (j ≡ i))
at-push is i at j w = from-push 16384 is i at j w

from-front : (start : ℕ) (is : List Instr) (i : Instr) (at : ℕ) (j : Instr) → IsFrom start is at j
    → IsFrom start (is ++ i ∷ []) at j
from-front start [] i at j w = absurd w
from-front start (k ∷ is) i at j w = elim w [ inl e ↦ inl e | inr r ↦ inr (from-front (start + size_of k) is i at j r) ]

pub at-front : (is : List Instr) (i : Instr) (at : ℕ) (j : Instr) → IsAt is at j → IsAt (is ++ i ∷ []) at j
at-front is i at j w = from-front 16384 is i at j w

from-last : (start : ℕ) (is : List Instr) (i : Instr) → IsFrom start (is ++ i ∷ []) (start + length (code_bytes is)) i
from-last start [] i = inl (omega arith, refl)
from-last start (k ∷ is) i =
    let a = length-append (encode_of k) (code_bytes is) in
    let e : start + size_of k + length (code_bytes is) ≡ start + length (code_bytes (k ∷ is)) = omega (arith, a) in
    inr (subst (λ (at : ℕ). IsFrom (start + size_of k) (is ++ i ∷ []) at i) e (from-last (start + size_of k) is i))

pub at-last : (is : List Instr) (i : Instr) → IsAt (is ++ i ∷ []) (code_end is) i
at-last is i = from-last 16384 is i

pub code-push : (mem : List ℕ) (is : List Instr) (i : Instr) → HasCode is mem → StandsAt mem (code_end is) i
    → HasCode (is ++ i ∷ []) mem
code-push mem is i h s at j w = elim (at-push is i at j w) [
  | inl k ↦ h at j k
  | inr k ↦ subst (λ (n : ℕ). StandsAt mem n j) (sym k.0) (subst (StandsAt mem (code_end is)) (sym k.1) s)
]
