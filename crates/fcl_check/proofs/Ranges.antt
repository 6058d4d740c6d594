-- Ranges of written numbers: what lies in them, and that they are in scale.
use Rattle.fcl_check.proofs.Words.{[], ◌++◌, ◌+◌, ◌<ℤ◌, ◌<◌, ◌∙◌, ◌∷◌, ◌≡◌, ◌≤ℤ◌, abscissas, AllByRecursion, ap}
use Rattle.fcl_check.proofs.Words.{append-nil, arith, at_drop_more, at_if, block_text, cond, cons_option}
use Rattle.fcl_check.proofs.Words.{Dec, Defuzzify, DefuzzyLine, drop, Ends, ends_of, extended}
use Rattle.fcl_check.proofs.Words.{fallback_number, FallbackValue, false, filter_map, flat_map, Fuzzify, fuzzy_range}
use Rattle.fcl_check.proofs.Words.{FuzzyLine, get_or, given_or, hull_of, input_range, int_eq, ints}
use Rattle.fcl_check.proofs.Words.{is_empty_range, IsInScale, length, lies_in, List, map, map-append, None, not}
use Rattle.fcl_check.proofs.Words.{number_line, Option, option_map, output_hull, output_numbers, Point, points_of}
use Rattle.fcl_check.proofs.Words.{pos, Range, reach, refl, SignedNumber, Singleton, singleton_of, Some, subst, sym}
use Rattle.fcl_check.proofs.Words.{take, Term, term_of, terms_of, Token, true, value, widened, x_of, ℕ, ℤ}
use Rattle.std.proofs.{lemmas.Int.clamps}
use Rattle.std.specs.{Prelude.neg_ℤ, Prelude.◌+ℤ◌, Int.int_min, Int.int_max}
use Rattle.fcl_tokens.specs.Scale.{IsTokenInScale}
use Rattle.fcl_tokens.specs.declared.token.Amount.TheVariants as amount
use Rattle.fcl_tokens.specs.declared.token.Token.TheVariants as tok
use Rattle.fcl_syntax.specs.{Annotations.tokens_of, Scale.NumbersInScale}
use Rattle.fcl_check.specs.{Sections.to_scale, Sections.magnitude, Kept.IsKept, Kept.NumbersAreKept}
use Rattle.fcl_syntax.specs.declared.tree.FuzzyLine.TheVariants as fuzzy
use Rattle.fcl_syntax.specs.declared.tree.DefuzzyLine.TheVariants as defuzzy
use Rattle.fcl_syntax.specs.declared.tree.FallbackValue.TheVariants as fallback
use Rattle.fcl_syntax.specs.declared.tree.SignedNumber.TheVariants as signed
use Rattle.fcl_check.proofs.{Places.map-cons_option, Elements.all_weaker, Elements.filter_map-next}
use Rattle.fcl_check.proofs.{Faultless.no_place, Faultless.nowhere}

-- ---- The reach of numbers, from the reach of those before.

reach-append : (e : Ends) (points rest : List Point)
    → reach e (map x_of (points ++ rest)) ≡ reach (reach e (map x_of points)) (map x_of rest)
reach-append e [] rest = refl
reach-append e (p ∷ points) rest = reach-append (int_min e.0 (x_of p), int_max e.1 (x_of p)) points rest

-- one term more
pub extended_term : (hull : Option Ends) (t : Term) (rest : List Point)
    → extended hull (map x_of (points_of t ++ rest)) ≡ extended
    (extended hull (map x_of (points_of t))) (map x_of rest)
extended_term None t rest = ap Some (reach-append (x_of t.first, x_of t.first) t.more rest)
extended_term (Some e) t rest = ap Some (reach-append e (points_of t) rest)

abbrev pub numbers_of : List FuzzyLine → List ℤ
numbers_of lines = map x_of (flat_map points_of (filter_map term_of lines))

-- a line more that is a term
pub hull_term : (hull : Option Ends) (e : Ends) (lines : List FuzzyLine) (i : ℕ) (line : FuzzyLine) (t : Term)
    → i < length lines → line ≡ get_or lines i line
    → line ≡ fuzzy.Term t → Some e ≡ extended hull (map x_of (points_of t))
    → extended (Some e) (numbers_of (drop (i + 1) lines)) ≡ extended hull (numbers_of (drop i lines))
hull_term hull e lines i line t h same is here =
    let rest = drop (i + 1) lines in
    let step : numbers_of (drop i lines) ≡ numbers_of (fuzzy.Term t ∷ rest) =
    at_drop_more numbers_of lines i line h ∙ ap (λ (l : FuzzyLine). numbers_of (l ∷ rest)) (sym same ∙ is) in
    ap (λ (o : Option Ends). extended o (numbers_of rest)) here
    ∙ sym (extended_term hull t (flat_map points_of (filter_map term_of rest)))
    ∙ ap (extended hull) (sym step)

-- ---- The scale changes no number of a text.

in_scale : (z : ℤ) → neg_ℤ (pos 1000000000) ≤ℤ z → z ≤ℤ pos 1000000000 → to_scale z ≡ z
in_scale z low high = omega (arith, ints, clamps, low, high)

token_kept : (t : Token) → IsTokenInScale t → IsKept t
token_kept (tok.Word at k) h = tt
token_kept (tok.Name at w) h = tt
token_kept (tok.Number at amount.Zero whole) h = (omega (arith, ints, clamps), omega (arith, ints, clamps))
token_kept (tok.Number at amount.One whole) h = (omega (arith, ints, clamps), omega (arith, ints, clamps))
token_kept (tok.Number at (amount.Other d) whole) h = (
  in_scale d.0 h.0 h.1,
  in_scale (neg_ℤ d.0) (let top = h.1 in omega (arith, ints, top)) (let bottom = h.0 in omega (arith, ints, bottom)),
)
token_kept (tok.Open at) h = tt
token_kept tok.Close h = tt
token_kept tok.Assign h = tt
token_kept tok.To h = tt
token_kept tok.Colon h = tt
token_kept tok.Semicolon h = tt
token_kept tok.Comma h = tt
token_kept tok.Plus h = tt
token_kept tok.Minus h = tt

pub all_kept : NumbersInScale → NumbersAreKept
all_kept scale text t spelled k d within =
    token_kept (get_or (tokens_of (block_text t)) k d) (scale text t spelled k d within)

-- ---- Ranges of written numbers are in scale.

pub record AreInScale (e : Ends) : Type 0 where
  pub lo : IsInScale e.0
  pub hi : IsInScale e.1

pub IsInScale-between : (e : Ends) (z : ℤ) → AreInScale e → (e.0 ≤ℤ z) × (z ≤ℤ e.1) → IsInScale z
IsInScale-between e z h inside =
    record {
      low = (let from = h.lo.low in omega (arith, ints, inside.0));
      high =
          (let to = h.hi.high in omega (arith, ints, inside.1));
    }

IsInScale-to_scale : (z : ℤ) → IsInScale (to_scale z)
IsInScale-to_scale z = record { low = omega (arith, ints, clamps); high = omega (arith, ints, clamps) }

pub IsInScale-value : (n : SignedNumber) → IsInScale (value n)
IsInScale-value (signed.Plus n) = IsInScale-to_scale (magnitude n.amount)
IsInScale-value (signed.Minus n) = IsInScale-to_scale (neg_ℤ (magnitude n.amount))
IsInScale-value (signed.Bare n) = IsInScale-to_scale (magnitude n.amount)

lesser-in : (x y : ℤ) → IsInScale x → IsInScale y → IsInScale (int_min x y)
lesser-in x y h k = record
    { low = omega (arith, ints, clamps, h.low, k.low); high = omega (arith, ints, clamps, h.high, k.high) }

greater-in : (x y : ℤ) → IsInScale x → IsInScale y → IsInScale (int_max x y)
greater-in x y h k =
    record { low = omega (arith, ints, clamps, h.low, k.low); high = omega (arith, ints, clamps, h.high, k.high) }

reach-in : (e : Ends) (numbers : List ℤ) → AreInScale e → AllByRecursion IsInScale numbers
    → AreInScale (reach e numbers)
reach-in e [] h all = h
reach-in e (x ∷ numbers) h all =
    reach-in (int_min e.0 x, int_max e.1 x) numbers
    (record { lo = lesser-in e.0 x h.lo all.0; hi = greater-in e.1 x h.hi all.0 }) all.1

pub hull_of-in : (numbers : List ℤ) (e : Ends) → AllByRecursion IsInScale numbers → Some e ≡ hull_of numbers
    → AreInScale e
hull_of-in [] e all h = cc
hull_of-in (x ∷ numbers) e all h =
    let same : e ≡ reach (x, x) numbers = cc in
    rw same (reach-in (x, x) numbers (record { lo = all.0; hi = all.0 }) all.1)

pub ends_of-in : (r : Range) → AreInScale (ends_of r)
ends_of-in r = record { lo = IsInScale-value r.low; hi = IsInScale-value r.high }

pub given_or-in : (hull : Option Ends) (r : Option Range) (e : Ends) → (Some e ≡ hull → AreInScale e)
    → Some e ≡ given_or hull r → AreInScale e
given_or-in hull None e otherwise h = otherwise h
given_or-in hull (Some r) e otherwise h = let same : e ≡ ends_of r = cc in rw same (ends_of-in r)

abscissas-in : (points : List Point) → AllByRecursion IsInScale (map x_of points)
abscissas-in [] = tt
abscissas-in (p ∷ points) = (IsInScale-value p.x, abscissas-in points)

pub input_range-in : (s : Fuzzify) (e : Ends) → Some e ≡ input_range s → AreInScale e
input_range-in s e h =
    given_or-in (hull_of (abscissas s)) (fuzzy_range s) e
    (hull_of-in (abscissas s) e (abscissas-in (flat_map points_of (terms_of s)))) h

fallback-in : (v : FallbackValue) (at : ℕ) (rest : List (ℤ × ℕ))
    → AllByRecursion IsInScale (map (λ (n : ℤ × ℕ). n.0) rest)
    → AllByRecursion IsInScale
    (map (λ (n : ℤ × ℕ). n.0)
    (cons_option (option_map (λ (n : SignedNumber). (value n, at)) (fallback_number v)) rest))
fallback-in (fallback.Number n) at rest all = (IsInScale-value n, all)
fallback-in (fallback.Nc x) at rest all = all

numbers-in : (lines : List DefuzzyLine)
    → AllByRecursion IsInScale (map (λ (n : ℤ × ℕ). n.0) (filter_map number_line lines))
numbers-in [] = tt
numbers-in (defuzzy.Singleton t ∷ lines) = (IsInScale-value t.value, numbers-in lines)
numbers-in (defuzzy.Default d ∷ lines) = fallback-in d.value d.at (filter_map number_line lines) (numbers-in lines)
numbers-in (_ ∷ lines) = numbers-in lines

-- all numbers of an output's section are
pub output_numbers-in : (s : Defuzzify) → AllByRecursion IsInScale (map (λ (n : ℤ × ℕ). n.0) (output_numbers s))
output_numbers-in s = numbers-in s.lines

pub output_hull-in : (s : Defuzzify) (e : Ends) → Some e ≡ output_hull s → AreInScale e
output_hull-in s e h = hull_of-in (map (λ (n : ℤ × ℕ). n.0) (output_numbers s)) e (output_numbers-in s) h

-- a widened span has the same low end, and a high end that is higher by 1 at most
pub record IsWide (e : Ends) : Type 0 where
  pub lo : IsInScale e.0
  pub hi : e.1 ≤ℤ pos 1000010000

pub IsWide-widened : (e : Ends) → AreInScale e → IsWide (widened e)
IsWide-widened e h =
    elim (int_eq e.0 e.1) as (λ b. IsWide (cond b (e.0, e.1 +ℤ pos 10000) e)) [
      | true ↦ record { lo = h.lo; hi = omega (arith, ints, h.hi.high) }
      | false ↦ record { lo = h.lo; hi = omega (arith, ints, h.hi.high) }
    ]

-- ---- Numbers within a given range, and within the hull of all.

-- between the ends of a range
abbrev pub In : Ends → ℤ → Type 0
In e x = (e.0 ≤ℤ x) × (x ≤ℤ e.1)

abbrev pub AllIn : Ends → List Point → Type 0
AllIn e points = AllByRecursion (λ (p : Point). In e (x_of p)) points

lies : (e : Ends) (x : ℤ) → not (lies_in e x) ≡ false → In e x
lies e x h = (grind (arith, ints), grind (arith, ints))

-- none of some numbers is outside
pub all_inside : {X : Type 0} (e : Ends) (x : X → ℤ) (at : X → ℕ) (xs : List X)
    → flat_map (λ i. at_if (not (lies_in e (x i))) (at i)) xs ≡ []
    → AllByRecursion (λ i. In e (x i)) xs
all_inside e x at xs h = all_weaker (λ i. at_if (not (lies_in e (x i))) (at i) ≡ []) (λ i. In e (x i))
    (λ i k. lies e (x i) (no_place (not (lies_in e (x i))) (at i) k)) xs
    (nowhere (λ i. at_if (not (lies_in e (x i))) (at i)) xs h)

pub not_empty : (e : Ends) → is_empty_range e ≡ false → e.0 <ℤ e.1
not_empty e h = grind (arith, ints)

-- ---- the hull

reach-wide : (e : Ends) (numbers : List ℤ) → ((reach e numbers).0 ≤ℤ e.0) × (e.1 ≤ℤ (reach e numbers).1)
reach-wide e [] = (omega (arith, ints), omega (arith, ints))
reach-wide e (x ∷ numbers) =
    let rest = reach-wide (int_min e.0 x, int_max e.1 x) numbers in
    (omega (arith, ints, clamps, rest.0), omega (arith, ints, clamps, rest.1))

reach-over : (e : Ends) (numbers : List ℤ) → AllByRecursion (In (reach e numbers)) numbers
reach-over e [] = tt
reach-over e (x ∷ numbers) =
    let wider : Ends = (int_min e.0 x, int_max e.1 x) in
    let rest = reach-wide wider numbers in
    ((omega (arith, ints, clamps, rest.0), omega (arith, ints, clamps, rest.1)), reach-over wider numbers)

pub hull-over : (numbers : List ℤ) (e : Ends) → Some e ≡ hull_of numbers → AllByRecursion (In e) numbers
hull-over [] e h = tt
hull-over (x ∷ numbers) e h =
    let same : e ≡ reach (x, x) numbers = cc in
    let wide = reach-wide (x, x) numbers in
    subst (λ (f : Ends). AllByRecursion (In f) (x ∷ numbers)) (sym same) ((wide.0, wide.1), reach-over (x, x) numbers)

pub hull-ordered : (numbers : List ℤ) (e : Ends) → Some e ≡ hull_of numbers → e.0 ≤ℤ e.1
hull-ordered [] e h = absurd cc
hull-ordered (x ∷ numbers) e h = let here = (hull-over (x ∷ numbers) e h).0 in omega (arith, ints, here.0, here.1)

-- ---- a range of one point is widened

pub widened-ordered : (e : Ends) → e.0 ≤ℤ e.1 → (widened e).0 <ℤ (widened e).1
widened-ordered e h =
    elim (int_eq e.0 e.1) as
    (λ b. int_eq e.0 e.1 ≡ b → (cond b (e.0, e.1 +ℤ pos 10000) e).0 <ℤ (cond b (e.0, e.1 +ℤ pos 10000) e).1) [
      | true ↦ λ k. omega (arith, ints)
      | false ↦ λ k. grind (arith, ints)
    ] refl

pub widened-over : (e : Ends) (x : ℤ) → In e x → In (widened e) x
widened-over e x h =
    elim (int_eq e.0 e.1) as (λ b. In (cond b (e.0, e.1 +ℤ pos 10000) e) x) [
      | true ↦ (h.0, omega (arith, ints, h.1))
      | false ↦ h
    ]

-- ---- Lines of a section that are no singletons.

pub no-singleton : (line : DefuzzyLine) → ((x : Singleton) → line ≡ defuzzy.Singleton x → ⊥) → singleton_of line ≡ None
no-singleton (defuzzy.Singleton x) h = absurd (h x refl)
no-singleton _ h = refl

-- ---- The numbers of an output's section, line after line.

-- the hull with one more number
abbrev pub reach_to : Option Ends → ℤ → Ends
reach_to None x = (x, x)
reach_to (Some e) x = (int_min e.0 x, int_max e.1 x)

reach-push : (e : Ends) (xs : List ℤ) (x : ℤ)
    → reach e (xs ++ x ∷ []) ≡ (int_min (reach e xs).0 x, int_max (reach e xs).1 x)
reach-push e [] x = refl
reach-push e (y ∷ xs) x = reach-push (int_min e.0 y, int_max e.1 y) xs x

hull_of-push : (xs : List ℤ) (x : ℤ) → hull_of (xs ++ x ∷ []) ≡ Some (reach_to (hull_of xs) x)
hull_of-push [] x = refl
hull_of-push (y ∷ xs) x = ap Some (reach-push (y, y) xs x)

abbrev pub numbers : List DefuzzyLine → List ℤ
numbers lines = map (λ (n : ℤ × ℕ). n.0) (filter_map number_line lines)

abbrev pub singleton_values : List DefuzzyLine → List ℤ
singleton_values lines = map (λ (t : Singleton). value t.value) (filter_map singleton_of lines)

module _ (lines read : List DefuzzyLine) (i : ℕ) (d : DefuzzyLine) (same : read ≡ lines)
    (within : i < length lines) where
  numbers-next : numbers (take (i + 1) lines) ≡ numbers (take i lines)
      ++ cons_option (option_map (λ (n : ℤ × ℕ). n.0) (number_line (get_or read i d))) []
  numbers-next =
      ap (map (λ (n : ℤ × ℕ). n.0)) (filter_map-next number_line lines read i d same within)
      ∙ map-append (λ (n : ℤ × ℕ). n.0) (filter_map number_line (take i lines))
      (cons_option (number_line (get_or read i d)) [])
      ∙ ap (λ ns. numbers (take i lines) ++ ns)
      (map-cons_option (λ (n : ℤ × ℕ). n.0) (number_line (get_or read i d)) [])

  pub hull-found : (hull : Option Ends) (x : ℤ) → hull ≡ hull_of (numbers (take i lines))
      → Some x ≡ option_map (λ (n : ℤ × ℕ). n.0) (number_line (get_or read i d))
      → Some (reach_to hull x) ≡ hull_of (numbers (take (i + 1) lines))
  hull-found hull x so is =
      ap (λ h. Some (reach_to h x)) so ∙ sym (hull_of-push (numbers (take i lines)) x)
      ∙ ap (λ o. hull_of (numbers (take i lines) ++ cons_option o [])) is
      ∙ ap hull_of (sym numbers-next)

  pub hull-passed : (hull : Option Ends) → hull ≡ hull_of (numbers (take i lines))
      → None ≡ option_map (λ (n : ℤ × ℕ). n.0) (number_line (get_or read i d))
      → hull ≡ hull_of (numbers (take (i + 1) lines))
  hull-passed hull so is =
      so ∙ ap hull_of (sym (append-nil (numbers (take i lines))))
      ∙ ap (λ o. hull_of (numbers (take i lines) ++ cons_option o [])) is
      ∙ ap hull_of (sym numbers-next)

  singleton_values-next : singleton_values (take (i + 1) lines) ≡ singleton_values (take i lines) ++
      map (λ (t : Singleton). value t.value) (cons_option (singleton_of (get_or read i d)) [])
  singleton_values-next =
      ap (map (λ (t : Singleton). value t.value)) (filter_map-next singleton_of lines read i d same within)
      ∙ map-append (λ (t : Singleton). value t.value) (filter_map singleton_of (take i lines))
      (cons_option (singleton_of (get_or read i d)) [])

  pub singletons-more : (items : List Dec) (x : Dec) (t : Singleton) → get_or read i d ≡ defuzzy.Singleton t
      → x.0 ≡ value t.value
      → map (λ (d : Dec). d.0) items ≡ singleton_values (take i lines)
      → map (λ (d : Dec). d.0) (items ++ x ∷ []) ≡ singleton_values (take (i + 1) lines)
  singletons-more items x t is here so =
      rw (map-append (λ (d : Dec). d.0) items (x ∷ []), so, here, singleton_values-next, is) refl

  pub singletons-passed : (items : List Dec) → singleton_of (get_or read i d) ≡ None
      → map (λ (d : Dec). d.0) items ≡ singleton_values (take i lines)
      → map (λ (d : Dec). d.0) items ≡ singleton_values (take (i + 1) lines)
  singletons-passed items is so = rw (so, singleton_values-next, is, append-nil) refl
