-- What a valid block has at its numbers.
use Rattle.std.proofs.Common.{◌≡◌, ℕ, ◌-◌, ◌<◌, ◌≤◌, List, length, get_or, Option, Some, None, slice_get, refl, arith}
use Rattle.std.proofs.Common.{sym, subst}
use Rattle.std.specs.Prelude.{IfSome, ◌≤ℤ◌, pos}
use Rattle.std.proofs.lemmas.Int.{ints}
use Rattle.std.proofs.lemmas.Option.{slice_get_read, slice_get-get_or}
use Rattle.fz_num.specs.declared.dec.Dec.{Dec}
use Rattle.fuzzy_meaning.specs.{declared.block.Block.Block, declared.block.Input.Input, declared.block.Output.Output}
use Rattle.fuzzy_meaning.specs.{declared.block.Trapezoid.Trapezoid, Degrees.degree, Meaning.literal_degree}
use Rattle.fuzzy_meaning.specs.Blocks.{IsValid, IsValidInput, IsValidTerm, IsTrapezoid, IsInScale, IsWithin, HasTerm}
use Rattle.fuzzy_meaning.specs.Blocks.{AreInputs, IsValidOutput, output_at}
use Rattle.fz_list.proofs.Algebra.{All-slice_get, IsSomeAnd-some, IsSomeAnd-within}

-- what is read beyond a list's end
abbrev pub zero_dec : Dec
zero_dec = record { 0 = pos 0 }

abbrev pub zero_term : Trapezoid
zero_term = record { a = None; b = zero_dec; c = zero_dec; d = None }

-- the output that a number names
pub IsValidOutput-found : (b : Block) (o : ℕ) (x : Output) → IsValid b → output_at b o ≡ Some x → IsValidOutput x
IsValidOutput-found b o x v found = All-slice_get IsValidOutput b.outputs (o - 1) x v.outputs found

pub output_at-read : (b : Block) (o : ℕ) (x : Output) → 1 ≤ o → o ≤ length b.outputs → x ≡ get_or b.outputs (o - 1) x
    → output_at b o ≡ Some x
output_at-read b o x from upto is =
    let within : o - 1 < length b.outputs = omega arith in
    slice_get_read b.outputs (length b.outputs) (o - 1) x refl within is

in_scale : (lo hi x : Dec) → IsInScale lo.0 → IsInScale hi.0 → lo.0 ≤ℤ x.0 → x.0 ≤ℤ hi.0 → IsInScale x.0
in_scale lo hi x l h from to = record { low = omega (arith, ints); high = omega (arith, ints) }

pub IsInScale-within : (i : Input) (x : Dec) → IsValidInput i → IsWithin i.lo i.hi x → IsInScale x.0
IsInScale-within i x v w = in_scale i.lo i.hi x v.lo_in v.hi_in w.low w.high

left_in : (lo hi b : Dec) (a : Option Dec) → IsInScale lo.0 → IsInScale hi.0 → b.0 ≤ℤ hi.0
    → IfSome a (λ p. (lo.0 ≤ℤ p.0) × (p.0 ≤ℤ b.0)) → IfSome a (λ p. IsInScale p.0 × (p.0 ≤ℤ b.0))
left_in lo hi b None l h to e = e
left_in lo hi b (Some a) l h to e = (in_scale lo hi a l h e.0 (omega (arith, ints, e.1)), e.1)

right_in : (lo hi c : Dec) (d : Option Dec) → IsInScale lo.0 → IsInScale hi.0 → lo.0 ≤ℤ c.0
    → IfSome d (λ p. (c.0 ≤ℤ p.0) × (p.0 ≤ℤ hi.0)) → IfSome d (λ p. IsInScale p.0 × (c.0 ≤ℤ p.0))
right_in lo hi c None l h from e = e
right_in lo hi c (Some d) l h from e = (in_scale lo hi d l h (omega (arith, ints, e.0)) e.1, e.0)

pub IsTrapezoid-valid : (i : Input) (t : Trapezoid) → IsValidInput i → IsValidTerm i.lo i.hi t → IsTrapezoid t
IsTrapezoid-valid i t v w =
    let b_to : t.b.0 ≤ℤ i.hi.0 = omega (arith, ints, w.peak, w.c_in) in
    let c_from : i.lo.0 ≤ℤ t.c.0 = omega (arith, ints, w.b_in, w.peak) in
    record {
      a_in = left_in i.lo i.hi t.b t.a v.lo_in v.hi_in b_to w.a_in;
      b_in = in_scale i.lo i.hi t.b v.lo_in v.hi_in w.b_in b_to;
      peak = w.peak;
      c_in = in_scale i.lo i.hi t.c v.lo_in v.hi_in c_from w.c_in;
      d_in = right_in i.lo i.hi t.c t.d v.lo_in v.hi_in c_from w.d_in;
    }

-- the input and the term that numbers name, and the number of the input
pub record IsLiteral (b : Block) (xs : List Dec) (i t : ℕ) (input : Input) (term : Trapezoid) (x : Dec) : Type 0 where
  pub input_is : slice_get b.inputs (i - 1) ≡ Some input
  pub term_is : slice_get input.terms (t - 1) ≡ Some term
  pub x_is : slice_get xs (i - 1) ≡ Some x

pub literal_degree-found : (b : Block) (xs : List Dec) (i t : ℕ) (input : Input) (term : Trapezoid) (x : Dec)
    → IsLiteral b xs i t input term x → literal_degree b xs i t ≡ degree term x
literal_degree-found b xs i t input term x l = rw (l.input_is, l.term_is, l.x_is) refl

pub IsTrapezoid-literal : (b : Block) (xs : List Dec) (i t : ℕ) (input : Input) (term : Trapezoid) (x : Dec) → IsValid b
    → IsLiteral b xs i t input term x → IsTrapezoid term
IsTrapezoid-literal b xs i t input term x v l =
    let vi = All-slice_get IsValidInput b.inputs (i - 1) input v.inputs l.input_is in
    IsTrapezoid-valid input term vi
    (All-slice_get (IsValidTerm input.lo input.hi) input.terms (t - 1) term vi.terms l.term_is)

pub IsInScale-literal : (b : Block) (xs : List Dec) (i t : ℕ) (input : Input) (term : Trapezoid) (x : Dec) → IsValid b
    → AreInputs b xs → IsLiteral b xs i t input term x → IsInScale x.0
IsInScale-literal b xs i t input term x v are l =
    IsInScale-within input x (All-slice_get IsValidInput b.inputs (i - 1) input v.inputs l.input_is)
    (are.within (i - 1) input x l.input_is l.x_is)

-- what is read there
pub IsLiteral-read : (b : Block) (xs : List Dec) (i t : ℕ) (input : Input) → HasTerm b i t → AreInputs b xs
    → input ≡ get_or b.inputs (i - 1) input
    → IsLiteral b xs i t input (get_or input.terms (t - 1) zero_term) (get_or xs (i - 1) zero_dec)
IsLiteral-read b xs i t input has are is =
    let in_block : i - 1 < length b.inputs = IsSomeAnd-within (λ x. t ≤ length x.terms) b.inputs (i - 1) has.term_to in
    let input_is = slice_get_read b.inputs (length b.inputs) (i - 1) input refl in_block is in
    let few : t ≤ length input.terms =
    IsSomeAnd-some (λ x. t ≤ length x.terms) (slice_get b.inputs (i - 1)) input input_is has.term_to in
    let from = has.term_from in
    let in_terms : t - 1 < length input.terms = omega arith in
    let count = are.count in
    let in_xs : i - 1 < length xs = omega arith in
    record {
      input_is = input_is;
      term_is = slice_get-get_or input.terms (t - 1) zero_term in_terms;
      x_is =
          slice_get-get_or xs (i - 1) zero_dec in_xs;
    }

-- what `degree` asks for where a literal's term is read, and what it gives
pub record HasDegree (b : Block) (xs : List Dec) (i t : ℕ) (term : Trapezoid) (x : Dec) : Type 0 where
  pub term_in : IsTrapezoid term
  pub x_in : IsInScale x.0
  pub value : literal_degree b xs i t ≡ degree term x

pub HasDegree-read : (b : Block) (xs : List Dec) (i t : ℕ) (input : Input) (terms : List Trapezoid) → IsValid b
    → HasTerm b i t → AreInputs b xs → input ≡ get_or b.inputs (i - 1) input → terms ≡ input.terms
    → HasDegree b xs i t (get_or terms (t - 1) zero_term) (get_or xs (i - 1) zero_dec)
HasDegree-read b xs i t input terms v has are is same =
    let term = get_or input.terms (t - 1) zero_term in
    let x = get_or xs (i - 1) zero_dec in
    let l = IsLiteral-read b xs i t input has are is in
    let made : HasDegree b xs i t term x =
    record {
      term_in = IsTrapezoid-literal b xs i t input term x v l;
      x_in = IsInScale-literal b xs i t input term x v are l;
      value = literal_degree-found b xs i t input term x l;
    } in
    subst (λ ts. HasDegree b xs i t (get_or ts (t - 1) zero_term) x) (sym same) made
