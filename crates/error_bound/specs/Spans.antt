-- From the least to the greatest truth of conditions, where spans of the literals are given.
-- Beside the promise.
use Rattle.std.specs.Prelude.{ℕ, ◌-◌, max}
use Rattle.fz_num.specs.Fractions.{Fraction, one_minus}
use Rattle.fuzzy_meaning.specs.Conditions.{Condition, Joins, evaluate, levels}
use Rattle.fuzzy_meaning.specs.Meaning.{truths}
use Rattle.error_bound.specs.declared.{ends.Side.Side, ends.Side.TheVariants.Low, ends.Side.TheVariants.High}

-- from the least of some values to the greatest
pub record Span (A : Type 0) : Type 0 where
  pub low : A
  pub high : A

abbrev pub only : {A : Type 0} → A → Span A
only a = record { low = a; high = a }

-- the least, or the greatest
abbrev pub end_of : {A : Type 0} → Side → Span A → A
end_of Low s = s.low
end_of High s = s.high

abbrev pub other : Side → Side
other Low = High
other High = Low

-- by an operation that turns the order of values
abbrev pub reversed : {A : Type 0} → (A → A) → Span A → Span A
reversed minus s = record { low = minus s.high; high = minus s.low }

-- by operations that keep it
abbrev pub spans : {A : Type 0} → Joins A → Joins (Span A)
spans j = record {
  none = λ any. only (j.none any);
  join = λ any s r. record { low = j.join any s.low r.low; high = j.join any s.high r.high };
}

-- of degrees
abbrev pub span : (ℕ → ℕ → Span Fraction) → Condition → Span Fraction
span = evaluate (reversed one_minus) (spans truths)

-- of grades
abbrev pub byte_span : (ℕ → ℕ → Span ℕ) → Condition → Span ℕ
byte_span = evaluate (reversed (λ n. 255 - n)) (spans (levels 255))

abbrev pub greatest : Joins ℕ
greatest = record { none = λ any. 0; join = λ any. max }

-- of how far degrees may be below grades, to how far above; NOT changes the two
abbrev pub deviation : (ℕ → ℕ → Span ℕ) → Condition → Span ℕ
deviation = evaluate (reversed (λ n. n)) (spans greatest)
