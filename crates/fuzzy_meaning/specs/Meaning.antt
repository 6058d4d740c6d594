-- What a block answers (IEC 61131-7:2000: AND is MIN, OR is MAX, NOT is 1 minus, WITH is a product, COGS).
-- Reached by the promise.
use Rattle.std.specs.Prelude.{ℕ, ◌+◌, ◌-◌, ◌*◌, if◌then◌else◌, ◌==◌, nat_lt, List, [], ◌∷◌, fold, filter, length}
use Rattle.std.specs.Prelude.{slice_get, Bool, Option, Some, None, ℤ, pos, ◌+ℤ◌, ◌*ℤ◌, unsigned_abs}
use Rattle.std.specs.Option.{option_map_or}
use Rattle.fz_num.specs.declared.dec.Dec.{Dec}
use Rattle.fz_num.specs.Fractions.{Quotient, Fraction, lesser, greater, one_minus, times, one, none}
use Rattle.fuzzy_meaning.specs.declared.{block.Block.Block, block.Output.Output, block.Rule.Rule}
use Rattle.fuzzy_meaning.specs.Conditions.{Condition, Joins, joins, evaluate}
use Rattle.fuzzy_meaning.specs.{Blocks.term_at, Blocks.output_at, Degrees.degree}
use Rattle.std.specs.Prelude.{◌&&◌}
use Rattle.std.specs.List.{list_any}

-- whether a rule concludes term t of output o
abbrev pub concludes : Rule → ℕ → ℕ → Bool
concludes r o t = list_any (λ c. (c.0 == o) && (c.1 == t)) r.concl

-- the degree of term t of input i where the inputs are xs
abbrev pub literal_degree : Block → List Dec → ℕ → ℕ → Fraction
literal_degree b xs i t =
    option_map_or (λ term. option_map_or (degree term) (slice_get xs (i - 1)) none) (term_at b i t) none

-- OR is the greatest, AND the least
abbrev pub truths : Joins Fraction
truths = joins none greater one lesser

-- the truth of a condition where d gives the degrees
abbrev pub truth : (ℕ → ℕ → Fraction) → Condition → Fraction
truth = evaluate one_minus truths

-- in 1/10000; 1 without a WITH
abbrev pub weight_of : Option Dec → ℕ
weight_of None = 10000
weight_of (Some w) = unsigned_abs w.0

-- the truth of a rule's condition times its weight
abbrev pub strength : Block → List Dec → Rule → Fraction
strength b xs r = times (truth (literal_degree b xs) r.cond) (weight_of r.weight)

-- the greatest strength of those of the rules that conclude term t of output o, or 0
abbrev pub mass_among : Block → List Dec → ℕ → ℕ → List Rule → Fraction
mass_among b xs o t [] = none
mass_among b xs o t (r ∷ rs) =
    if concludes r o t then greater (strength b xs r) (mass_among b xs o t rs) else mass_among b xs o t rs

abbrev pub mass : Block → List Dec → ℕ → ℕ → Fraction
mass b xs o t = mass_among b xs o t b.rules

-- a term of an output: its singleton, in 1/10000, and its mass
pub record Share : Type 0 where
  pub at : ℤ
  pub mass : Fraction

-- of output o, whose terms from number t on have these singletons
abbrev pub shares_from : Block → List Dec → ℕ → ℕ → List Dec → List Share
shares_from b xs o t [] = []
shares_from b xs o t (u ∷ us) = record { at = u.0; mass = mass b xs o t } ∷ shares_from b xs o (t + 1) us

abbrev pub shares : Block → List Dec → ℕ → Output → List Share
shares b xs o x = shares_from b xs o 1 x.singletons

-- the masses' common denominator
abbrev pub common_den : List Share → ℕ
common_den [] = 1
common_den (s ∷ ss) = s.mass.den * common_den ss

-- over it, the sum of the masses, and of the singletons by their masses
abbrev pub total_mass : List Share → ℕ
total_mass [] = 0
total_mass (s ∷ ss) = s.mass.num * common_den ss + s.mass.den * total_mass ss

abbrev pub weighted_sum : List Share → ℤ
weighted_sum [] = pos 0
weighted_sum (s ∷ ss) = s.at *ℤ pos (s.mass.num * common_den ss) +ℤ pos s.mass.den *ℤ weighted_sum ss

-- a decimal in units of 1
abbrev pub quotient_of : Dec → Quotient
quotient_of x = record { num = x.0; den = 10000 }

-- the singletons weighted by their masses, or what stands in for it where there is no mass
abbrev pub centre : List Share → Quotient → Quotient
centre ss otherwise =
    if total_mass ss == 0 then otherwise else record { num = weighted_sum ss; den = total_mass ss * 10000 }

-- the DEFAULT, or with NC the answer before
abbrev pub resting : Output → Quotient → Quotient
resting x before = option_map_or quotient_of x.default before

-- what output o answers to a sample, after an answer
abbrev pub answer_after : Block → ℕ → Quotient → List Dec → Quotient
answer_after b o before xs = option_map_or (λ x. centre (shares b xs o x) (resting x before)) (output_at b o) before

-- before the first sample: the low end of the range
abbrev pub first_answer : Block → ℕ → Quotient
first_answer b o = option_map_or (λ x. quotient_of x.lo) (output_at b o) (record { num = pos 0; den = 1 })

-- the exact answer of output o to a list of samples, each the numbers of the inputs
abbrev pub exact_answer : Block → ℕ → List (List Dec) → Quotient
exact_answer b o samples = fold (answer_after b o) (first_answer b o) samples

-- the shares that have a mass
abbrev pub has_mass : Share → Bool
has_mass s = nat_lt 0 s.mass.num

abbrev pub heavy_shares : List Share → List Share
heavy_shares ss = filter has_mass ss

-- how many terms of output o have a mass
abbrev pub heavy_terms : Block → ℕ → List Dec → ℕ
heavy_terms b o xs = option_map_or (λ x. length (heavy_shares (shares b xs o x))) (output_at b o) 0
