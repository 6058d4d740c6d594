-- What a block answers over bytes.
-- Beside the promise.
use Rattle.std.specs.Prelude.{ℕ, ◌+◌, ◌-◌, ◌*◌, ◌/◌, ◌≤◌, max, if◌then◌else◌, ◌==◌, List, [], ◌∷◌, sum_by, slice_get}
use Rattle.std.specs.Prelude.{slice_index}
use Rattle.std.specs.Option.{option_map_or}
use Rattle.fz_num.specs.declared.dec.Dec.{Dec}
use Rattle.fuzzy_meaning.specs.declared.{block.Block.Block, block.Output.Output, block.Rule.Rule}
use Rattle.fuzzy_meaning.specs.Blocks.{input_at, output_at, IsValid}
use Rattle.fuzzy_meaning.specs.{Conditions.Condition, Conditions.level, Meaning.concludes}
use Rattle.byte_scaling.specs.{Cells.nearest_byte, Weights.weight_byte_of}
use Rattle.point_slope.specs.Tables.{row_of, grade_of}

-- the grade of term t of input i at the bytes of the inputs
abbrev pub literal_grade : Block → List ℕ → ℕ → ℕ → ℕ
literal_grade b bytes i t =
    option_map_or (λ x. option_map_or (λ term. grade_of (row_of x term) (slice_index bytes (i - 1)))
    (slice_get x.terms (t - 1)) 0) (input_at b i) 0

-- the grade, 255 minus, the least, the greatest
abbrev pub byte_truth : Block → List ℕ → Condition → ℕ
byte_truth b bytes c = level 255 (literal_grade b bytes) c

-- the truth scaled by the weight byte
abbrev pub byte_strength : Block → List ℕ → Rule → ℕ
byte_strength b bytes r = byte_truth b bytes r.cond * (weight_byte_of r.weight + 1) / 256

-- the greatest strength of those of the rules that conclude term t of output o, or 0
abbrev pub byte_mass_among : Block → List ℕ → ℕ → ℕ → List Rule → ℕ
byte_mass_among b bytes o t [] = 0
byte_mass_among b bytes o t (r ∷ rs) =
    if concludes r o t then max (byte_strength b bytes r) (byte_mass_among b bytes o t rs)
    else byte_mass_among b bytes o t rs

abbrev pub byte_mass : Block → List ℕ → ℕ → ℕ → ℕ
byte_mass b bytes o t = byte_mass_among b bytes o t b.rules

-- a term of an output: its singleton's byte and its mass
pub record ByteShare : Type 0 where
  pub byte : ℕ
  pub mass : ℕ

-- of output o, whose terms from number t on have these singletons
abbrev pub byte_shares_from : Block → List ℕ → ℕ → Output → ℕ → List Dec → List ByteShare
byte_shares_from b bytes o x t [] = []
byte_shares_from b bytes o x t (u ∷ us) = record { byte = nearest_byte x u; mass = byte_mass b bytes o t }
    ∷ byte_shares_from b bytes o x (t + 1) us

abbrev pub byte_shares : Block → List ℕ → ℕ → Output → List ByteShare
byte_shares b bytes o x = byte_shares_from b bytes o x 1 x.singletons

abbrev pub total_mass : List ByteShare → ℕ
total_mass shares = sum_by (λ s. s.mass) shares

abbrev pub weighted_sum : List ByteShare → ℕ
weighted_sum shares = sum_by (λ s. s.byte * s.mass) shares

-- Answers come in h parts to a byte: one, or 256 for those of 16 bits.
-- the singletons' bytes weighted by their masses, rounded down, or what stands in for it where there is no mass
abbrev pub centre : ℕ → List ByteShare → ℕ → ℕ
centre h shares otherwise = if total_mass shares == 0 then otherwise else h * weighted_sum shares / total_mass shares

-- the default's byte, or with NC the answer before
abbrev pub resting_answer : ℕ → Output → ℕ → ℕ
resting_answer h x before = option_map_or (λ d. h * nearest_byte x d) x.default before

-- what output o answers to the bytes of the inputs, after the answer before: a byte where h is 1, 16 bits where 256
abbrev pub answer_in : ℕ → Block → ℕ → List ℕ → ℕ → ℕ
answer_in h b o bytes before =
    option_map_or (λ x. centre h (byte_shares b bytes o x) (resting_answer h x before)) (output_at b o) before

-- no answer of a valid block is above 255 bytes
abbrev pub AnswersAreInRange : Type 0
AnswersAreInRange =
    (h : ℕ) (b : Block) (o : ℕ) (bytes : List ℕ) (before : ℕ) → IsValid b → before ≤ 255 * h
    → answer_in h b o bytes before ≤ 255 * h
