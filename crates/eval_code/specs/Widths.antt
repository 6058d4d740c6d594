-- The bytes of an answer, and what an output answers.
-- Beside the promise.
use Rattle.std.specs.Prelude.{ℕ, List, [], ◌∷◌}
use Rattle.byte_scaling.specs.Widths.{parts}
use Rattle.byte_scaling.specs.declared.{width.Width.Width, width.Width.TheVariants.Byte, width.Width.TheVariants.Word}
use Rattle.fuzzy_meaning.specs.declared.block.Block.{Block}
use Rattle.point_slope.specs.Bytes.{answer_in}
use Rattle.eval_code.specs.Data.{bytes_of_word}

-- its bytes
abbrev pub bytes_of : Width → ℕ → List ℕ
bytes_of Byte a = a ∷ []
bytes_of Word a = bytes_of_word a

-- what output o answers to the bytes of the inputs, after the answer before
abbrev pub answer : Width → Block → ℕ → List ℕ → ℕ → ℕ
answer w b o bytes before = answer_in (parts w) b o bytes before
