-- How wide answers are.
-- Reached by the promise.
use Rattle.std.specs.Prelude.{ℕ}
use Rattle.byte_scaling.specs.declared.{width.Width.Width, width.Width.TheVariants.Byte, width.Width.TheVariants.Word}

-- how many bytes an answer takes
abbrev pub places : Width → ℕ
places Byte = 1
places Word = 2

-- in how many parts of a byte it comes
abbrev pub parts : Width → ℕ
parts Byte = 1
parts Word = 256
