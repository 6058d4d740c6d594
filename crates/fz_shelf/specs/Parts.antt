-- A text in parts.
-- Reached by the promise.
use Rattle.std.specs.Prelude.{ℕ, ◌/◌, ◌%◌, List, [], ◌∷◌, ◌++◌, codes, decimal}
use Rattle.std.specs.List.{flat_map}
use Rattle.hex.specs.Hex.{encode_upper}
use Rattle.fz_shelf.specs.declared.parts.Part.{Part}
use Rattle.fz_shelf.specs.declared.parts.Part.TheVariants.{Text, Number, Address, Byte, Numbers}

-- the end of a line
abbrev pub newline : List ℕ
newline = codes "\n"

-- a text, and the end of its line
abbrev pub ended : List ℕ → List ℕ
ended text = text ++ newline

-- a byte as two hexadecimal digits, and an address as four
abbrev pub byte_digits : ℕ → List ℕ
byte_digits byte = encode_upper (byte ∷ [])

abbrev pub address_digits : ℕ → List ℕ
address_digits address = encode_upper (address / 256 ∷ address % 256 ∷ [])

-- a number in decimal, with a blank before it
abbrev pub behind_blank : ℕ → List ℕ
behind_blank n = codes " " ++ decimal n

abbrev pub part_text : Part → List ℕ
part_text (Text text) = text.now
part_text (Number n) = decimal n
part_text (Address address) = address_digits address
part_text (Byte byte) = byte_digits byte
part_text (Numbers numbers) = flat_map behind_blank numbers.now

abbrev pub parts_text : List Part → List ℕ
parts_text = flat_map part_text
