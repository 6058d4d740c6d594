-- The memory of an image.
-- Reached by the promise.
use Rattle.std.specs.Prelude.{◌≡◌, ℕ, zero, suc, ◌<◌, Option, Some, None, List, [], ◌∷◌, ◌++◌, length, slice_index}
use Rattle.cpu12_asm.specs.Bytes.{byte_at}

abbrev pub byte_or_zero : Option ℕ → ℕ
byte_or_zero (Some byte) = byte
byte_or_zero None = 0

-- the first n bytes: those of the image, and 0 where it has none. It does not unfold, since at a numeral as 65536 each
-- byte would be made
unfoldable pub loaded : List (ℕ × ℕ) → ℕ → List ℕ
loaded image zero = []
loaded image (suc n) = loaded image n ++ (byte_or_zero (byte_at image n) ∷ [])

-- memory as an image gives it
abbrev pub image_memory : List (ℕ × ℕ) → List ℕ
image_memory image = loaded image 65536

-- such a memory has 65536 bytes, each the image's, or 0 where the image has none
abbrev pub HoldsImage : Type 0
HoldsImage =
    (image : List (ℕ × ℕ)) → (length (image_memory image) ≡ 65536)
    × ((at : ℕ) → at < 65536 → slice_index (image_memory image) at ≡ byte_or_zero (byte_at image at))

-- images with the same bytes give the same memory
abbrev pub ImagesLoadAlike : Type 0
ImagesLoadAlike = (a b : List (ℕ × ℕ)) → ((at : ℕ) → byte_at a at ≡ byte_at b at) → image_memory a ≡ image_memory b
