-- What a memory has beside its bytes: for each address a tag, or none.
-- Beside the promise.
use Rattle.std.specs.Prelude.{ℕ, List, Option, None, replicate}

-- n addresses without a tag. It does not unfold, since at a numeral as 65536 a copy would be made of each
unfoldable pub untagged : ℕ → List (Option ℕ)
untagged n = replicate n None
