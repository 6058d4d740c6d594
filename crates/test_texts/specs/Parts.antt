-- A text in parts.
-- Beside the promise.
use Rattle.std.specs.Prelude.{ℕ, List, flat_map}
use Rattle.std.specs.Borrow.{Bor}

abbrev pub text_of_parts : List (Bor (List ℕ)) → List ℕ
text_of_parts = flat_map (λ part. part.now)
