-- Contents of at most 1048576 bytes, one by one.
use Rattle.std.proofs.Common.{◌≤◌, ℕ, zero, suc, List, [], ◌∷◌, length, arith}
use Rattle.std.specs.Prelude.{All}
use Rattle.command_parts.specs.Contents.{content_at}

pub length-content : (contents : List (List ℕ)) (i : ℕ) → All (λ text. length text ≤ 1048576) contents
    → length (content_at contents i) ≤ 1048576
length-content [] i few = omega arith
length-content (x ∷ xs) zero few = few 0 [] (omega arith)
length-content (x ∷ xs) (suc i) few = length-content xs i (λ k d l. few (suc k) d (omega (arith, l)))
