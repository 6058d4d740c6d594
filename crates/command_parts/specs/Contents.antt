-- The contents of the files that were read.
-- Beside the promise.
use Rattle.std.specs.Prelude.{ℕ, List, [], map}
use Rattle.std.specs.List.{slice_index_or}
use Rattle.std.specs.declared.alloc.Global.{Global}
use Rattle.std.specs.declared.vec.Vec.{Vec}

abbrev pub bytes_of : List (Vec ℕ Global) → List (List ℕ)
bytes_of = map (λ v. v.items)

-- the content of a file, and nothing where there is none
abbrev pub content_at : List (List ℕ) → ℕ → List ℕ
content_at contents i = slice_index_or contents i []
