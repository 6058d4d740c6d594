-- What a session shows: where its run stands, and for each address the byte that it is compared with, where it is
-- watched.
-- Beside the promise.
use Rattle.std.specs.Prelude.{ℕ, List, Option}
use Rattle.run_law.specs.Forms.{RowSeen}
use Rattle.run_forms.specs.RunRests.{RestHere}

pub record SessionSeen : Type 0 where
  pub rest : RestHere (RowSeen (List ℕ))
  pub noted : List (Option ℕ)
