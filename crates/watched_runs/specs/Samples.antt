-- The samples of a trace, each with what is upset while it is answered.
-- Beside the promise.
use Rattle.std.specs.Prelude.{ℕ, suc, ◌<◌, ◌==◌, if◌then◌else◌, Option}
use Rattle.std.specs.Prelude.{Some, None, List, [], ◌∷◌, length, slice_index_or}
use Rattle.interrupt_plan.specs.declared.upsets.Upset.{Upset}
use Rattle.watched_code.specs.Watched.{Change, Watched}

-- each sample of upsets is above all before it
abbrev pub AscendThroughout : List Upset → Type 0
AscendThroughout us = (i j : ℕ) (d : Upset) → i < j → j < length us
    → (slice_index_or us i d).sample < (slice_index_or us j d).sample

-- what an upset changes
abbrev pub change_in : Option Upset → Option Change
change_in None = None
change_in (Some u) = Some (u.at, u.value)

-- the change of sample k, which is that of the upset with its number
abbrev pub change_of : ℕ → List Upset → Option Change
change_of k [] = None
change_of k (u ∷ us) = if u.sample == k then Some (u.at, u.value) else change_of k us

-- the samples from number k on, each with its change
abbrev pub changes_from : ℕ → List Upset → List (List ℕ) → List Watched
changes_from k upsets [] = []
changes_from k upsets (bytes ∷ rest) =
    record { bytes = bytes; change = change_of k upsets } ∷ changes_from (suc k) upsets rest

-- the samples of a trace, which count from 1
abbrev pub with_upsets : List Upset → List (List ℕ) → List Watched
with_upsets upsets samples = changes_from 1 upsets samples
