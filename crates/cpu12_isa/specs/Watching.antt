-- What a memory notes: for each address the byte that it is compared with, where it is watched.
-- Beside the promise.
use Rattle.std.specs.Prelude.{◌≡◌, ◌==◌, ◌||◌, ℕ, Bool, true, false, not, Option, Some, None, option_map, List, [], ◌∷◌}
use Rattle.std.specs.Prelude.{length, slice_index, slice_index_or}
use Rattle.std.specs.List.{list_any}
use Rattle.cpu12_isa.specs.Tags.{untagged}

-- none of the 65536 addresses is watched
abbrev pub nothing_noted : List (Option ℕ)
nothing_noted = untagged 65536

-- each noted byte becomes that of memory
abbrev pub noted_again : List (Option ℕ) → List ℕ → List (Option ℕ)
noted_again [] mem = []
noted_again (n ∷ ns) [] = n ∷ ns
noted_again (n ∷ ns) (v ∷ vs) = option_map (λ b. v) n ∷ noted_again ns vs

-- a noted byte is another than that of memory
abbrev pub is_changed : Option ℕ → ℕ → Bool
is_changed None v = false
is_changed (Some b) v = not (b == v)

-- some noted byte is
abbrev pub any_changed : List (Option ℕ) → List ℕ → Bool
any_changed [] mem = false
any_changed (n ∷ ns) [] = false
any_changed (n ∷ ns) (v ∷ vs) = is_changed n v || any_changed ns vs

-- an address is in a list
abbrev pub is_listed : List ℕ → ℕ → Bool
is_listed written at = list_any (λ w. w == at) written

-- each address whose noted byte is another than that of memory is in a list
abbrev pub AreListed : List ℕ → List (Option ℕ) → List ℕ → Type 0
AreListed written noted mem =
    (at : ℕ) → is_changed (slice_index_or noted at None) (slice_index mem at) ≡ true → is_listed written at ≡ true

-- where nothing is noted, no address is watched
abbrev pub NothingIsWatched : Type 0
NothingIsWatched = (length nothing_noted ≡ 65536) × ((at : ℕ) → slice_index_or nothing_noted at None ≡ None)
