-- The requests of a plan, sample by sample, and room for what they push and tell.
-- Beside the promise.
use Rattle.std.specs.Prelude.{◌≡◌, ◌≤◌, ℕ, zero, suc, List, [], ◌∷◌, length, drop, take_while}
use Rattle.run_forms.specs.{Forms.SeenNotes, Forms.sample_in, Rows.is_of}

-- the requests of sample k that come first
abbrev pub requests_first : {A : Type 0} → (A → ℕ × ℕ) → ℕ → List A → List A
requests_first place k plan = take_while (is_of place k) plan

-- empty, with room for these requests
pub record HasRoom {A U B : Type 0} (fits : U → ℕ → Type 0) (seen : SeenNotes U B) (requests : List A)
    (room : U) : Type 0 where
  pub no_frames : seen.frames room ≡ []
  pub none_told : seen.told room ≡ []
  pub enough : length requests ≤ 10000 → fits room (length requests)

-- a room for each of n samples from number k on
abbrev pub HaveRoom : {A U B : Type 0} → (U → ℕ → Type 0) → SeenNotes U B → (A → ℕ × ℕ) → ℕ → ℕ → List A → List U
    → Type 0
HaveRoom fits seen place k zero plan rooms = rooms ≡ []
HaveRoom fits seen place k (suc n) plan [] = ⊥
HaveRoom fits seen place k (suc n) plan (room ∷ rooms) =
    HasRoom fits seen (requests_first place k plan) room
    × HaveRoom fits seen place (suc k) n (drop (length (requests_first place k plan)) plan) rooms

-- the requests that are left after n samples from number k on
abbrev pub requests_after : {A : Type 0} → (A → ℕ × ℕ) → ℕ → ℕ → List A → List A
requests_after place k zero plan = plan
requests_after place k (suc n) plan =
    requests_after place (suc k) n (drop (length (requests_first place k plan)) plan)

-- the samples do not fall, from number k on
abbrev pub Follow : {A : Type 0} → (A → ℕ × ℕ) → ℕ → List A → Type 0
Follow place k [] = Unit {0}
Follow place k (r ∷ rs) = (k ≤ sample_in place r) × Follow place (sample_in place r) rs

-- Requests that a run can take: few, and their samples, counted from 1, do not fall.
pub record IsInOrder {A : Type 0} (place : A → ℕ × ℕ) (plan : List A) : Type 0 where
  pub few : length plan ≤ 10000
  pub follow : Follow place 1 plan
