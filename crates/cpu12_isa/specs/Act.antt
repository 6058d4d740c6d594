-- What a step of the machine reads, and what comes of it.
-- Reached by the promise.
use Rattle.std.specs.Prelude.{ℕ, List, [], ◌∷◌, slice_index, slice_set}

-- Bytes are read one after the other, each at an address that may hang on those before, and then comes a value.
pub data Act (A : Type 0) : Type 0 where
  Give : A → Act A
  Get : ℕ → (ℕ → Act A) → Act A

-- the value on a memory
abbrev pub outcome : {A : Type 0} → Act A → List ℕ → A
outcome (Give a) mem = a
outcome (Get at next) mem = outcome (next (slice_index mem at)) mem

-- the addresses that are read on a memory, in order
abbrev pub read_by : {A : Type 0} → Act A → List ℕ → List ℕ
read_by (Give a) mem = []
read_by (Get at next) mem = at ∷ read_by (next (slice_index mem at)) mem

-- one act, and then another that its value chooses
abbrev pub bind : {A B : Type 0} → Act A → (A → Act B) → Act B
bind (Give a) f = f a
bind (Get at next) f = Get at (λ v. bind (next v) f)

-- reads the bytes at all of these addresses
abbrev pub get_all : {A : Type 0} → List ℕ → (List ℕ → Act A) → Act A
get_all [] next = next []
get_all (at ∷ ats) next = Get at (λ v. get_all ats (λ vs. next (v ∷ vs)))

-- the memory after writes, each an address and a byte, in their order
abbrev pub write_all : List (ℕ × ℕ) → List ℕ → List ℕ
write_all [] mem = mem
write_all (w ∷ ws) mem = write_all ws (slice_set mem w.0 w.1)
