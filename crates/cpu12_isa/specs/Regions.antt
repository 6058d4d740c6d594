-- The regions of memory that interrupts use, and what they may change.
-- Reached by the promise.
use Rattle.std.specs.Prelude.{◌≡◌, ℕ, ◌+◌, ◌<◌, ◌≤◌, ◌⊎◌, ◌&&◌, ◌||◌, nat_le, nat_lt, Bool, true, List, slice_index}
use Rattle.cpu12_isa.specs.Memory.{word_of}

-- the first of the free bytes, which go up to the stack
abbrev pub free_start : ℕ
free_start = 0x1800

-- the first byte of the stack, and the address after its last one
abbrev pub stack_start : ℕ
stack_start = 0x1FE0

abbrev pub stack_end : ℕ
stack_end = 0x2000

-- a free byte, which the firmware neither reads nor writes: $1800 to $1FDF
abbrev pub is_free : ℕ → Bool
is_free at = nat_le free_start at && nat_lt at stack_start

-- the first of the two bytes of the interrupt's vector (CPU12 Reference Manual, section 7), both, and the address there
abbrev pub vector : ℕ
vector = 0xFFF2

abbrev pub is_vector : ℕ → Bool
is_vector at = nat_le vector at && nat_lt at (vector + 2)

abbrev pub vector_word : List ℕ → ℕ
vector_word mem = word_of (slice_index mem vector) (slice_index mem (vector + 1))

-- what an interrupt may change: the bytes that are open to its handler, and the stack's bytes below SP
abbrev pub is_hidden : (ℕ → Bool) → ℕ → ℕ → Bool
is_hidden open_to sp at = open_to at || (nat_le stack_start at && nat_lt at sp)

-- what is open to handlers is not the stack
abbrev pub LeavesStack : (ℕ → Bool) → Type 0
LeavesStack open_to = (at : ℕ) → open_to at ≡ true → (at < stack_start) ⊎ (stack_end ≤ at)
