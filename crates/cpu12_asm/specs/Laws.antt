-- What holds of every source, and of all bytes of images.
-- Beside the promise.
use Rattle.std.specs.Prelude.{ℕ, ◌≡◌, ◌≢◌, ◌^◌, ◌<◌, List, All, Result, Ok, Err}
use Rattle.cpu12_asm.specs.{Bytes.Holds, Bytes.IsAscending, Bytes.byte_at, Giving.Given, Sources.assembled}
use Rattle.cpu12_asm.specs.declared.items.AsmFault.{AsmFault}
use Rattle.cpu12_asm.specs.declared.items.AsmFault.TheVariants as fault

-- a source has one first fault at most, and none where it gives bytes
abbrev pub SourcesHaveOneFault : Type 0
SourcesHaveOneFault = (source : List ℕ) (why : AsmFault) → assembled source ≡ Err why
    → ((other : AsmFault) → assembled source ≡ Err other → why ≡ other) × ((g : Given) → assembled source ≡ Ok g → ⊥)

-- and each gives bytes that an image holds, whose addresses ascend, or has a fault, which is never want of memory
abbrev pub IsSourceAnswer : Result Given AsmFault → Type 0
IsSourceAnswer (Ok g) = (image : List (ℕ × ℕ)) × IsAscending image × Holds image g.bytes
IsSourceAnswer (Err f) = f ≢ fault.Memory

abbrev pub EachSourceIsJudged : Type 0
EachSourceIsJudged = (source : List ℕ) → IsSourceAnswer (assembled source)

-- bytes whose addresses ascend are one list where each address has the same byte or none
abbrev pub AscendingBytesAreOne : Type 0
AscendingBytesAreOne = (bytes others : List (ℕ × ℕ)) → IsAscending bytes → IsAscending others
    → ((at : ℕ) → byte_at bytes at ≡ byte_at others at) → bytes ≡ others

-- bytes of memory, at their addresses
abbrev pub GiveBytes : List (ℕ × ℕ) → Type 0
GiveBytes given = All (λ p. p.1 < 2 ^ 8) given

-- what a source gives are bytes
abbrev pub SourcesGiveBytes : Type 0
SourcesGiveBytes = (source : List ℕ) (g : Given) → assembled source ≡ Ok g → GiveBytes g.bytes
