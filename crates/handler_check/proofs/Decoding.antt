-- What stands encoded at a place is what is decoded there, and its first byte.
use Rattle.handler_check.proofs.Words.{◌<◌, ◌==◌, ◌≡◌, ◌≤◌, ◌⊎◌, ap, arith, Bool, false, false≢true, get_or, given}
use Rattle.handler_check.proofs.Words.{inl, inr, Instr, is_allowed, Kind, kind_of, LdaaImmediate, List, refl, Returns}
use Rattle.handler_check.proofs.Words.{Rti, size_of, StandsAt, true, ℕ}
use Rattle.std.proofs.Common.{rules}
use Rattle.cpu12_isa.specs.{Meaning.is_plain}

-- whether an instruction is allowed and is not RTI
abbrev pub steps : Kind → Bool
steps Returns = false
steps kind = true

abbrev pub is_stepping : Instr → Bool
is_stepping i = given false steps (kind_of i)

pub first_byte : (mem : List ℕ) (pc : ℕ) (i : Instr) → is_stepping i ≡ true → StandsAt mem pc i
    → (get_or mem pc 0 == 11) ≡ false
first_byte mem pc Rti a s = absurd (false≢true a)
first_byte mem pc i a s = ap (λ (k : ℕ). k == 11) s.0

pub plain_of : (i : Instr) → is_stepping i ≡ true → is_plain i ≡ true
plain_of (LdaaImmediate v) h = refl
plain_of i h = search rules

pub size_low : (i : Instr) → (0 < size_of i) × (size_of i ≤ 6)
size_low (LdaaImmediate v) = (omega arith, omega arith)
size_low i = (omega arith, omega arith)

-- RTI, or another
pub rti_or : (i : Instr) → is_allowed i ≡ true → (i ≡ Rti) ⊎ (is_stepping i ≡ true)
rti_or Rti a = inl refl
rti_or i a = inr a
