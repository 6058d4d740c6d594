-- Rows of two numbers and writes, each of which spells an entry: a request of a plan, or a post.
-- Reached by the promise.
use Rattle.std.specs.Prelude.{◌≡◌, ◌<◌, ◌≤◌, ◌+◌, ◌*◌, ℕ, List, [], ◌∷◌, ◌++◌, length, drop, All, Option, Some, None}
use Rattle.std.specs.Prelude.{Result, Ok, Err, slice_index, nat_le, ◌&&◌, true, false, if◌then◌else◌}
use Rattle.hex.specs.{Hex.decode_sized, declared.error.FromHexError.FromHexError}
use Rattle.fz_num.specs.Decimals.{are_digits, number}
use Rattle.cpu12_isa.specs.{declared.instr.Write.Write, Regions.is_free}
use Rattle.trace_io.specs.FirstRows.{Fields, AreFirstRows}
use Rattle.interrupt_plan.specs.declared.PlanFault.{PlanFault}
use Rattle.interrupt_plan.specs.declared.PlanFault.TheVariants.{BadRow, NotFree, NotAscending, TooMany}
use Rattle.std.specs.Prelude.{◌⊎◌}

-- ---- order

-- of two samples with moments in them, the first does not come after the second
abbrev pub NoLaterThan : ℕ × ℕ → ℕ × ℕ → Type 0
NoLaterThan a b = (a.0 < b.0) ⊎ ((a.0 ≡ b.0) × (a.1 ≤ b.1))

-- none of a list comes after the one behind it
abbrev pub Ascend : {E : Type 0} → (E → E → Type 0) → List E → Type 0
Ascend NotAfter [] = Unit {0}
Ascend NotAfter (a ∷ []) = Unit {0}
Ascend NotAfter (a ∷ b ∷ rest) = NotAfter a b × Ascend NotAfter (b ∷ rest)

-- the number of one to nine decimal digits
abbrev pub count_of : List ℕ → Option ℕ
count_of field = if nat_le (length field) 9 && are_digits field then Some (number field) else None

-- the number of four, and of two, hexadecimal digits of either case
abbrev pub word_of : Result (List ℕ) FromHexError → Option ℕ
word_of (Ok bytes) = Some (slice_index bytes 0 * 256 + slice_index bytes 1)
word_of (Err e) = None

abbrev pub byte_of : Result (List ℕ) FromHexError → Option ℕ
byte_of (Ok bytes) = Some (slice_index bytes 0)
byte_of (Err e) = None

-- the write of an address and a value
abbrev pub the_write : Option ℕ → Option ℕ → Option Write
the_write (Some at) (Some value) = Some (record { at = at; value = value })
the_write (Some at) None = None
the_write None value = None

abbrev pub write_of : List ℕ → List ℕ → Option Write
write_of address value = the_write (word_of (decode_sized address 2)) (byte_of (decode_sized value 1))

-- the writes of fields in pairs
abbrev pub with_write : Option Write → Option (List Write) → Option (List Write)
with_write (Some w) (Some ws) = Some (w ∷ ws)
with_write (Some w) None = None
with_write None ws = None

abbrev pub writes_of : Fields → Option (List Write)
writes_of [] = Some []
writes_of (address ∷ []) = None
writes_of (address ∷ value ∷ fields) = with_write (write_of address value) (writes_of fields)

-- the first two fields are these numbers
pub record HasNumbers (fields : Fields) (a b : ℕ) : Type 0 where
  pub first_text : List ℕ
  pub second_text : List ℕ
  pub pairs : Fields
  pub fields_are : fields ≡ first_text ∷ second_text ∷ pairs
  pub first_is : count_of first_text ≡ Some a
  pub second_is : count_of second_text ≡ Some b

-- the fields are two numbers and at most eight writes
pub record SpellsRow (fields : Fields) (a b : ℕ) (writes : List Write) : Type 0 where
  pub numbers : HasNumbers fields a b
  pub writes_are : writes_of (drop 2 fields) ≡ Some writes
  pub few : length writes ≤ 8

-- each write is to a free byte
abbrev pub AreFree : List Write → Type 0
AreFree writes = All (λ w. is_free w.at ≡ true) writes

-- the address of the first write that is not
pub record IsFirstTaken (writes : List Write) (at : ℕ) : Type 0 where
  pub before : List Write
  pub write : Write
  pub after : List Write
  pub writes_are : writes ≡ before ++ write ∷ after
  pub free : AreFree before
  pub taken : is_free write.at ≡ false
  pub address : at ≡ write.at

-- An entry is told by the fields that spell it, what it writes, and before which entries it may stand.

-- the entry comes before the last of those that stand before it
pub record FallsBehind {E : Type 0} (NotAfter : E → E → Type 0) (before : List E) (e : E) : Type 0 where
  pub front : List E
  pub last : E
  pub before_is : before ≡ front ++ last ∷ []
  pub falls : NotAfter last e → ⊥

-- row number n fails, behind rows that spell these entries
pub data RowFails {E : Type 0} (Spells : Fields → E → Type 0) (writes : E → List Write) (NotAfter : E → E → Type 0)
    (before : List E) (n : ℕ) (fields : Fields) : PlanFault → Type 0 where
  unread : ((e : E) → Spells fields e → ⊥) → RowFails Spells writes NotAfter before n fields (BadRow n)
  not_free : (e : E) (at : ℕ) → Spells fields e → IsFirstTaken (writes e) at
      → RowFails Spells writes NotAfter before n fields (NotFree n at)
  not_ascending : (e : E) → Spells fields e → AreFree (writes e) → FallsBehind NotAfter before e
      → RowFails Spells writes NotAfter before n fields (NotAscending n)

-- the rows spell these entries
abbrev pub SpellAll : {E : Type 0} → (Fields → E → Type 0) → List Fields → List E → Type 0
SpellAll Spells [] [] = Unit {0}
SpellAll Spells [] (e ∷ es) = ⊥
SpellAll Spells (row ∷ rows) [] = ⊥
SpellAll Spells (row ∷ rows) (e ∷ es) = Spells row e × SpellAll Spells rows es

-- at most 10000 entries that write free bytes alone, none after the one behind it
pub record AreInOrder {E : Type 0} (writes : E → List Write) (NotAfter : E → E → Type 0) (es : List E) : Type 0 where
  pub few : length es ≤ 10000
  pub free : All (λ e. AreFree (writes e)) es
  pub ascends : Ascend NotAfter es

-- the first fault of rows: that of the first row that fails, where it is among the first 10000,
-- and else that there are more
pub data FirstFault {E : Type 0} (Spells : Fields → E → Type 0) (writes : E → List Write) (NotAfter : E → E → Type 0)
    (rows : List Fields) : PlanFault → Type 0 where
  at_row : (before : List Fields) (row : Fields) (after : List Fields) (es : List E) (fault : PlanFault)
      → rows ≡ before ++ row ∷ after → length before < 10000 → SpellAll Spells before es → AreInOrder writes NotAfter es
      → RowFails Spells writes NotAfter es (length before + 1) row fault → FirstFault Spells writes NotAfter rows fault
  more : (before : List Fields) (row : Fields) (after : List Fields) (es : List E)
      → rows ≡ before ++ row ∷ after → length before ≡ 10000
      → SpellAll Spells before es → AreInOrder writes NotAfter es → FirstFault Spells writes NotAfter rows TooMany

-- the text spells these entries, which are good
pub record SpellsText {E : Type 0} (Spells : Fields → E → Type 0) (Good : List E → Type 0) (text : List ℕ) (es : List E)
    : Type 0 where
  pub rows : List Fields
  pub first : AreFirstRows text rows
  pub few : length rows < 10001
  pub spelled : SpellAll Spells rows es
  pub good : Good es

-- the text has this fault first
pub record HasFirstFault {E : Type 0} (Spells : Fields → E → Type 0) (writes : E → List Write)
    (NotAfter : E → E → Type 0) (text : List ℕ) (fault : PlanFault) : Type 0 where
  pub rows : List Fields
  pub first : AreFirstRows text rows
  pub fault_is : FirstFault Spells writes NotAfter rows fault
