-- Items that never go back can be placed.
use Rattle.std.proofs.Common.{◌≡◌, ℕ, ◌+◌, ◌^◌, ◌<◌, ◌≤◌, List, [], ◌∷◌, ◌++◌, length, Option, None, Some, IsSome}
use Rattle.std.proofs.Common.{refl, ◌∙◌, ap, subst, arith, nat_cmp}
use Rattle.std.proofs.lemmas.Bool.Decides.{nat_tests}
use Rattle.std.specs.{List.AllByRecursion, List.Sorted.IsStrictlySortedBy, Map.keys_of}
use Rattle.std.specs.declared.cmp.Ordering.TheVariants.{Less}
use Rattle.cpu12_asm.specs.{declared.items.Item.Item, Bytes.byte_at, Bytes.placed, Bytes.FitsMemory}
use Rattle.cpu12_asm.specs.{Bytes.IsAscending, Bytes.IsGivenOnce, Rising.RisingBytesAscend}
use Rattle.cpu12_asm.specs.declared.items.Item.TheVariants.{Place, Byte, Op}
use Rattle.cpu12_asm.specs.Items.{item_bytes, place_after, place_behind, place_of, given_from, given_by, FailsFirst}
use Rattle.cpu12_asm.specs.Items.{PassesEnd, WritesOver, IsRisingFrom, IsRising}
use Rattle.cpu12_asm.proofs.Placing.{or_else, byte_at-append, byte_at-placed}
use Rattle.cpu12_asm.proofs.Writing.{IsAscending-rest, byte_at-behind}

-- one item, and the others behind it
pub rising_head : (at : ℕ) (item : Item) (items : List Item) → IsRisingFrom at (item ∷ items)
    → (at + length (item_bytes item) ≤ place_after at item) × IsRisingFrom (place_after at item) items
rising_head at (Place to) items h = (omega (arith, h.0), h.1)
rising_head at (Byte byte) items h = (omega arith, h)
rising_head at (Op instruction) items h = (omega arith, h)

-- the end is no lower than the start, and within the memory
pub rising_end : (at : ℕ) (items : List Item) → IsRisingFrom at items
    → (at ≤ place_behind at items) × (place_behind at items ≤ 2 ^ 16)
rising_end at [] h = (omega arith, h)
rising_end at (item ∷ items) h =
    let head = rising_head at item items h in
    let rest = rising_end (place_after at item) items head.1 in
    (omega (arith, head.0, rest.0), rest.1)

-- what stands before an item and what stands from it on
pub rising_parts : (at : ℕ) (xs ys : List Item) → IsRisingFrom at (xs ++ ys) → IsRisingFrom (place_behind at xs) ys
rising_parts at [] ys h = h
rising_parts at (item ∷ xs) ys h = rising_parts (place_after at item) xs ys (rising_head at item (xs ++ ys) h).1

-- going up
end_up : (at : ℕ) (xs ys : List Item) → IsRisingFrom at (xs ++ ys) → at ≤ place_behind at xs
end_up at [] ys h = omega arith
end_up at (item ∷ xs) ys h =
    let head = rising_head at item (xs ++ ys) h in
    let rest = end_up (place_after at item) xs ys head.1 in
    omega (arith, head.0, rest)

-- no byte stands from the end on
byte_at-end : (at q : ℕ) (xs ys : List Item) → IsRisingFrom at (xs ++ ys) → place_behind at xs ≤ q
    → byte_at (given_from at xs) q ≡ None
byte_at-end at q [] ys h low = refl
byte_at-end at q (item ∷ xs) ys h low =
    let head = rising_head at item (xs ++ ys) h in
    let rest : byte_at (given_from (place_after at item) xs) q ≡ None =
    byte_at-end (place_after at item) q xs ys head.1 low in
    let up = end_up (place_after at item) xs ys head.1 in
    byte_at-append q (placed at (item_bytes item)) (given_from (place_after at item) xs)
    ∙ ap (λ o. or_else o (byte_at (given_from (place_after at item) xs) q))
    (byte_at-placed at q (item_bytes item) (omega (arith, head.0, up)))
    ∙ rest

not_given : (o : Option ℕ) → o ≡ None → IsSome o → ⊥
not_given None e h = cc
not_given (Some x) e h = cc

-- items that never go back pass no end
pub no_end_passed : (items : List Item) (n : ℕ) → IsRising items → FailsFirst PassesEnd items n → ⊥
no_end_passed items n h fails =
    let whole : IsRisingFrom 0 (fails.before ++ (fails.item ∷ fails.behind)) =
    subst (λ (xs : List Item). IsRisingFrom 0 xs) fails.parts h in
    let here = rising_parts 0 fails.before (fails.item ∷ fails.behind) whole in
    let head = rising_head (place_of fails.before) fails.item fails.behind here in
    let end = rising_end (place_after (place_of fails.before) fails.item) fails.behind head.1 in
    omega (arith, fails.fails, head.0, end.0, end.1)

-- and write over nothing
pub nothing_written_over : (items : List Item) (n : ℕ) → IsRising items → FailsFirst WritesOver items n → ⊥
nothing_written_over items n h fails =
    let whole : IsRisingFrom 0 (fails.before ++ (fails.item ∷ fails.behind)) =
    subst (λ (xs : List Item). IsRisingFrom 0 xs) fails.parts h in
    let q = place_of fails.before + fails.fails.k in
    let none = byte_at-end 0 q fails.before (fails.item ∷ fails.behind) whole (omega arith) in
    not_given (byte_at (given_by fails.before) q) none fails.fails.given

-- ---- what they give

-- these stand in the memory from an address on, each above those before it
abbrev AscendFrom : ℕ → List (ℕ × ℕ) → Type 0
AscendFrom at [] = Unit {0}
AscendFrom at (b ∷ bytes) = (at ≤ b.0) × (b.0 < 2 ^ 16) × AscendFrom (b.0 + 1) bytes

from_lower : (at end : ℕ) (bytes : List (ℕ × ℕ)) → at ≤ end → AscendFrom end bytes → AscendFrom at bytes
from_lower at end [] low h = tt
from_lower at end (b ∷ bytes) low h = (omega (arith, h.0), h.1, h.2)

placed_ascend : (at end : ℕ) (xs : List ℕ) (bytes : List (ℕ × ℕ)) → at + length xs ≤ end → end ≤ 2 ^ 16
    → AscendFrom end bytes → AscendFrom at (placed at xs ++ bytes)
placed_ascend at end [] bytes low high h = from_lower at end bytes (omega arith) h
placed_ascend at end (x ∷ xs) bytes low high h =
    (omega arith, omega arith, placed_ascend (at + 1) end xs bytes (omega arith) high h)

given_ascend : (at : ℕ) (items : List Item) → IsRisingFrom at items → AscendFrom at (given_from at items)
given_ascend at [] h = tt
given_ascend at (item ∷ items) h =
    let head = rising_head at item items h in
    let next = place_after at item in
    let end = rising_end next items head.1 in
    placed_ascend at next (item_bytes item) (given_from next items) head.0 (omega (arith, end.0, end.1))
    (given_ascend next items head.1)

less : (p q : ℕ) → p < q → nat_cmp p q ≡ Less
less p q h = grind (arith, nat_tests)

keys_above : (p at : ℕ) (bytes : List (ℕ × ℕ)) → p < at → AscendFrom at bytes
    → AllByRecursion (λ q. nat_cmp p q ≡ Less) (keys_of bytes)
keys_above p at [] low h = tt
keys_above p at (b ∷ bytes) low h =
    (less p b.0 (omega (arith, h.0)), keys_above p (b.0 + 1) bytes (omega (arith, h.0)) h.2)

ascending : (at : ℕ) (bytes : List (ℕ × ℕ)) → AscendFrom at bytes → IsAscending bytes
unfolding IsStrictlySortedBy
ascending at [] h = tt
ascending at (b ∷ bytes) h =
    (keys_above b.0 (b.0 + 1) bytes (omega arith) h.2, ascending (b.0 + 1) bytes h.2)

in_memory : (at : ℕ) (bytes : List (ℕ × ℕ)) → AscendFrom at bytes → FitsMemory bytes
in_memory at [] h = tt
in_memory at (b ∷ bytes) h = (h.1, in_memory (b.0 + 1) bytes h.2)

given_once : (bytes : List (ℕ × ℕ)) → IsAscending bytes → IsGivenOnce bytes
given_once [] h = tt
given_once (b ∷ bytes) h =
    (byte_at-behind b bytes b.0 h (omega arith), given_once bytes (IsAscending-rest b bytes h))

pub bytes_ascend : RisingBytesAscend
bytes_ascend items h =
    let given = given_ascend 0 items h in
    let ascend = ascending 0 (given_by items) given in
    (ascend, record { once = given_once (given_by items) ascend; fits = in_memory 0 (given_by items) given })
