-- A block's items with the vectors behind them, by the laws of blocks at a memory map.
use Rattle.firmware_code.proofs.Words.{[], ℕ, ◌%◌, ◌++◌, ◌+◌, ◌/◌, ◌<◌, ◌^◌, ◌∷◌, ◌≤◌, arith, Block, block_items}
use Rattle.firmware_code.proofs.Words.{code_bytes, given_by, Holds, image_memory, Instr, IsApart, IsRising, IsValid}
use Rattle.firmware_code.proofs.Words.{length, length-append, List, LowerLaws, MemoryMap, refl, slots_of, StandsBetween}
use Rattle.firmware_code.proofs.Words.{subst, sym, vector_items, Width}
use Rattle.rule_layout.specs.Layouts.{IsWithinLimits}
use Rattle.eval_code.specs.Placed.{BlockIsShort, BlockRises, BlockStands, IsInOrder}
use Rattle.std.proofs.Common.{All}
use Rattle.rule_layout.specs.{Layouts.flat_of, Layouts.LayoutLaw}
use Rattle.cpu12_asm.specs.Laws.{GiveBytes}
use Rattle.std.proofs.lemmas.List.Elements.{All-nil, All-cons, All-append}

-- a memory map has room for the slots of a valid block
pub few_slots : LayoutLaw → (b : Block) → IsValid b → length (slots_of b) ≤ 300
unfolding flat_of
few_slots law b v = (law b v).few_slots

-- the items can be placed, and are few
pub whole_rises : BlockRises → (l : MemoryMap) (b : Block) (w : Width) (before behind : List Instr)
    → IsInOrder l before behind → IsValid b → IsWithinLimits b
    → l.rules + 9984 ≤ 0xFFF2 → IsRising (block_items l b w before behind ++ vector_items l)
whole_rises rises l b w before behind o v limits top =
    rises 0 l b w before behind (vector_items l) o v limits (omega arith) (omega arith, (omega arith, omega arith))

pub whole_is_short : BlockIsShort → (l : MemoryMap) (b : Block) (w : Width) (before behind : List Instr) → IsValid b
    → IsWithinLimits b
    → length (code_bytes before) + length (code_bytes behind) ≤ 1000
    → length (block_items l b w before behind ++ vector_items l) < 2 ^ 32
whole_is_short short l b w before behind v limits few =
    omega (arith, length-append (block_items l b w before behind) (vector_items l), short l b w before behind v limits)

-- EVAL stands among them
pub whole_stands : BlockStands
    → (image : List (ℕ × ℕ)) (l : MemoryMap) (b : Block) (w : Width) (before behind : List Instr)
    → IsInOrder l before behind
    → IsValid b → IsWithinLimits b → Holds image (given_by (block_items l b w before behind ++ vector_items l))
    → IsRising (block_items l b w before behind ++ vector_items l)
    → StandsBetween l b w before behind (image_memory image)
whole_stands stands image l b w before behind o v limits h rise =
    stands image (image_memory image) [] (vector_items l) l b w before behind o v limits h rise (λ at from to. refl)

-- the vectors are bytes
abbrev Fits : ℕ × ℕ → Type 0
Fits p = p.1 < 2 ^ 8

four : (a b c d : ℕ × ℕ) → Fits a → Fits b → Fits c → Fits d → All Fits (a ∷ b ∷ c ∷ d ∷ [])
four a b c d p q r s =
    All-cons Fits a (b ∷ c ∷ d ∷ []) p
    (All-cons Fits b (c ∷ d ∷ []) q (All-cons Fits c (d ∷ []) r (All-cons Fits d [] s (All-nil Fits))))

vectors_fit : (l : MemoryMap) → l.interrupt < 65536 → l.code < 65536 → GiveBytes (given_by (vector_items l))
vectors_fit l i c =
    four (0xFFF2, l.interrupt / 2 ^ 8) (0xFFF3, l.interrupt % 2 ^ 8) (0xFFFE, l.code / 2 ^ 8) (0xFFFF, l.code % 2 ^ 8)
    (omega arith) (omega arith) (omega arith) (omega arith)

-- what they give are bytes, where those of the code around EVAL are
pub whole_fits : LowerLaws → (l : MemoryMap) (b : Block) (w : Width) (before behind : List Instr) → IsApart l
    → IsValid b
    → All (λ v. v < 2 ^ 8) (code_bytes before)
    → All (λ v. v < 2 ^ 8) (code_bytes behind) → l.interrupt < 65536 → l.code < 65536
    → GiveBytes (given_by (block_items l b w before behind ++ vector_items l))
whole_fits laws l b w before behind a v front back i c =
    let items = block_items l b w before behind in
    let fit = laws.bytes l b w before behind a v front back in
    subst GiveBytes (sym (laws.behind items _ 0xFFF2))
    (All-append Fits (given_by items) (given_by (vector_items l)) fit (vectors_fit l i c))
