-- A block's items at the addresses of any memory map: where they give bytes, and what stands there in an image of them.
-- Beside the promise.
use Rattle.std.specs.Prelude.{◌≡◌, ◌≢◌, ℕ, ◌+◌, ◌^◌, ◌<◌, ◌≤◌, ◌⊎◌, List, ◌∷◌, ◌++◌, length, All, None}
use Rattle.fuzzy_meaning.specs.{declared.block.Block.Block, Blocks.IsValid}
use Rattle.rule_layout.specs.Layouts.{IsWithinLimits, weights_of}
use Rattle.cpu12_isa.specs.{declared.instr.Instr.Instr, Agreement.AgreeBetween, Code.code_bytes}
use Rattle.cpu12_asm.specs.declared.{items.Item.Item, items.Item.TheVariants.Place}
use Rattle.cpu12_asm.specs.{Bytes.byte_at, Bytes.Holds, Items.given_by, Items.IsRisingFrom, Items.IsRising}
use Rattle.cpu12_asm.specs.Laws.{GiveBytes}
use Rattle.cpu12_emul.specs.Image.{image_memory}
use Rattle.eval_code.specs.declared.memory_map.MemoryMap.{MemoryMap}
use Rattle.eval_code.specs.Data.{table_bytes, singleton_bytes, weight_bytes, rule_bytes}
use Rattle.eval_code.specs.Evaluation.{HasBytes, HasEval, eval_bytes}
use Rattle.byte_scaling.specs.declared.width.Width.{Width}
use Rattle.eval_code.specs.{Code.block_code, Items.block_items, Items.IsApart}

-- EVAL's bytes are so many at most
abbrev pub eval_room : ℕ
eval_room = 2416

-- with this code before and behind EVAL each part ends where the next begins, or before
pub record IsInOrder (l : MemoryMap) (before behind : List Instr) : Type 0 where
  pub eval : l.eval ≡ l.code + length (code_bytes before)
  pub code : l.eval + eval_room + length (code_bytes behind) ≤ l.tables
  pub tables : l.tables + 480 ≤ l.singletons
  pub singletons : l.singletons + 60 ≤ l.weights
  pub weights : l.weights + 512 ≤ l.rules
  pub rules : l.rules + 9984 ≤ 2 ^ 16

-- A block's items go up, and items behind them that go up from the rule list's end.
abbrev pub BlockRises : Type 0
BlockRises =
    (at : ℕ) (l : MemoryMap) (b : Block) (w : Width) (before behind : List Instr) (rest : List Item)
    → IsInOrder l before behind → IsValid b → IsWithinLimits b → at ≤ l.code → IsRisingFrom (l.rules + 9984) rest
    → IsRisingFrom at (block_items l b w before behind ++ rest)

-- They are few.
abbrev pub BlockIsShort : Type 0
BlockIsShort =
    (l : MemoryMap) (b : Block) (w : Width) (before behind : List Instr) → IsValid b → IsWithinLimits b
    → length (block_items l b w before behind)
    ≤ length (code_bytes before) + length (code_bytes behind) + 13457

-- each part of a block's data has a byte, and so many at most
pub record HasParts (l : MemoryMap) (b : Block) : Type 0 where
  pub tables : (1 ≤ length (table_bytes b)) × (length (table_bytes b) ≤ 480)
  pub singletons : (1 ≤ length (singleton_bytes b)) × (length (singleton_bytes b) ≤ 60)
  pub weights : (1 ≤ length (weights_of b)) × (length (weights_of b) ≤ 512)
  pub rules : (1 ≤ length (rule_bytes l.slots b)) × (length (rule_bytes l.slots b) ≤ 9984)

abbrev pub BlockHasParts : Type 0
BlockHasParts = (l : MemoryMap) (b : Block) → IsValid b → IsWithinLimits b → HasParts l b

-- They give bytes from the code to the rule list's end alone.
abbrev pub BlockStaysInside : Type 0
BlockStaysInside =
    (l : MemoryMap) (b : Block) (w : Width) (before behind : List Instr) (at : ℕ) → IsInOrder l before behind
    → IsValid b
    → IsWithinLimits b → (at < l.code) ⊎ (l.rules + 9984 ≤ at)
    → byte_at (given_by (block_items l b w before behind)) at ≡ None

-- an address is one of so many from another on
abbrev pub IsWithin : ℕ → ℕ → ℕ → Type 0
IsWithin at from size = (from ≤ at) × (at < from + size)

-- They give bytes at their parts alone, and items behind them that begin with a place give what they give alone.
abbrev pub BlockGivesAtParts : Type 0
BlockGivesAtParts =
    (l : MemoryMap) (b : Block) (w : Width) (before behind : List Instr) (more : List Item) (p at : ℕ)
    → byte_at (given_by (block_items l b w before behind ++ (Place p ∷ more))) at ≢ None
    → IsWithin at l.code (length (code_bytes (block_code l b w before behind)))
    ⊎ IsWithin at l.tables (length (table_bytes b)) ⊎ IsWithin at l.singletons (length (singleton_bytes b))
    ⊎ IsWithin at l.weights (length (weight_bytes b)) ⊎ IsWithin at l.rules (length (rule_bytes l.slots b))
    ⊎ (byte_at (given_by (Place p ∷ more)) at ≢ None)

-- Items that stand behind others, from a place of their own on, give what they give alone.
abbrev pub GivesBehind : Type 0
GivesBehind =
    (items behind : List Item) (at : ℕ)
    → given_by (items ++ (Place at ∷ behind)) ≡ given_by items ++ given_by (Place at ∷ behind)

-- What they give are bytes, where those of the code around EVAL are.
abbrev pub BlockGivesBytes : Type 0
BlockGivesBytes =
    (l : MemoryMap) (b : Block) (w : Width) (before behind : List Instr) → IsApart l → IsValid b
    → All (λ v. v < 2 ^ 8) (code_bytes before) → All (λ v. v < 2 ^ 8) (code_bytes behind)
    → GiveBytes (given_by (block_items l b w before behind))

-- EVAL stands in memory with its data, between this code
pub record StandsBetween (l : MemoryMap) (b : Block) (w : Width) (before behind : List Instr) (mem : List ℕ)
    : Type 0 where
  pub front : HasBytes mem l.code (code_bytes before)
  pub eval : HasEval l b w mem
  pub back : HasBytes mem (l.eval + length (eval_bytes l b w)) (code_bytes behind)
  pub room : length (eval_bytes l b w) ≤ eval_room

-- So it does in a memory that has from the code to the rule list's end the bytes of an image of items that go up, of
-- which these are some.
abbrev pub BlockStands : Type 0
BlockStands =
    (image : List (ℕ × ℕ)) (mem : List ℕ) (front rest : List Item) (l : MemoryMap) (b : Block) (w : Width)
    (before behind : List Instr) → IsInOrder l before behind → IsValid b → IsWithinLimits b
    → Holds image (given_by (front ++ (block_items l b w before behind ++ rest)))
    → IsRising (front ++ (block_items l b w before behind ++ rest))
    → AgreeBetween l.code (l.rules + 9984) (image_memory image) mem
    → StandsBetween l b w before behind mem
