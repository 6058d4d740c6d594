-- The items of EVAL and its data at a memory map, and the room that it keeps for them.
-- Beside the promise.
use Rattle.std.specs.Prelude.{ℕ, ◌+◌, ◌^◌, ◌<◌, ◌≤◌, List, ◌∷◌, ◌++◌, map}
use Rattle.fuzzy_meaning.specs.declared.block.Block.{Block}
use Rattle.cpu12_isa.specs.{declared.instr.Instr.Instr, Regions.free_start, Regions.stack_end}
use Rattle.cpu12_asm.specs.declared.items.Item.{Item}
use Rattle.cpu12_asm.specs.declared.items.Item.TheVariants.{Place, Byte, Op}
use Rattle.eval_code.specs.{declared.memory_map.MemoryMap.MemoryMap, Code.block_code}
use Rattle.eval_code.specs.Data.{table_bytes, singleton_bytes, weight_bytes, rule_bytes}
use Rattle.byte_scaling.specs.declared.width.Width.{Width}

-- instructions or bytes that stand at a place
abbrev pub code_at : ℕ → List Instr → List Item
code_at at code = Place at ∷ map Op code

abbrev pub bytes_at : ℕ → List ℕ → List Item
bytes_at at bytes = Place at ∷ map Byte bytes

-- a block's EVAL with the code before and behind it, its tables, singletons, weights and rule list
unfoldable pub block_items : MemoryMap → Block → Width → List Instr → List Instr → List Item
block_items l b w before behind =
    code_at l.code (block_code l b w before behind)
    ++ (bytes_at l.tables (table_bytes b)
    ++ (bytes_at l.singletons (singleton_bytes b)
    ++ (bytes_at l.weights (weight_bytes b)
    ++ bytes_at l.rules (rule_bytes l.slots b))))

-- each address that the code needs stands in memory
pub record HasRoom (l : MemoryMap) : Type 0 where
  pub inputs : l.inputs + 8 < 2 ^ 16
  pub outputs : l.outputs + 8 < 2 ^ 16
  pub slots : l.slots + 1024 < 2 ^ 16
  pub singletons : l.singletons + 64 < 2 ^ 16

-- the regions that a memory map keeps for a block: those of RAM one above another below FREE, and those of ROM above it
pub record IsApart (l : MemoryMap) : Type 0 where
  pub inputs : l.inputs + 8 ≤ l.outputs
  pub outputs : l.outputs + 8 ≤ l.slots
  pub slots : l.slots + 300 ≤ free_start
  pub eval : stack_end ≤ l.eval
  pub eval_end : l.eval + 2432 < 2 ^ 16
  pub tables : stack_end ≤ l.tables
  pub tables_end : l.tables + 480 < 2 ^ 16
  pub singletons : stack_end ≤ l.singletons
  pub singletons_end : l.singletons + 60 < 2 ^ 16
  pub weights : stack_end ≤ l.weights
  pub weights_end : l.weights + 512 < 2 ^ 16
  pub rules : stack_end ≤ l.rules
  pub rules_end : l.rules + 9984 < 2 ^ 16
