-- Where a fast block stands beside the firmware of a slow one.
-- Beside the promise.
use Rattle.std.specs.Prelude.{ℕ, ◌+◌, ◌-◌, List, [], ◌∷◌, nat_le, nat_lt, ◌&&◌, ◌||◌, Bool}
use Rattle.cpu12_isa.specs.declared.{instr.Instr.Instr, instr.Instr.TheVariants.Andcc, instr.Instr.TheVariants.Rti}
use Rattle.cpu12_isa.specs.Regions.{is_free, is_vector}
use Rattle.eval_code.specs.{declared.memory_map.MemoryMap.MemoryMap, MemoryMaps.main_map}

-- a place in ROM, and one in RAM, of a firmware that stands alone: where the fast block has it
abbrev pub lowered : ℕ → ℕ
lowered at = at - 0x8000

abbrev pub raised : ℕ → ℕ
raised at = at + 0x0400

-- Interrupts are let in, EVAL follows, and it ends by a return from the interrupt in which it runs.
abbrev pub fast_front : List Instr
fast_front = Andcc 0xEF ∷ []

abbrev pub fast_back : List Instr
fast_back = Rti ∷ []

-- the memory map of a fast block, which waits for nothing: the interrupt's vector holds its first instruction
abbrev pub fast_map : MemoryMap
fast_map = record {
  code = lowered main_map.code;
  wait = lowered main_map.wait;
  interrupt = lowered main_map.code;
  eval = lowered main_map.code + 2;
  tables = lowered main_map.tables;
  singletons = lowered main_map.singletons;
  weights = lowered main_map.weights;
  rules = lowered main_map.rules;
  sample_flag = raised main_map.sample_flag;
  samples = raised main_map.samples;
  inputs = raised main_map.inputs;
  outputs = raised main_map.outputs;
  slots = raised main_map.slots;
}

-- the slow firmware's where a fast block stands beside it
abbrev pub slow_map : MemoryMap
slow_map = record main_map { interrupt = fast_map.interrupt }

-- the address behind the fast block's ROM, $7F00, and behind its RAM
abbrev pub fast_rom_end : ℕ
fast_rom_end = fast_map.rules + 9984

abbrev pub fast_ram_end : ℕ
fast_ram_end = fast_map.slots + 300

-- the fast block's RAM: READY, the inputs, the outputs and the slots; and its ROM
abbrev pub is_fast_ram : ℕ → Bool
is_fast_ram at = nat_le fast_map.sample_flag at && nat_lt at fast_ram_end

abbrev pub is_fast_rom : ℕ → Bool
is_fast_rom at = nat_le fast_map.code at && nat_lt at fast_rom_end

-- Beside the run of the slow firmware both belong to its interrupts, with their vector and the free bytes.
abbrev pub is_open_to_fast : ℕ → Bool
is_open_to_fast at = is_free at || (is_fast_ram at || (is_fast_rom at || is_vector at))
