-- The memory map of a firmware that stands alone.
-- Beside the promise.
use Rattle.eval_code.specs.declared.memory_map.MemoryMap.{MemoryMap}

abbrev pub main_map : MemoryMap
main_map = record {
  code = 0xC000;
  wait = 0xC008;
  interrupt = 0xC015;
  eval = 0xC016;
  tables = 0xD000;
  singletons = 0xD200;
  weights = 0xD300;
  rules = 0xD800;
  sample_flag = 0x1000;
  samples = 0x1001;
  inputs = 0x1001;
  outputs = 0x1010;
  slots = 0x1100;
}
