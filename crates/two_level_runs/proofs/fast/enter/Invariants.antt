use Rattle.two_level_runs.proofs.Words.{◌++◌, ◌≡◌, drop, fast_map, length, pairs_of, placed, take}
use Rattle.two_level_runs.proofs.fast.enter.Given as goal

-- the writes that are there and those to come put all bytes
abbrev pub invariant-loop-k : goal.invariant-loop-k
invariant-loop-k g l = record {
  pairs : pairs_of (take l.k l.writes) ++ placed l.next (drop l.k l.bytes) ≡ placed fast_map.inputs l.bytes;
  len : length l.writes ≡ 8;
}
