use Rattle.std.proofs.Common.{◌≡◌, length, drop}
use Rattle.error_bound.specs.{Boxes.rule_byte_span, Masses.AreGreatest, Tight.low_part, Tight.high_part}
use Rattle.error_bound.proofs.tables.BoxTable.masses.Given as goal

abbrev pub invariant-loop-n : goal.invariant-loop-n
invariant-loop-n l = record {
  lows_count : length l.lows ≡ 15;
  highs_count : length l.highs ≡ 15;
  byte_lows_count : length l.byte_lows ≡ 15;
  byte_highs_count : length l.byte_highs ≡ 15;
  lows : AreGreatest (low_part l.self.table.now.block.now l.self.bytes.0.items) 255000000000 l.out (drop l.n l.rules) l.lows;
  highs : AreGreatest (high_part l.self.table.now.block.now l.self.bytes.0.items) 255000000000 l.out (drop l.n l.rules) l.highs;
  byte_lows : AreGreatest (λ r. (rule_byte_span l.self.table.now.block.now l.self.bytes.0.items r).low) 255 l.out (drop l.n l.rules)
      l.byte_lows;
  byte_highs : AreGreatest (λ r. (rule_byte_span l.self.table.now.block.now l.self.bytes.0.items r).high) 255 l.out (drop l.n l.rules)
      l.byte_highs;
}
