use Rattle.std.proofs.Common.{◌≡◌, length, drop}
use Rattle.error_bound.specs.{CellErrors.term_errors, Errors.rule_rise, Errors.rule_fall, Masses.AreGreatest}
use Rattle.error_bound.specs.Tight.{if_moving}
use Rattle.error_bound.proofs.tables.BoxTable.deviations.Given as goal

abbrev pub invariant-loop-n : goal.invariant-loop-n
invariant-loop-n l = record {
  rises_count : length l.rises ≡ 15;
  falls_count : length l.falls ≡ 15;
  rises : AreGreatest
      (λ r. if_moving l.self.table.now.block.now l.self.bytes.0.items r (rule_rise (term_errors l.self.table.now.block.now l.self.bytes.0.items) r))
      3000000000 l.out (drop l.n l.rules) l.rises;
  falls : AreGreatest
      (λ r. if_moving l.self.table.now.block.now l.self.bytes.0.items r (rule_fall (term_errors l.self.table.now.block.now l.self.bytes.0.items) r))
      3000000000 l.out (drop l.n l.rules) l.falls;
}
