use Rattle.std.proofs.Common.{◌≡◌, ◌≤◌, ◌+◌, length}
use Rattle.debug_script.specs.Scripts.{orders_from, pieces, script_of}
use Rattle.debug_script.proofs.ScriptLemmas.{before}
use Rattle.debug_script.proofs.reader.read_script.Given as goal

abbrev pub invariant-loop-rest : goal.invariant-loop-rest
invariant-loop-rest l = record {
  short : l.number + length l.rest ≤ length l.text;
  small : length l.text ≤ 1048576;
  so_far : script_of l.text ≡ before l.orders.items (orders_from (l.number + 1) (pieces l.rest));
}

abbrev pub decreases-loop-rest : goal.decreases-loop-rest
decreases-loop-rest l = length l.rest
