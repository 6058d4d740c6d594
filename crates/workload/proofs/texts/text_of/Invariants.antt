use Rattle.std.proofs.Common.{◌≡◌, ◌++◌}
use Rattle.std.specs.Prelude.{flat_map}
use Rattle.std.specs.List.{range_with_len}
use Rattle.workload.specs.{Texts.rule_text, declared.texts.TheConstants.VARIABLES}
use Rattle.workload.proofs.texts.text_of.Given as goal

abbrev pub invariant-loop-n : goal.invariant-loop-n
invariant-loop-n l = l.text.items ≡ VARIABLES ++ flat_map (rule_text l.shift) (range_with_len 0 l.n)
