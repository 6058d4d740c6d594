use Rattle.std.proofs.Common.{◌≡◌}
use Rattle.fuzzy_meaning.specs.Conditions.{conditions}
use Rattle.error_bound.specs.Flattening.{followed, is_any}
use Rattle.error_bound.proofs.FlatteningLemmas.{come_from}
use Rattle.error_bound.proofs.flattening.+flattening.Given as goal

abbrev pub invariant-push_each-loop-part : goal.invariant-push_each-loop-part
invariant-push_each-loop-part l =
    followed (conditions l.pieces.items) (come_from (is_any l.group) l.odd l.parts l.part-index)
    ≡ followed (conditions l.initial.pieces.items) (come_from (is_any l.group) l.odd l.parts 0)
