use Rattle.std.proofs.Common.{inl, inr, subst, rules}
use Rattle.fuzzy_meaning.specs.Blocks.{IsValidCondition}
use Rattle.error_bound.specs.{Reaches.IsEndOfCondition, Flattening.is_any}
use Rattle.error_bound.proofs.ends.+ends.Goals.{end_among-in-Some, end_among-in-None}
use Rattle.error_bound.proofs.FlatteningLemmas.{end_from, end_from_none}
use Rattle.error_bound.proofs.ListLemmas.{part_asks, part_is_valid, parts_ask}
use Rattle.error_bound.proofs.ends.+ends.Goals as goal

pub end_among-end_of_literal-end-requires-clause-literal : goal.end_among-end_of_literal-end-requires-clause-literal
end_among-end_of_literal-end-requires-clause-literal t c =
    subst (IsValidCondition _) c.in-Some.ensures
    (part_is_valid c.parts_are_valid.ensures _ _ c.index-parts-k.is c.requires.parts (search rules))

pub end_among-end_of-end-requires : goal.end_among-end_of-end-requires
end_among-end_of-end-requires t c =
    part_asks c.parts_are_valid.ensures _ _ c.index-parts-k.is c.requires.parts c.requires.table (search rules)

pub end_among-joined-joined-requires-clause-left : goal.end_among-joined-joined-requires-clause-left
end_among-joined-joined-requires-clause-left t c = elim c.match-literal_in.branch [
  | end_among-in-Some w ↦ rw w.end-is w.end_of_literal-end.ensures.small
  | end_among-in-None w ↦ rw w.end-is w.end_of-end.ensures.small
]

pub end_among-loop-k-preserved : goal.end_among-loop-k-preserved
end_among-loop-k-preserved t c =
    let b = c.args.table.now.table.now.block.now in
    let box = c.args.table.now.bytes.0.items in
    let part = c.index-parts-k.result in
    let q = c.match-literal_in.end in
    let made : IsEndOfCondition b box part c.args.side q = elim c.match-literal_in.branch [
      | end_among-in-Some w ↦ rw (w.end-is, w.in-Some.ensures) w.end_of_literal-end.ensures
      | end_among-in-None w ↦ rw w.end-is w.end_of-end.ensures
    ] in
    let m = c.joined-joined.ensures in
    end_from (is_any c.args.group) c.args.parts.now (search rules) (search rules) c.index-parts-k.is made
    c.loop-k.invariant m.value m.byte m.small

pub end_among-loop-k-init : goal.end_among-loop-k-init
end_among-loop-k-init t c =
    let m = c.of_none-joined.ensures in
    end_from_none (is_any c.args.group) c.args.parts.now m.value m.byte m.small

pub end_of-end_among-requires : goal.end_of-end_among-requires
end_of-end_among-requires t c =
    parts_ask _ c.condition.view_is (inl c.in-And.is) (search rules)

pub end_of-end_among-requires-in-Or : goal.end_of-end_among-requires-in-Or
end_of-end_among-requires-in-Or t c =
    parts_ask _ c.condition.view_is (inr c.in-Or.is) (search rules)
