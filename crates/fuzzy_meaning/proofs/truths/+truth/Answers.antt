use Rattle.std.proofs.Common.{◌≡◌, ◌-◌, ◌<◌, length, refl, sym, ap, ◌∙◌, subst, arith, rules}
use Rattle.std.proofs.lemmas.Option.{slice_get_read}
use Rattle.fuzzy_meaning.specs.{Blocks.IsValidCondition, Trees.tree}
use Rattle.fuzzy_meaning.specs.Conditions.{all, any, conditions, nodes}
use Rattle.fuzzy_meaning.proofs.{ConditionLemmas.parts_valid, Algebra.part_nodes}
use Rattle.fuzzy_meaning.proofs.truths.+truth.Goals as goal

pub truth-requires-in-loop-k : goal.truth-requires-in-loop-k
truth-requires-in-loop-k t c =
    let b = c.args.block.now in
    let items = c.in-And.parts.items in
    let same : c.args.condition.now ≡ all (conditions items) = sym c.condition.view_is ∙ ap tree c.in-And.is in
    let valid = subst (IsValidCondition b) same c.requires.condition in
    let within : c.loop-k.k - 1 < length items = search rules in
    let part = slice_get_read items (length items) (c.loop-k.k - 1) c.index.result.now refl within c.index.ensures in
    let fewer = part_nodes items (c.loop-k.k - 1) c.index.result.now part in
    let falls : nodes c.index.result.now < nodes c.args.condition.now = omega (arith, fewer, ap nodes same) in (
      search (rules, falls),
      (parts_valid b items (c.loop-k.k - 1) c.index.result.now valid part, (c.requires.block, c.requires.xs)),
    )

pub truth-requires-in-loop-k-2 : goal.truth-requires-in-loop-k-2
truth-requires-in-loop-k-2 t c =
    let b = c.args.block.now in
    let items = c.in-Or.parts.items in
    let same : c.args.condition.now ≡ any (conditions items) = sym c.condition.view_is ∙ ap tree c.in-Or.is in
    let valid = subst (IsValidCondition b) same c.requires.condition in
    let within : c.loop-k-2.k - 1 < length items = search rules in
    let part = slice_get_read items (length items) (c.loop-k-2.k - 1) c.index-in-loop-k-2.result.now refl within
    c.index-in-loop-k-2.ensures in
    let fewer = part_nodes items (c.loop-k-2.k - 1) c.index-in-loop-k-2.result.now part in
    let falls : nodes c.index-in-loop-k-2.result.now < nodes c.args.condition.now = omega (arith, fewer, ap nodes same)
    in (
      search (rules, falls),
      (
        parts_valid b items (c.loop-k-2.k - 1) c.index-in-loop-k-2.result.now valid part,
        (c.requires.block, c.requires.xs),
      ),
    )
