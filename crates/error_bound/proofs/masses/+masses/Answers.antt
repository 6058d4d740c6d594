use Rattle.std.proofs.Common.{◌≡◌, inl, inr, subst, rules, drop, length, arith}
use Rattle.fuzzy_meaning.specs.Blocks.{IsValidCondition}
use Rattle.fuzzy_meaning.specs.Conditions.{conditions}
use Rattle.error_bound.specs.{Masses.AreEndsOfCondition, Flattening.is_any}
use Rattle.error_bound.proofs.masses.+masses.Goals.{mass_among-in-Some, mass_among-in-None}
use Rattle.error_bound.proofs.FlatteningLemmas.{from_place}
use Rattle.error_bound.proofs.MassLemmas.{ends_also, ends_none, ends_of_exact}
use Rattle.error_bound.proofs.ListLemmas.{part_asks, part_is_valid, parts_ask}
use Rattle.std.proofs.lemmas.List.{drop_all}
use Rattle.error_bound.proofs.masses.+masses.Goals as goal

pub mass_among-mass_of_literal-mass-requires-clause-literal : goal.mass_among-mass_of_literal-mass-requires-clause-literal
mass_among-mass_of_literal-mass-requires-clause-literal t c =
    subst (IsValidCondition _) c.in-Some.ensures
    (part_is_valid c.parts_are_valid.ensures _ _ c.index-parts-k.is c.requires.parts (search rules))

pub mass_among-mass_of-mass-requires : goal.mass_among-mass_of-mass-requires
mass_among-mass_of-mass-requires t c =
    part_asks c.parts_are_valid.ensures _ _ c.index-parts-k.is c.requires.parts c.requires.table (search rules)

pub mass_among-loop-k-init : goal.mass_among-loop-k-init
mass_among-loop-k-init t c =
    let parts = c.args.parts.now in
    rw (drop_all (length parts) parts (omega arith))
    (ends_none c.args.table.now.table.now.block.now c.args.table.now.bytes.0.items (is_any c.args.group) _
    c.of_none-joined.ensures)

pub mass_among-loop-k-preserved : goal.mass_among-loop-k-preserved
mass_among-loop-k-preserved t c =
    let b = c.args.table.now.table.now.block.now in
    let box = c.args.table.now.bytes.0.items in
    let parts = c.args.parts.now in
    let k = c.loop-k.k in
    let part = c.index-parts-k.result in
    let q = c.match-literal_in.mass in
    let made : AreEndsOfCondition b box part q = elim c.match-literal_in.branch [
      | mass_among-in-Some w ↦ rw (w.mass-is, w.in-Some.ensures) w.mass_of_literal-mass.ensures
      | mass_among-in-None w ↦ rw w.mass-is w.mass_of-mass.ensures
    ] in
    rw (from_place parts k part (search rules) (search rules) c.index-parts-k.is)
    (ends_also b box _ part (conditions (drop k parts)) q _ _ made c.loop-k.invariant c.joined-joined.ensures)

pub mass_among-returns : goal.mass_among-returns
mass_among-returns t c =
    let none : c.loop-k.k ≡ 0 = omega (arith, c.loop-k-test.false) in
    rw none at c.loop-k.invariant

pub mass_of-mass_among-requires : goal.mass_of-mass_among-requires
mass_of-mass_among-requires t c =
    parts_ask _ c.condition.view_is (inl c.in-And.is) (search rules)

pub mass_of-mass_among-requires-in-Or : goal.mass_of-mass_among-requires-in-Or
mass_of-mass_among-requires-in-Or t c =
    parts_ask _ c.condition.view_is (inr c.in-Or.is) (search rules)

pub mass_of-returns-in_default : goal.mass_of-returns-in_default
mass_of-returns-in_default t c =
    ends_of_exact c.args.table.now.table.now.block.now c.args.table.now.bytes.0.items c.args.condition.now c.ends_of.result
    c.of.result c.ends_of.ensures.low c.ends_of.ensures.high c.of.ensures
