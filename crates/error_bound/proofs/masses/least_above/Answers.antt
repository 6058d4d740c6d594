use Rattle.std.proofs.Common.{◌-◌, ◌<◌, false, get_or, length, arith}
use Rattle.std.proofs.lemmas.Option.{slice_get-get_or}
use Rattle.error_bound.specs.declared.reaches.Literal.{Literal}
use Rattle.error_bound.proofs.MassLemmas.{literal_valid, ends_from, some_within}
use Rattle.error_bound.proofs.masses.least_above.Goals as goal

abbrev nothing : Literal
nothing = record { input = 0; term = 0; negated = false }

pub mass_of_literal-requires-clause-literal : goal.mass_of_literal-requires-clause-literal
mass_of_literal-requires-clause-literal c =
    let ls = c.args.literals.now in
    let j = c.loop-k.k - 1 in
    let within : j < length ls = omega (arith, c.loop-k-test.true, c.loop-k.auto.k) in
    literal_valid c.args.table.now.table.now.block.now ls j (get_or ls j nothing) c.requires.literals
    (slice_get-get_or ls j nothing within)

pub loop-k-preserved : goal.loop-k-preserved
loop-k-preserved c =
    let m = c.joined-least.ensures in
    ends_from c.args.table.now.table.now.block.now c.args.table.now.bytes.0.items c.args.literals.now c.loop-k.k nothing
    c.mass_of_literal.result c.loop-k.least c.joined-least.result (omega (arith, c.loop-k-test.true))
    (omega (arith, c.loop-k.auto.k)) c.mass_of_literal.ensures c.loop-k.invariant m

pub returns-then-is_within-clause-within : goal.returns-then-is_within-clause-within
returns-then-is_within-clause-within c =
    let b = c.args.table.now.table.now.block.now in
    let box = c.args.table.now.bytes.0.items in
    let m = c.joined-least.ensures in
    let ends = ends_from b box c.args.literals.now c.loop-k.k nothing c.mass_of_literal.result c.loop-k.least
    c.joined-least.result (omega (arith, c.loop-k-test.true)) (omega (arith, c.loop-k.auto.k)) c.mass_of_literal.ensures
    c.loop-k.invariant m in
    some_within b box c.args.literals.now (c.loop-k.k - 1) c.joined-least.result c.args.so_far ends
    (c.is_within.ensures c.if-is_within.true)
