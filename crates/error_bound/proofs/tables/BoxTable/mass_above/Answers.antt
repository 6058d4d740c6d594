use Rattle.std.proofs.Common.{Option, Some, None}
use Rattle.std.specs.Prelude.{IfSome, IfNone, map}
use Rattle.fuzzy_meaning.specs.Conditions.{all, conditions}
use Rattle.error_bound.specs.Reaches.{literal_of}
use Rattle.fz_list.proofs.Algebra.{some_at, All-slice_get}
use Rattle.fuzzy_meaning.specs.Blocks.{IsValidRule}
use Rattle.error_bound.specs.declared.masses.MassEnds.{MassEnds}
use Rattle.error_bound.proofs.MassLemmas.{plain_mass, plain_within}
use Rattle.error_bound.proofs.tables.BoxTable.mass_above.Goals as goal

pub least_above-requires-clause-literals : goal.least_above-requires-clause-literals
least_above-requires-clause-literals c =
    let b = c.args.self.now.table.now.block.now in
    let r = some_at b.rules c.args.place c.requires.place in
    let valid = All-slice_get (IsValidRule b) b.rules c.args.place r.0 c.requires.table.table.valid.rules r.1 in
    (c.in-Some.ensures r.0 r.1).alike.valid valid.condition

some_is : {P Q : MassEnds → Type 0} → ((m : MassEnds) → P m → Q m) → (o : Option MassEnds) → IfSome o P → IfSome o Q
some_is f None h = h
some_is f (Some m) h = f m h

none_is : {P Q : Type 0} → (P → Q) → (o : Option MassEnds) → IfNone o P → IfNone o Q
none_is f None h = f h
none_is f (Some m) h = h

pub returns-in-Some-clause-mass : goal.returns-in-Some-clause-mass
returns-in-Some-clause-mass c =
    let b = c.args.self.now.table.now.block.now in
    let box = c.args.self.now.bytes.0.items in
    some_is (λ m h r found. let l = c.in-Some.ensures r found in
    plain_mass b box r (all (conditions (map literal_of c.in-Some.literals.now))) m l.plain l.alike h)
    c.least_above.result c.least_above.ensures.mass

pub returns-in-Some-clause-within : goal.returns-in-Some-clause-within
returns-in-Some-clause-within c =
    let b = c.args.self.now.table.now.block.now in
    let box = c.args.self.now.bytes.0.items in
    none_is (λ h r found. plain_within b box r c.in-Some.literals.now c.args.so_far (c.in-Some.ensures r found) h)
    c.least_above.result c.least_above.ensures.within
