use Rattle.std.proofs.Common.{sym, subst, arith}
use Rattle.std.proofs.lemmas.Option.{slice_get_within}
use Rattle.fz_list.proofs.Algebra.{some_at}
use Rattle.error_bound.specs.Reaches.{AreLiteralsOf}
use Rattle.error_bound.proofs.TableLemmas.{kept_literals}
use Rattle.error_bound.proofs.tables.BoxTable.literals_of.Goals as goal

pub index-requires : goal.index-requires
index-requires c =
    let kept = rw c.in-Some.is at c.requires.table.table.kept in
    let r = some_at c.args.self.now.table.now.block.now.rules c.args.place c.requires.place in
    let o = kept.literals c.args.place r.0 r.1 in
    let lists = c.in-Some.kept.literals in
    omega (arith, slice_get_within lists.items c.args.place o.0 o.1, lists.ok.0)

pub returns-in-Some-index : goal.returns-in-Some-index
returns-in-Some-index c r found =
    let b = c.args.self.now.table.now.block.now in
    let kept = rw c.in-Some.is at c.requires.table.table.kept in
    subst (AreLiteralsOf b r) (sym c.as_slice.ensures.value)
    (kept_literals b r c.in-Some.kept.literals.items c.args.place c.index.result.now c.in-Some-index.literals
    kept.literals found c.index.ensures c.in-Some-index.is)
