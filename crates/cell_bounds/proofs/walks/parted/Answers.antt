use Rattle.std.proofs.Common.{◌≡◌, Some, sym, subst, ap, arith}
use Rattle.std.specs.Prelude.{slice_get}
use Rattle.std.proofs.lemmas.Option.{get_or_from_slice_get}
use Rattle.fz_list.proofs.Algebra.{some_at}
use Rattle.error_bound.specs.declared.boxes.Interval.{Interval}
use Rattle.cell_bounds.proofs.walks.parted.Goals as goal

pub overflow_add-from : goal.overflow_add-from
overflow_add-from c =
    let k = c.args.place in
    let v = some_at c.args.bytes.0.items k c.requires.there in
    let wide = c.requires.wide v.0 v.1 in
    let small = (c.requires.bytes.some k v.0 v.1).1 in
    let none : Interval = record { from = 0; to = 0 } in
    let read = subst (λ xs. slice_get xs k ≡ Some v.0) (sym c.deref.ensures.0) v.1 in
    let e = ap (λ (i : Interval). i.from) (get_or_from_slice_get c.deref.result.now k v.0 none read) in
    omega arith
