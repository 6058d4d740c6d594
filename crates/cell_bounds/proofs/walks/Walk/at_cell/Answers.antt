use Rattle.std.proofs.Common.{◌≡◌, ℕ, inr, ◌+◌, ◌<◌, length, sym, ap, subst, ◌∙◌, arith}
use Rattle.std.specs.Prelude.{IfSome, slice_index}
use Rattle.std.proofs.lemmas.List.{length-set}
use Rattle.fuzzy_meaning.specs.{Blocks.output_at, declared.block.Block.Block}
use Rattle.error_bound.specs.declared.tables.BlockTable.{BlockTable}
use Rattle.byte_scaling.specs.Widths.{parts}
use Rattle.cell_bounds.specs.{CellBounds.IsCellCount, CellBounds.IsFirstCellAbove, Walks.IsRaised}
use Rattle.cell_bounds.proofs.WalkLemmas.{above_here, raised_next, small_next, set_beside}
use Rattle.cell_bounds.proofs.walks.Walk.at_cell.Goals as goal

-- what holds of a table's block and width holds of the same table's
over_table : {t u : BlockTable} → t ≡ u → (P : Block → ℕ → Type 0) → P t.block.now (parts t.width)
    → P u.block.now (parts u.width)
over_table e P p = subst (λ (t : BlockTable). P t.block.now (parts t.width)) e p

pub returns-in-Err-clause-above : goal.returns-in-Err-clause-above
returns-in-Err-clause-above c =
    let w = c.args.self.now in
    let b = w.table.now.block.now in
    let h = parts w.table.now.width in
    let box = c.args.bytes.now.0.items in
    let place = c.loop-place.place in
    let i = c.loop-place.invariant in
    let n = c.in-Err.bound in
    let same = c.move_to.ensures.bytes in
    let t = c.move_to.new.self.table.now in
    let from = c.loop-place.auto.place in
    let to = c.loop-place-test.true in
    let all = c.requires.walk.all in
    let count : IfSome (output_at b (place + 1)) (λ x. IsCellCount b box (place + 1) x h n) =
    over_table (ap (λ t. t.now) c.move_to.ensures.over ∙ c.requires.table.over) (λ d k. IfSome (output_at d (place + 1))
    (λ x. IsCellCount d box (place + 1) x k n))
    (subst (λ y. IfSome (output_at t.block.now (place + 1)) (λ x. IsCellCount t.block.now y (place + 1) x
    (parts t.width) n)) same c.in-Err.ensures.count) in
    subst (λ m. IsFirstCellAbove b h w.limits.now (w.first + 1) w.end box m (place + 1) n) (sym c.low_bytes.ensures)
    (above_here b box c.requires.cell h c.requires.bytes.intervals w.limits.now w.first w.end place n
    c.args.so_far c.loop-place.raised (omega arith) to all i.done i.small count c.in-Err.ensures.above)

pub loop-place-preserved : goal.loop-place-preserved
loop-place-preserved c =
    let w = c.args.self.now in
    let b = w.table.now.block.now in
    let h = parts w.table.now.width in
    let box = c.args.bytes.now.0.items in
    let place = c.loop-place.place in
    let raised = c.loop-place.raised in
    let i = c.loop-place.invariant in
    let new = c.in-Ok.new in
    let same = c.move_to.ensures.bytes in
    let t = c.move_to.new.self.table.now in
    let to = c.loop-place-test.true in
    let end = c.requires.walk.end in
    let outputs = c.requires.walk.table.valid.few_outputs in
    let count = i.count in
    let few : place < length raised = omega arith in
    let one : IfSome (output_at b (place + 1))
    (λ x. IsRaised b box (place + 1) x h (slice_index raised place) new) =
    over_table (ap (λ t. t.now) c.move_to.ensures.over ∙ c.requires.table.over) (λ d k. IfSome (output_at d (place + 1))
    (λ x. IsRaised d box (place + 1) x k (slice_index raised place) new))
    (subst (λ y. IfSome (output_at t.block.now (place + 1))
    (λ x. IsRaised t.block.now y (place + 1) x (parts t.width) (slice_index raised place) new)) same
    c.in-Ok.ensures.raised) in
    record {
      count = omega (arith, length-set raised place new, count);
      done = raised_next b h w.first place box c.args.so_far raised new few i.done
          (i.rest place (omega arith)) one;
      rest = λ k l. set_beside raised place k new (inr (omega arith)) ∙ i.rest k (omega arith);
      small = small_next w.limits.now place new raised few i.small c.in-Ok.ensures.within;
    }

pub returns-clause-raised : goal.returns-clause-raised
returns-clause-raised c = λ k from to. c.loop-place.invariant.done k from
    (let l = c.loop-place-test.false in omega arith)
