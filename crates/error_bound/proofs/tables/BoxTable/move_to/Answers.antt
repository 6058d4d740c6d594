use Rattle.std.proofs.Common.{◌≡◌, ◌+◌, length, get_or, Some, sym, ap, ◌∙◌, subst, arith}
use Rattle.std.specs.Prelude.{slice_get, slice_set}
use Rattle.std.proofs.lemmas.List.{length-set}
use Rattle.fz_list.proofs.Algebra.{slice_get-set_same}
use Rattle.error_bound.specs.{declared.tables.BoxTable.BoxTable, declared.boxes.Interval.Interval, Reaches.AreRows, Reaches.AreMarked}
use Rattle.error_bound.specs.declared.still.StillRules.{StillRules}
use Rattle.error_bound.specs.{declared.tables.BlockTable.BlockTable, Boxes.IsBoxOf, Reaches.IsBlockTable}
use Rattle.error_bound.proofs.TableLemmas.{AreAlikeBefore, AreAlikeBefore-next, AreAlikeBefore-set, alike_all}
use Rattle.error_bound.proofs.tables.BoxTable.move_to.Goals.{then-not-is_same, else-not-is_same}
use Rattle.error_bound.proofs.ListLemmas.{slice_get-slice, slice_get-get_or_slice}
use Rattle.error_bound.proofs.TableLemmas.{AreRows-moved}
use Rattle.error_bound.proofs.tables.BoxTable.move_to.Goals as goal

pub loop-i-preserved : goal.loop-i-preserved
loop-i-preserved c =
    let b = c.args.self.now.table.now.block.now in
    let i = c.loop-i.i in
    let old = c.loop-i.self in
    let new = c.if-not-is_same.self in
    let none : Interval = record { from = 0; to = 0 } in
    let to = get_or c.deref.result.now i none in
    let olds = old.bytes.0.items in
    let wanted = c.args.bytes.now.0.items in
    let before = c.loop-i.invariant in
    let inputs = ap length c.as_slice-inputs.ensures in
    let some = c.loop-i-test.true in
    let count = before.count in
    let wanted_count = c.requires.bytes.count in
    let spans = ap length c.deref.ensures.0 in
    let there : slice_get wanted i ≡ Some to =
    slice_get-get_or_slice c.deref.result.now wanted i none c.deref.ensures.0 (omega arith) in
    elim c.if-not-is_same.branch [
      | then-not-is_same w ↦
          let items : new.bytes.0.items ≡ slice_set olds i to =
          ap (λ (t : BoxTable). t.bytes.0.items) w.self-is ∙ w.set_interval.ensures in
          let rows : new.rows ≡ slice_set old.rows i w.row_in.result = ap (λ (t : BoxTable). t.rows) w.self-is in
          let x = w.index-inputs-i.result in
          let lens = ap length items in
          record {
            over = ap (λ (t : BoxTable). t.table) w.self-is ∙ before.over;
            count = omega (arith, lens, length-set {A = Interval} olds i to);
            rows = AreRows-moved b olds new.bytes.0.items old.rows new.rows i x to w.row_in.result count before.rows
                (slice_get-slice c.as_slice-inputs.result.now b.inputs i x c.as_slice-inputs.ensures some
                w.index-inputs-i.is) w.row_in.ensures items rows;
            still = ap (λ (t : BoxTable). t.still) w.self-is ∙ before.still;
            moved = subst (λ vs. AreAlikeBefore vs wanted (i + 1)) (sym items)
                (AreAlikeBefore-next (slice_set olds i to) wanted i (AreAlikeBefore-set olds wanted i to before.moved)
                (slice_get-set_same olds i to (omega arith) ∙ sym there));
          }
      | else-not-is_same w ↦
          let same : new ≡ old = w.self-is in
          let now : slice_get olds i ≡ Some (get_or c.deref-in-loop-i.result.now i none) =
          slice_get-get_or_slice c.deref-in-loop-i.result.now olds i none c.deref-in-loop-i.ensures.0
          (let l = ap length c.deref-in-loop-i.ensures.0 in omega arith) in
          let alike = c.is_same.ensures w.if-not-is_same.false in
          let lens = ap (λ (t : BoxTable). length t.bytes.0.items) same in
          record {
            over = ap (λ (t : BoxTable). t.table) same ∙ before.over;
            count = omega (arith, lens);
            rows = subst (λ (t : BoxTable). AreRows b t.bytes.0.items t.rows) (sym same) before.rows;
            still = ap (λ (t : BoxTable). t.still) same ∙ before.still;
            moved = subst (λ t. AreAlikeBefore t.bytes.0.items wanted (i + 1)) (sym same)
                (AreAlikeBefore-next olds wanted i before.moved (now ∙ ap Some alike ∙ sym there));
          }
    ]

pub returns : goal.returns
returns c =
    let end = c.loop-i-test.false in
    let i = c.loop-i.invariant in
    let inputs = ap length c.as_slice-inputs.ensures in
    let count = i.count in
    let wanted = c.requires.bytes.count in
    let new = c.loop-i.self in
    let same = alike_all new.bytes.0.items c.args.bytes.now.0.items (omega arith) (λ j lt. i.moved j (omega arith)) in
    let over : new.table.now ≡ c.args.self.now.table.now = ap (λ t. t.now) i.over in
    record {
      over = i.over;
      bytes = same;
      table = record {
        table = subst IsBlockTable (sym over) c.requires.table.table;
        box_is = subst (λ (t : BlockTable). IsBoxOf t.block.now new.bytes.0.items) (sym over)
            (subst (IsBoxOf c.args.self.now.table.now.block.now) (sym same) c.requires.bytes);
        rows = subst (λ (t : BlockTable). AreRows t.block.now new.bytes.0.items new.rows) (sym over) i.rows;
        still = subst (λ (t : BlockTable). AreMarked t.block.now new.still.around.0.items new.still.marks) (sym over)
            (subst (λ (s : StillRules). AreMarked c.args.self.now.table.now.block.now s.around.0.items s.marks) (sym i.still)
            c.requires.table.still);
      };
    }
