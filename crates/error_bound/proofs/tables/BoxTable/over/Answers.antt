use Rattle.std.proofs.Common.{◌≡◌, ℕ, length, get_or, Some, refl, ap, ◌∙◌, subst, arith}
use Rattle.std.specs.Prelude.{slice_get}
use Rattle.std.proofs.lemmas.Option.{slice_get_within, get_or_from_slice_get}
use Rattle.std.proofs.lemmas.List.{length-set}
use Rattle.fuzzy_meaning.specs.declared.block.Input.{Input}
use Rattle.error_bound.specs.{declared.boxes.Interval.Interval, declared.tables.Row.Row, Reaches.AreInputReaches}
use Rattle.fz_list.proofs.Algebra.{AreFilled-more}
use Rattle.error_bound.proofs.TableLemmas.{unmarked}
use Rattle.error_bound.proofs.tables.BoxTable.over.Goals as goal

pub loop-i-init : goal.loop-i-init
loop-i-init c = (refl, λ k x lt e. absurd (omega arith))

pub loop-i-preserved : goal.loop-i-preserved
loop-i-preserved c =
    let b = c.args.table.now.block.now in
    let i = c.loop-i.i in
    let none : Interval = record { from = 0; to = 0 } in
    let x0 = c.index-inputs-i.result in
    let rs = c.row_in.result.reaches in
    let inputs : c.as_slice-inputs.result.now ≡ b.inputs = c.as_slice-inputs.ensures in
    let spans : c.deref.result.now ≡ c.args.bytes.0.items = c.deref.ensures.0 in
    let made : AreInputReaches x0 (get_or c.deref.result.now i none) rs = c.row_in.ensures in
    let few = c.requires.table.valid.few_inputs in
    let count = c.loop-i.invariant.0 in
    let same = ap length inputs in
    let P = λ (k : ℕ) (x : Input) (r : Row). (v : Interval) → slice_get c.args.bytes.0.items k ≡ Some v
    → AreInputReaches x v r.reaches in
    let here = λ (x : Input) (e : slice_get b.inputs i ≡ Some x) (v : Interval)
    (ev : slice_get c.args.bytes.0.items i ≡ Some v).
    let same_x : x0 ≡ x = c.index-inputs-i.is ∙ ap (λ l. get_or l i x0) inputs
    ∙ get_or_from_slice_get b.inputs i x x0 e in
    let same_v : get_or c.deref.result.now i none ≡ v = ap (λ l. get_or l i none) spans
    ∙ get_or_from_slice_get c.args.bytes.0.items i v none ev in
    subst (λ z. AreInputReaches z v rs) same_x (subst (λ w. AreInputReaches x0 w rs) same_v made) in (
      omega (arith, length-set {A = Row}),
      AreFilled-more P b.inputs c.loop-i.rows i c.row_in.result (omega (arith, same)) c.loop-i.invariant.1 here,
    )

pub returns-clause-table : goal.returns-clause-table
returns-clause-table c = record {
  table = c.requires.table;
  box_is = c.requires.bytes;
  rows = λ i x e. c.loop-i.invariant.1 i x
      (let l = slice_get_within c.args.table.now.block.now.inputs i x e in let same = ap length c.as_slice-inputs.ensures in
      omega (arith, same)) e;
  still = λ n r one at. absurd (let none = unmarked 256 n in let z : ⊥ = cc in z);
}
