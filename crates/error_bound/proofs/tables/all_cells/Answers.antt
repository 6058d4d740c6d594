use Rattle.std.proofs.Common.{ℕ, length, ap, arith}
use Rattle.std.proofs.lemmas.Option.{slice_get_within}
use Rattle.fuzzy_meaning.specs.declared.block.Input.{Input}
use Rattle.error_bound.specs.{declared.tables.InputCells.InputCells, Reaches.AreInputCells, Reaches.all_bytes}
use Rattle.error_bound.proofs.ListLemmas.{AreFilled-read}
use Rattle.error_bound.proofs.tables.all_cells.Goals as goal

pub loop-input-init : goal.loop-input-init
loop-input-init c = (ap length c.new-inputs.ensures.items, λ k x lt e. absurd (omega arith))

pub loop-input-preserved : goal.loop-input-preserved
loop-input-preserved c =
    AreFilled-read (λ (_ : ℕ) (x : Input) (cells : InputCells). AreInputCells x all_bytes cells) c.args.block.now.inputs
    c.as_slice-input-items.result.now c.loop-input.input-index c.input-item.result c.as_slice-input-items.ensures
    c.input-item.is c.loop-input.inputs.items _ c.new.result c.loop-input.invariant c.in_ok-push.ensures.items
    c.new.ensures

pub returns : goal.returns
returns c i x e = c.loop-input.invariant.1 i x
    (let l = slice_get_within c.args.block.now.inputs i x e in let lens = ap length c.as_slice-input-items.ensures in
    let end = c.loop-input-test.false in omega (arith, l, lens, end)) e
