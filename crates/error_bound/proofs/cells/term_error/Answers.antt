use Rattle.std.proofs.Common.{◌≡◌, ℕ, ◌-◌, ◌≤◌, max, Option, Some, None, refl, sym, ap₂, ◌∙◌, subst, arith}
use Rattle.std.specs.Prelude.{slice_get, slice_index, IfSome}
use Rattle.fuzzy_meaning.specs.{declared.block.Trapezoid.Trapezoid, Blocks.IsValidInput, Blocks.IsValidTerm}
use Rattle.fuzzy_meaning.specs.declared.block.Input.{Input}
use Rattle.fz_list.proofs.Algebra.{All-slice_get}
use Rattle.error_bound.specs.{declared.cells.TermCells.TermCells, declared.boxes.Interval.Interval, Errors.IsTermError}
use Rattle.error_bound.specs.{Reaches.AreTermCells, Boxes.greatest_from, CellErrors.term_deviation}
use Rattle.error_bound.proofs.{Literals.term_deviation-are, Literals.term_error-is, CellErrors.rise_is}
use Rattle.error_bound.proofs.{CellErrors.fall_is}
use Rattle.error_bound.proofs.cells.term_error.Goals as goal

is_error : (i : Input) (n : ℕ) (v : Interval) (c : TermCells) (r d e : ℕ) → IsValidInput i → v.from ≤ v.to
    → r ≡ greatest_from (λ k. slice_index c.rises k) v.from (v.to - v.from)
    → d ≡ greatest_from (λ k. slice_index c.falls k) v.from (v.to - v.from) → e ≡ max d r → (o : Option Trapezoid)
    → slice_get i.terms n ≡ o
    → IfSome o (λ t. AreTermCells i t v c) → IfSome o (λ t. IsTermError i t v e)
is_error i n v c r d e valid order rise fall is None found cells = tt
is_error i n v c r d e valid order rise fall is (Some t) found cells =
    let term = All-slice_get (IsValidTerm i.lo i.hi) i.terms n t valid.terms found in
    subst (IsTermError i t v)
    (sym (is ∙ ap₂ max (fall ∙ fall_is i t v v c cells (omega arith) (omega arith) order)
    (rise ∙ rise_is i t v v c cells (omega arith) (omega arith) order)))
    (term_error-is i t v (term_deviation i t v) (term_deviation-are i t v valid term order))

pub returns : goal.returns
returns c =
    let i = c.args.input.now in
    let v : Interval = record { from = c.args.from; to = c.args.to } in
    let o = c.over-grades.ensures in
    is_error i (c.args.term - 1) v c.new.result c.over-grades.result.rise c.over-grades.result.fall c.from.result
    c.requires.input c.requires.order o.rise o.fall (omega (arith, c.from.ensures))
    (slice_get i.terms (c.args.term - 1)) refl c.new.ensures
