use Rattle.std.proofs.Common.{◌≡◌, ℕ, ◌+◌, ◌-◌, refl, subst, arith}
use Rattle.std.specs.Prelude.{slice_get, IfSome}
use Rattle.std.proofs.lemmas.Option.{slice_get_within}
use Rattle.std.proofs.lemmas.List.{length-set}
use Rattle.fuzzy_meaning.specs.declared.block.Trapezoid.{Trapezoid}
use Rattle.error_bound.specs.{declared.cells.TermCells.TermCells, Reaches.AreTermCells}
use Rattle.fz_list.proofs.Algebra.{AreFilled-more}
use Rattle.error_bound.proofs.tables.InputCells.new.Goals as goal

pub loop-t-init : goal.loop-t-init
loop-t-init c = (refl, λ k x lt e. absurd (omega arith))

pub loop-t-preserved : goal.loop-t-preserved
loop-t-preserved c =
    let i = c.args.input.now in
    let v = c.args.bytes in
    let P = λ (_ : ℕ) (term : Trapezoid) (r : TermCells). AreTermCells i term v r in
    let count = c.loop-t.invariant.0 in
    let few = c.requires.few_terms in
    let made : IfSome (slice_get i.terms (c.loop-t.t + 1 - 1)) (λ t. AreTermCells i t v c.new.result) = c.new.ensures in
    let here : c.loop-t.t + 1 - 1 ≡ c.loop-t.t = omega arith in
    let made' = subst (λ k. IfSome (slice_get i.terms k) (λ t. AreTermCells i t v c.new.result)) here made in (
      omega (arith, length-set {A = TermCells}),
      AreFilled-more P i.terms c.loop-t.terms c.loop-t.t c.new.result (omega arith) c.loop-t.invariant.1
          (λ x e. rw e at made'),
    )

pub returns : goal.returns
returns c t term e =
    c.loop-t.invariant.1 t term (let l = slice_get_within c.args.input.now.terms t term e in omega arith) e
