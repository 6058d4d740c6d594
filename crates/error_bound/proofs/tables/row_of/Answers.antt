use Rattle.std.proofs.Common.{ℕ, length, refl, ap, subst, arith}
use Rattle.std.proofs.lemmas.Option.{slice_get_within}
use Rattle.std.proofs.lemmas.List.{length-set}
use Rattle.fuzzy_meaning.specs.declared.block.Trapezoid.{Trapezoid}
use Rattle.error_bound.specs.{declared.reaches.Reach.Reach, Reaches.IsReachOfTerm}
use Rattle.fz_list.proofs.Algebra.{AreFilled-more}
use Rattle.error_bound.proofs.ListLemmas.{slice_get-get_or_slice, get_or-slice}
use Rattle.error_bound.proofs.TableLemmas.{no_term, no_cells, term_cells_at}
use Rattle.error_bound.proofs.tables.row_of.Goals as goal

pub loop-t-init : goal.loop-t-init
loop-t-init c = (refl, λ k x lt e. absurd (omega arith))

pub reach_of_term-requires-clause-cells : goal.reach_of_term-requires-clause-cells
reach_of_term-requires-clause-cells c =
    let x = c.args.input.now in
    let found = slice_get-get_or_slice c.as_slice-terms.result.now x.terms c.loop-t.t no_term c.as_slice-terms.ensures
    c.loop-t-test.true in
    term_cells_at x c.args.bytes c.args.cells.now c.loop-t.t _ no_cells c.requires.cells found

pub loop-t-preserved : goal.loop-t-preserved
loop-t-preserved c =
    let x = c.args.input.now in
    let t = c.loop-t.t in
    let reach = c.reach_of_term.result in
    let P = λ (_ : ℕ) (term : Trapezoid) (r : Reach). IsReachOfTerm x term c.args.bytes r in
    let same = c.as_slice-terms.ensures in
    let count = c.loop-t.invariant.0 in
    let few = c.requires.input.few_terms in
    let lens = ap length same in (
      omega (arith, length-set {A = Reach}),
      AreFilled-more P x.terms c.loop-t.reaches t reach (omega (arith, lens)) c.loop-t.invariant.1
          (λ term e. subst (λ q. P t q reach) (get_or-slice c.as_slice-terms.result.now x.terms t no_term term same e)
          c.reach_of_term.ensures),
    )

pub returns : goal.returns
returns c t term e =
    let within = slice_get_within c.args.input.now.terms t term e in
    c.loop-t.invariant.1 t term (omega (arith, within, c.loop-t-test.false, ap length c.as_slice-terms.ensures)) e
