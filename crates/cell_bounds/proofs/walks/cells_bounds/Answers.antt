use Rattle.std.proofs.Common.{◌≡◌, ℕ, List, [], ◌∷◌, length, subst, arith}
use Rattle.byte_scaling.specs.Widths.{parts}
use Rattle.cell_bounds.specs.Walks.{AreRaised}
use Rattle.cell_bounds.proofs.WalkLemmas.{more_ok, bounds_are, no_numbers}
use Rattle.cell_bounds.proofs.walks.cells_bounds.Goals as goal

pub returns-clause-bounds : goal.returns-clause-bounds
returns-clause-bounds c =
    let b = c.args.table.now.block.now in
    let box = c.args.bytes.now.0.items in
    let h = parts c.args.table.now.width in
    more_ok {P = AreRaised b h 0 c.len.result c.copied-2.result.0.items (0 ∷ 0 ∷ 0 ∷ 0 ∷ [])} c.over.result
    (λ (news : List ℕ) r k few.
    let same : c.len.result ≡ length b.outputs = c.len.ensures in
    let raised : AreRaised b h 0 c.len.result box (0 ∷ 0 ∷ 0 ∷ 0 ∷ []) news =
    subst (λ i. AreRaised b h 0 c.len.result i (0 ∷ 0 ∷ 0 ∷ 0 ∷ []) news) c.copied-2.ensures r in
    bounds_are b h box (0 ∷ 0 ∷ 0 ∷ 0 ∷ []) news c.len.result (λ k l. no_numbers k) raised k (omega arith))
    c.over.ensures.raised
