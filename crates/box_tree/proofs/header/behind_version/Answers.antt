use Rattle.std.proofs.Common.{◌≡◌, ◌≢◌, ℕ, true, false, [], ◌∷◌, sym, ◌∙◌, ap}
use Rattle.box_tree.proofs.HeaderLemmas.{no_version, no_version_line, versions}
use Rattle.box_tree.proofs.header.behind_version.Goals as goal

pub returns-in_err-numbers-clause-line : goal.returns-in_err-numbers-clause-line
returns-in_err-numbers-clause-line c =
    rw c.from_residual.ensures (no_version_line c.args.text.now c.args.format c.in_err-numbers.ensures)

pub returns-else-is_just-clause-line : goal.returns-else-is_just-clause-line
returns-else-is_just-clause-line c =
    let other : c.in_ok-numbers.numbers.items ≢ versions c.args.format =
    λ is. let bad : false ≡ true =
    c.if-is_just.ensures.1 (c.as_slice.ensures.value ∙ is ∙ ap (λ (n : ℕ). n ∷ []) (sym c.version.ensures)) in cc in
    no_version c.args.text.now c.in_ok-numbers.numbers.items c.in_ok-numbers.rest.now c.args.format
    c.in_ok-numbers.ensures.2 c.in_ok-numbers.ensures.1 other
