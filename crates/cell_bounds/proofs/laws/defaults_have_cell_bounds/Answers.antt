use Rattle.cell_bounds.proofs.JudgedLemmas.{default_bounds}
use Rattle.cell_bounds.proofs.laws.defaults_have_cell_bounds.Goals as goal

pub returns : goal.returns
returns c =
    default_bounds c.each_cell_has_a_count.ensures c.tight_bounds_are_one.ensures c.masses_are_in_range.ensures
    c.covered_masses_have_errors.ensures c.answers_are_in_range.ensures
