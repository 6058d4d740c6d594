use Rattle.cell_bounds.proofs.JudgedLemmas.{cell_counts}
use Rattle.cell_bounds.proofs.laws.each_cell_has_a_count.Goals as goal

pub returns : goal.returns
returns c =
    cell_counts c.each_box_has_a_tight_count.ensures c.tight_bounds_are_one.ensures
    c.tight_bounds_are_small.ensures c.masses_are_in_range.ensures c.covered_masses_have_errors.ensures
    c.answers_are_in_range.ensures
