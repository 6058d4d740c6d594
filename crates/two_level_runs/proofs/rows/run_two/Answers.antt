use Rattle.two_level_runs.proofs.Words.{AreGoodLevels, input_bytes, length, length-map, Level, List, map}
use Rattle.two_level_runs.proofs.Words.{place_of_level, subst, sym, ℕ}
use Rattle.run_forms.specs.Slices.{IsInOrder}
use Rattle.two_level_runs.proofs.rows.run_two.Goals as goal

pub run_form-requires : goal.run_form-requires
run_form-requires c = record {
  served = λ k q within. tt;
  order = subst (λ (ls : List Level). IsInOrder place_of_level ls) (sym c.as_slice.ensures)
      (c.levels_are_in_order.ensures (length c.args.fast.now) c.args.levels.now c.requires.levels);
}

pub returns-clause-answers : goal.returns-clause-answers
returns-clause-answers c =
    let a = c.args in
    let levels = a.levels.now in
    let good : AreGoodLevels (length (map input_bytes a.fast.now)) levels =
    subst (λ (n : ℕ). AreGoodLevels n levels) (sym (length-map a.fast.now input_bytes)) c.requires.levels in
    c.answers_under_levels.ensures a.two.now a.flags (map input_bytes a.slow.now)
    (map input_bytes a.fast.now) levels c.ranges.flags.fits good
