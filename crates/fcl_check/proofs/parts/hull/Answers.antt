use Rattle.fcl_check.proofs.Words.{◌∙◌, arith, ends_in, option_map, rules}
use Rattle.std.proofs.lemmas.Grind.{common_steps}
use Rattle.fcl_check.proofs.Ranges.{hull_term}
use Rattle.fcl_check.proofs.parts.hull.Goals.{in-Term, in_default}
use Rattle.fcl_check.proofs.parts.hull.Goals as goal

pub loop-line-preserved : goal.loop-line-preserved
loop-line-preserved c =
    elim c.match-line.branch [
      | in-Term w ↦ rw w.hull-is (hull_term (option_map ends_in c.loop-line.hull)
          (ends_in w.with_term.result) c.args.section.now.lines c.loop-line.line-index c.line-item.result
          w.in-Term.term (search rules)
          (search rules) w.in-Term.is w.with_term.ensures ∙ c.loop-line.invariant)
      | in_default w ↦ grind (arith, common_steps)
    ]
