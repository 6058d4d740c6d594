use Rattle.std.proofs.Common.{sym, ap₂, ◌∙◌, subst}
use Rattle.fz_num.specs.Fractions.{lesser}
use Rattle.fuzzy_meaning.specs.Degrees.{IsByPlace}
use Rattle.fuzzy_meaning.proofs.DegreeLemmas.{IsByPlace-degree}
use Rattle.fuzzy_meaning.proofs.degrees.degree.Goals as goal

pub returns-clause-by_place : goal.returns-clause-by_place
returns-clause-by_place c =
    let t = c.args.term.now in
    subst (IsByPlace t c.args.x) (sym (c.min.ensures.value ∙ ap₂ lesser c.rise.ensures.value c.fall.ensures.value))
    (IsByPlace-degree t c.args.x c.requires.term)
