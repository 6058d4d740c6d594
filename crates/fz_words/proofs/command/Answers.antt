use Rattle.std.proofs.Common.{◌∙◌, ap}
use Rattle.fz_words.specs.App.{leaf_app}
use Rattle.fz_words.proofs.Rows.{Stored, one_row, whole_app}
use Rattle.fz_words.proofs.command.Goals as goal

pub loop-row-preserved : goal.loop-row-preserved
loop-row-preserved g c =
    one_row _ _ _ _ c.loop-row.row-index _ c.loop-row-test.true c.loop-row.invariant
    (c.in_ok-command.ensures.shape c.in_ok-sub.ensures.local)
    (c.in_ok-sub.ensures.app ∙ ap (λ (r : Stored g.row.T.Denot). leaf_app r.0.now r.1) c.row-item.is)

pub returns : goal.returns
returns g c = c.loop-row.invariant ∙ whole_app c.loop-row.row-index _ c.loop-row-test.false c.requires.some
