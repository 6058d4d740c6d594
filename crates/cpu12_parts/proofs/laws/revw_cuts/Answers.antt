use Rattle.cpu12_parts.specs.{Parts.revw, Laws.Any}
use Rattle.cpu12_parts.proofs.Cutting.{cuts_change_nothing, goes_on_nothing}
use Rattle.cpu12_parts.proofs.laws.revw_cuts.Goals as goal

pub returns : goal.returns
returns c = cuts_change_nothing c.writes_agree.ensures revw Any (goes_on_nothing revw c.revw_keeps_nothing.ensures)
    c.revw_steady.ensures
