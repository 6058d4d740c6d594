use Rattle.cpu12_parts.specs.{Parts.rev, Laws.Any}
use Rattle.cpu12_parts.proofs.Cutting.{cuts_change_nothing, goes_on_nothing}
use Rattle.cpu12_parts.proofs.laws.rev_cuts.Goals as goal

pub returns : goal.returns
returns c = cuts_change_nothing c.writes_agree.ensures rev Any (goes_on_nothing rev c.rev_keeps_nothing.ensures)
    c.rev_steady.ensures
