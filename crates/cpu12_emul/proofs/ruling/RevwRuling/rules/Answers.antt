use Rattle.cpu12_emul.proofs.RuleParts.{revw_rules}
use Rattle.cpu12_emul.proofs.ruling.RevwRuling.rules.Goals as goal

pub returns : goal.returns
returns c = revw_rules c.revw_stays.ensures.goes_on c.revw_stays.ensures.sums c.revw_steady.ensures
