use Rattle.cpu12_emul.proofs.RuleParts.{rev_rules}
use Rattle.cpu12_emul.proofs.ruling.RevRuling.rules.Goals as goal

pub returns : goal.returns
returns c = rev_rules c.rev_stays.ensures.goes_on c.rev_stays.ensures.sums c.rev_steady.ensures
