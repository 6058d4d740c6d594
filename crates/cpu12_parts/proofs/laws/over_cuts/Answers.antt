use Rattle.cpu12_parts.proofs.OverCuts.{over_cuts}
use Rattle.cpu12_parts.proofs.laws.over_cuts.Goals as goal

pub returns : goal.returns
returns g c =
    let r = g.R.Resumable in
    let k = c.args.k.now in
    let laws = c.is_lawful.ensures in
    over_cuts c.writes_agree.ensures (r.kind k) (r.kept k) (r.whole k) laws.goes_on laws.steady laws.whole
