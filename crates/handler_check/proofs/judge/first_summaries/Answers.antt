use Rattle.handler_check.proofs.Words.{◌≡◌, false, None, refl, replicate, summary_at}
use Rattle.handler_check.proofs.{Marking.mark_first, Onward.first_on}
use Rattle.handler_check.proofs.judge.first_summaries.Goals as goal

pub returns-clause-judged : goal.returns-clause-judged
returns-clause-judged c =
    let e : c.in-Ok.summaries.places.items ≡ replicate c.len.result None = c.in-Ok.ensures in
    mark_first c.args.cut.now.code.items c.args.cut.now.trapped (summary_at c.lead.new.self.places.items)
    (record { height = 0; most = 0; meets = false }) refl
    (first_on c.in-Ok.summaries.places.items c.len.result (summary_at c.lead.new.self.places.items)
    (record { height = 0; most = 0; meets = false }) e c.lead.ensures.summaries)
