use Rattle.handler_check.proofs.Extents.{cut_parts}
use Rattle.handler_check.proofs.Checked.{accepted_by, fault_by}
use Rattle.handler_check.proofs.check.check_in.Goals as goal

pub returns-in-Ok-clause-accepted : goal.returns-in-Ok-clause-accepted
returns-in-Ok-clause-accepted g c =
    let k = c.in-Ok.ensures in
    let p = cut_parts c.decodes_encoded.ensures (g.M.Mem.bytes c.write_to.new.m) (g.M.Mem.bytes c.args.m.now)
    c.requires c.write_to.ensures.bytes k.fits k.stands k.table k.size k.stops in
    accepted_by _ _ _ c.judge.result p.0 p.1 p.2 c.judge.ensures.ends c.judge.ensures.accepted

pub returns-in-Ok-clause-fault : goal.returns-in-Ok-clause-fault
returns-in-Ok-clause-fault g c =
    let k = c.in-Ok.ensures in
    let p = cut_parts c.decodes_encoded.ensures (g.M.Mem.bytes c.write_to.new.m) (g.M.Mem.bytes c.args.m.now)
    c.requires c.write_to.ensures.bytes k.fits k.stands k.table k.size k.stops in
    fault_by _ _ _ c.judge.result p.0 p.1 p.2 c.judge.ensures.fault
