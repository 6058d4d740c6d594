use Rattle.std.proofs.Common.{sym}
use Rattle.cpu12_isa.proofs.Watches.{none_listed, noted_stays}
use Rattle.cpu12_isa.proofs.watching.WatchedMem.note.Goals as goal

pub returns-else-not-is_empty-clause-noted : goal.returns-else-not-is_empty-clause-noted
returns-else-not-is_empty-clause-noted g c =
    let m = c.args.self.now in
    sym (noted_stays m.table.items (g.M.Mem.bytes m.inner)
    (none_listed m.written.items m.table.items (g.M.Mem.bytes m.inner) _ c.is_empty.ensures c.if-not-is_empty.false
    m.listed))
