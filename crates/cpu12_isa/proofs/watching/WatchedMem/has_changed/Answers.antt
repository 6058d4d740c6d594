use Rattle.std.proofs.Common.{◌∙◌, not, sym, ap}
use Rattle.cpu12_isa.proofs.Watches.{none_from, none_listed}
use Rattle.cpu12_isa.proofs.watching.WatchedMem.has_changed.Goals as goal

pub returns-else-not-is_empty : goal.returns-else-not-is_empty
returns-else-not-is_empty g c =
    let m = c.args.self.now in
    let empty = c.if-not-is_empty.false in
    ap not empty ∙ sym (none_from m.table.items (g.M.Mem.bytes m.inner)
    (none_listed m.written.items m.table.items (g.M.Mem.bytes m.inner) _ c.is_empty.ensures empty m.listed))
