use Rattle.std.proofs.Common.{arith, ◌+◌, ◌*◌, ◌/◌, ◌%◌, get_or, sym, ◌∙◌}
use Rattle.std.proofs.lemmas.Grind.{get_or_default_zero}
use Rattle.cpu12_isa.proofs.PageLemmas.{bytes_in-at, in_pool}
use Rattle.cpu12_isa.proofs.pages.PageMemMem.read.Goals as goal

pub returns : goal.returns
returns c =
    let m = c.args.self.now in
    let place = get_or m.table (c.args.at / 256) 0 * 256 + c.args.at % 256 in
    let within = in_pool m.table m.pool.items m.used (c.args.at / 256) (c.args.at % 256) m.pages
    (omega (arith, c.ranges.at.fits)) (omega arith) in
    c.index.ensures
    ∙ get_or_default_zero m.pool.items place c.index.result.now (omega (arith, within, m.pages.bytes))
    ∙ sym (bytes_in-at m.table m.pool.items 65536 c.args.at (omega (arith, c.ranges.at.fits)))
