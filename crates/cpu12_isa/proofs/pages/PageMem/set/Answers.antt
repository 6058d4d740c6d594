use Rattle.std.proofs.Common.{arith, ◌≡◌, ap, sym, ◌∙◌, set}
use Rattle.cpu12_isa.specs.Pages.{bytes_in}
use Rattle.cpu12_isa.proofs.PageLemmas.{zero_put}
use Rattle.cpu12_isa.proofs.pages.PageMem.set.Goals as goal

pub returns-then-self-page-eq0-clause-bytes : goal.returns-then-self-page-eq0-clause-bytes
returns-then-self-page-eq0-clause-bytes c =
    let m = c.args.self.now in
    let is_zero : c.args.value ≡ 0 = omega (arith, c.if-value-ne0.false) in
    zero_put m.table m.pool.items m.used c.args.at m.pages (omega (arith, c.ranges.at.fits)) c.if-self-page-eq0.true
    ∙ ap (set (bytes_in m.table m.pool.items 65536) c.args.at) (sym is_zero)
