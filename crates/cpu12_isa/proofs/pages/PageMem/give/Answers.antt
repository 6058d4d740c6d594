use Rattle.std.proofs.Common.{arith, ◌+◌, set}
use Rattle.cpu12_isa.proofs.PageLemmas.{given_bytes, given_pages, given_set, length_bytes_in, stays_given}
use Rattle.cpu12_isa.proofs.pages.PageMem.give.Goals as goal

pub invariant_of-self : goal.invariant_of-self
invariant_of-self c =
    let m = c.args.self.now in
    record {
      pages = given_pages m.table m.pool.items m.used c.args.page m.pages (omega (arith, c.ranges.page.fits))
          c.if-self-page-eq0.true;
      full = length_bytes_in (set m.table c.args.page (m.used + 1)) m.pool.items 65536;
    }

pub returns-then-self-page-eq0-clause-bytes : goal.returns-then-self-page-eq0-clause-bytes
returns-then-self-page-eq0-clause-bytes c =
    let m = c.args.self.now in
    given_bytes m.table m.pool.items m.used c.args.page m.pages
    (omega (arith, c.ranges.page.fits)) c.if-self-page-eq0.true

pub returns-then-self-page-eq0-clause-given : goal.returns-then-self-page-eq0-clause-given
returns-then-self-page-eq0-clause-given c =
    let m = c.args.self.now in
    given_set m.table m.pool.items m.used c.args.page m.pages (omega (arith, c.ranges.page.fits))
    c.if-self-page-eq0.true

pub returns-else-self-page-eq0-clause-given : goal.returns-else-self-page-eq0-clause-given
returns-else-self-page-eq0-clause-given c =
    let m = c.args.self.now in
    stays_given m.table c.args.page (omega (arith, c.ranges.page.fits, m.pages.places)) c.if-self-page-eq0.false
