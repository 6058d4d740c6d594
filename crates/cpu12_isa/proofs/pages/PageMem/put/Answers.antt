use Rattle.std.proofs.Common.{arith, ◌+◌, ◌*◌, ◌/◌, ◌%◌, get_or, set}
use Rattle.cpu12_isa.proofs.PageLemmas.{length_bytes_in, put_bytes, put_pages}
use Rattle.cpu12_isa.proofs.pages.PageMem.put.Goals as goal

pub invariant_of-self : goal.invariant_of-self
invariant_of-self c =
    let m = c.args.self.now in
    record {
      pages = put_pages m.table m.pool.items m.used c.args.at c.args.value m.pages
          (omega (arith, c.ranges.at.fits)) c.requires.has_place;
      full = length_bytes_in m.table
          (set m.pool.items (get_or m.table (c.args.at / 256) 0 * 256 + c.args.at % 256) c.args.value) 65536;
    }

pub returns-clause-bytes : goal.returns-clause-bytes
returns-clause-bytes c =
    let m = c.args.self.now in
    put_bytes m.table m.pool.items m.used c.args.at c.args.value m.pages
    (omega (arith, c.ranges.at.fits)) c.requires.has_place
