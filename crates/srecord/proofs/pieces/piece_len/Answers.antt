use Rattle.std.proofs.Common.{◌≡◌, ◌+◌, arith}
use Rattle.srecord.specs.Runs.{address_at}
use Rattle.srecord.proofs.RunLemmas.{run_first, run_more}
use Rattle.srecord.proofs.pieces.piece_len.Goals as goal

pub loop-len-init : goal.loop-len-init
loop-len-init c = record {
  some = omega arith;
  few = omega arith;
  within = omega arith;
  fits =
      omega (arith, c.address_of.ensures, c.address_of.type_inv);
  run = run_first c.args.bytes.now c.requires;
}

pub loop-len-preserved : goal.loop-len-preserved
loop-len-preserved c =
    let here = c.address_of-then-len-lt-MOST_BYTES in
    let next : address_at c.args.bytes.now c.loop-len.len ≡ address_at c.args.bytes.now 0 + c.loop-len.len =
    omega (arith, here.ensures, c.from.ensures, c.from-first.ensures, c.address_of.ensures, c.if-from-first.true) in
    record {
      some = omega arith;
      few = omega arith;
      within = omega arith;
      fits =
          omega (arith, next, here.ensures, here.type_inv);
      run =
          run_more c.args.bytes.now c.loop-len.len (omega arith) c.loop-len.invariant.run next;
    }
