use Rattle.std.proofs.Common.{◌<◌, length, arith}
use Rattle.fcl_tokens.specs.Lexing.{tokenization}
use Rattle.fcl_tokens.proofs.Cutting.{cut_skips, cut_takes, cut_fails, cut_done, positive, nothing}
use Rattle.fcl_tokens.proofs.lexer.lex.Goals as goal

pub each-preserved-in-Skip : goal.each-preserved-in-Skip
each-preserved-in-Skip c =
    let long : 0 < length c.each.rest.now =
    positive (length c.each.rest.now) c.is_empty.result c.is_empty.ensures c.each-test.true in
    record {
      cutting = rw c.split_at.ensures.back
          (cut_skips c.each.tokens.items c.each.places.items c.each.at c.in-Skip.n c.each.rest.now
          (tokenization c.args.text.now) long c.in-Skip.ensures.value c.in-Skip.ensures.fits.0
          c.each.invariant.cutting);
      len = omega (arith, c.split_at.ensures.back_len, c.each.invariant.len, c.in-Skip.ensures.fits.1);
    }

pub each-preserved : goal.each-preserved
each-preserved c =
    let long : 0 < length c.each.rest.now =
    positive (length c.each.rest.now) c.is_empty.result c.is_empty.ensures c.each-test.true in
    record {
      cutting = rw (
        c.split_at-in-Token.ensures.back,
        c.in_ok-push-in-Token.ensures.items,
        c.in_ok-push-in-Token-2.ensures.items,
      )
          (cut_takes c.each.tokens.items c.each.places.items c.each.at c.in-Token.n c.in-Token.token c.each.rest.now
          (tokenization c.args.text.now) long c.in-Token.ensures.value c.in-Token.ensures.fits.0
          c.each.invariant.cutting);
      len = omega (arith, c.split_at-in-Token.ensures.back_len, c.each.invariant.len, c.in-Token.ensures.fits.1);
    }

pub returns-in-Fault-clause-fault : goal.returns-in-Fault-clause-fault
returns-in-Fault-clause-fault c =
    cut_fails c.each.tokens.items c.each.places.items c.each.at c.in-Fault.kind c.each.rest.now
    (tokenization c.args.text.now)
    (positive (length c.each.rest.now) c.is_empty.result c.is_empty.ensures c.each-test.true) c.in-Fault.ensures.value
    c.each.invariant.cutting

pub returns-clause-found : goal.returns-clause-found
returns-clause-found c =
    cut_done c.each.tokens.items c.each.places.items c.each.at c.each.rest.now (tokenization c.args.text.now)
    (nothing (length c.each.rest.now) c.is_empty.result c.is_empty.ensures c.each-test.false) c.each.invariant.cutting
