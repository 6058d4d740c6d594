use Rattle.std.proofs.Common.{◌≡◌, List, ℕ, refl, ap, arith, rules}
use Rattle.std.specs.Prelude.{Err}
use Rattle.cpu12_asm.specs.Bytes.{byte_at}
use Rattle.srecord.proofs.RunLemmas.{is_nothing}
use Rattle.srecord.proofs.ByteLemmas.{fails_there, nothing_read, without_start}
use Rattle.srecord.proofs.reader.read.Goals as goal

pub loop-rest-init : goal.loop-rest-init
loop-rest-init c = record {
  short = omega arith;
  few = omega arith;
  has_read = nothing_read c.args.text.now _
      (λ q. ap (λ (bytes : List (ℕ × ℕ)). byte_at bytes q) c.new.ensures) refl refl;
}

pub returns-in_err-take_line-clause-fault : goal.returns-in_err-take_line-clause-fault
returns-in_err-take_line-clause-fault c =
    let h = c.loop-rest.invariant.has_read in
    let fault = c.in_err-take_line.field-0.0 in
    let passed : c.from_residual.result ≡ Err fault = search rules in
    rw passed (λ want.
    fails_there c.args.text.now c.loop-rest.rest.now c.cut_line.result.0.now c.cut_line.result.1.now c.loop-rest.count
    c.loop-rest.reader fault h c.cut_line.ensures.lines (c.in_err-take_line.ensures.fault h.given h.has want))

pub returns-in-None-clause-fault : goal.returns-in-None-clause-fault
returns-in-None-clause-fault c =
    λ want. without_start c.args.text.now c.loop-rest.rest.now c.loop-rest.count c.loop-rest.reader
    c.loop-rest.invariant.has_read (is_nothing c.loop-rest.rest.now c.loop-rest-test.ensures) c.in-None.is
