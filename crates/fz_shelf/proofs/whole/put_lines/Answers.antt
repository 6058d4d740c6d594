use Rattle.std.proofs.Common.{◌≡◌, Err, rules, sym, ◌∙◌}
use Rattle.std.proofs.lemmas.List.{append-nil}
use Rattle.std.proofs.lemmas.List.Folds.{concat-append}
use Rattle.std.specs.List.{concat}
use Rattle.fz_shelf.proofs.Taking.{line_begun, puts_next, puts_nothing, puts_stop}
use Rattle.fz_shelf.proofs.whole.put_lines.Goals as goal

pub loop-line-init : goal.loop-line-init
loop-line-init g c = puts_nothing _

pub loop-line-preserved : goal.loop-line-preserved
loop-line-preserved g c = puts_next concat concat-append c.args.lines.now c.loop-line.line-index _
    c.loop-line-test.true (append-nil _ ∙ sym (c.as_bytes.ensures.value ∙ c.line-item.is)) c.loop-line.invariant _
    c.in_ok-put_all.ensures.puts

pub returns-in_err-put_all-clause-puts : goal.returns-in_err-put_all-clause-puts
returns-in_err-put_all-clause-puts g c = puts_stop concat concat-append c.args.lines.now c.loop-line.line-index _
    c.loop-line-test.true (append-nil _ ∙ sym (c.as_bytes.ensures.value ∙ c.line-item.is)) c.loop-line.invariant
    c.in_err-put_all.ensures.puts _ c.from_residual.ensures.0

pub returns-in_err-put_all-clause-part : goal.returns-in_err-put_all-clause-part
returns-in_err-put_all-clause-part g c =
    let passed : c.from_residual.result ≡ Err c.in_err-put_all.field-0.0 = search rules in
    rw passed (line_begun c.args.lines.now c.loop-line.line-index _ _ c.loop-line-test.true
    (c.as_bytes.ensures.value ∙ c.line-item.is) c.loop-line.invariant.whole c.in_err-put_all.ensures.short)
