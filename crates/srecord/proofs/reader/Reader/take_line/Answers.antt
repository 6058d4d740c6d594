use Rattle.std.proofs.Common.{◌≡◌, List, ℕ, rules, subst}
use Rattle.std.specs.Prelude.{Err}
use Rattle.std.proofs.lemmas.Result.{IfErr-weaker, on_ok_weaker}
use Rattle.srecord.specs.Lines.{FieldsFail}
use Rattle.srecord.specs.Texts.{after_end, fields_fail, opening_fails, record_fails}
use Rattle.srecord.proofs.ByteLemmas.{given_more, has_no_start, has_start, is_record_there}
use Rattle.srecord.proofs.reader.Reader.take_line.Goals as goal

pub returns-then-is_some-clause-fault : goal.returns-then-is_some-clause-fault
returns-then-is_some-clause-fault c = λ g h want. after_end (has_start c.if-is_some.ensures h)

pub returns-in_err-kind-clause-fault : goal.returns-in_err-kind-clause-fault
returns-in_err-kind-clause-fault c = λ g h.
    let passed : c.from_residual.result ≡ Err c.in_err-kind.field-0.0 = search rules in
    rw passed (λ want. opening_fails c.in_err-kind.field-0.0 (has_no_start c.if-is_some.ensures h)
    (c.in_err-kind.ensures want))

pub returns-in_err-fields-clause-fault : goal.returns-in_err-fields-clause-fault
returns-in_err-fields-clause-fault c = λ g h.
    let passed : c.from_residual-in_err-fields.result ≡ Err c.in_err-fields.field-0.0 = search rules in
    let fails = subst (λ (b : List ℕ). FieldsFail c.in_ok-kind.kind b c.args.number c.in_err-fields.field-0.0)
    c.deref.ensures.value c.in_err-fields.ensures in
    rw passed (λ want. fields_fail c.in_ok-kind.kind c.in_ok-kind.bytes.items c.in_err-fields.field-0.0
    (has_no_start c.if-is_some.ensures h) c.in_ok-kind.ensures fails)

pub returns-clause-given : goal.returns-clause-given
returns-clause-given c = λ before g give h.
    let is_record = is_record_there c.deref.ensures.value c.in_ok-kind.ensures c.in_ok-fields.ensures in
    on_ok_weaker c.take_record.result (given_more before g give (has_no_start c.if-is_some.ensures h) is_record)
    (c.take_record.ensures.follows g h)

pub returns-clause-fault : goal.returns-clause-fault
returns-clause-fault c = λ g h.
    let fields = c.in_ok-fields.fields in
    let is_record = is_record_there c.deref.ensures.value c.in_ok-kind.ensures c.in_ok-fields.ensures in
    IfErr-weaker c.take_record.result _ _
    (λ fault fails want. record_fails c.in_ok-kind.kind fields.address fields.payload.now fault
    (has_no_start c.if-is_some.ensures h) is_record (fails want))
    (c.take_record.ensures.fault g h)
