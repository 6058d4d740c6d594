use Rattle.std.proofs.Common.{◌≡◌, Err, rules, sym, ◌∙◌}
use Rattle.fcl_tokens.specs.declared.token.Keyword.TheVariants as key
use Rattle.fcl_syntax.specs.{Reading.and_in, Reading.not_at}
use Rattle.fcl_syntax.proofs.ConditionParsers.{conjuncts_take, alternatives_take}
use Rattle.fcl_syntax.proofs.Rooms.{behind_key-shorter, behind_key-goes_on, behind_key-fails}
use Rattle.fcl_syntax.proofs.Rooms.{not_at-leaf, not_at-deep, not_at-opened}
use Rattle.fcl_syntax.proofs.conditions.+condition.Goals as goal

pub conjuncts-each-smaller : goal.conjuncts-each-smaller
conjuncts-each-smaller t c =
    behind_key-shorter key.And (not_at c.args.room) _ c.in-Some.ensures.read (conjuncts_take c.args.room)
    c.in_ok-part.ensures

pub conjuncts-each-preserved : goal.conjuncts-each-preserved
conjuncts-each-preserved t c = rw c.in_ok-push.ensures.items
    (behind_key-goes_on key.And (not_at c.args.room) _ c.in-Some.ensures.read c.in-Some.ensures.next c.each.invariant
    c.in_ok-part.ensures (conjuncts-each-smaller t c))

pub conjuncts-returns-in_err-part : goal.conjuncts-returns-in_err-part
conjuncts-returns-in_err-part t c =
    let passed : c.from_residual.result ≡ Err c.in_err-part.field-0.0 = search rules in
    rw passed (behind_key-fails key.And (not_at c.args.room) _ c.in-Some.ensures.read c.in-Some.ensures.next
    c.each.invariant c.in_err-part.field-0.0 c.in_err-part.ensures)

pub alternatives-each-smaller : goal.alternatives-each-smaller
alternatives-each-smaller t c =
    behind_key-shorter key.Or (and_in (not_at c.args.room)) _ c.in-Some.ensures.read (alternatives_take c.args.room)
    c.in_ok-part.ensures

pub alternatives-each-preserved : goal.alternatives-each-preserved
alternatives-each-preserved t c = rw c.in_ok-push.ensures.items
    (behind_key-goes_on key.Or (and_in (not_at c.args.room)) _ c.in-Some.ensures.read c.in-Some.ensures.next
    c.each.invariant c.in_ok-part.ensures (alternatives-each-smaller t c))

pub alternatives-returns-in_err-part : goal.alternatives-returns-in_err-part
alternatives-returns-in_err-part t c =
    let passed : c.from_residual.result ≡ Err c.in_err-part.field-0.0 = search rules in
    rw passed (behind_key-fails key.Or (and_in (not_at c.args.room)) _ c.in-Some.ensures.read c.in-Some.ensures.next
    c.each.invariant c.in_err-part.field-0.0 c.in_err-part.ensures)

pub not-returns-then-not-is_opener : goal.not-returns-then-not-is_opener
not-returns-then-not-is_opener t c =
    rw (not_at-leaf c.args.room _ (sym c.is_opener.ensures ∙ c.if-not-is_opener.true)) c.operand.ensures

pub not-returns-then-room-eq0 : goal.not-returns-then-room-eq0
not-returns-then-room-eq0 t c =
    rw c.fault.ensures (not_at-deep c.args.room _ c.if-room-eq0.true
    (sym c.is_opener.ensures ∙ c.if-not-is_opener.false))

pub not-returns : goal.not-returns
not-returns t c = rw
    (not_at-opened c.args.room _ c.if-room-eq0.false
    (sym c.is_opener.ensures ∙ c.if-not-is_opener.false)) c.opened.ensures
