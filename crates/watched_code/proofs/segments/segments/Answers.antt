use Rattle.watched_code.proofs.Words.{◌∙◌}
use Rattle.watched_code.proofs.watching.Emitting.{segments_made}
use Rattle.watched_code.proofs.segments.segments.Goals as goal

pub returns : goal.returns
returns c =
    let laid = c.args.laid_out.now in
    segments_made c.flat_has_parts.ensures c.args.memory_map.now laid.block.now laid.flat _ _ _ _ _ _ _ _
    laid.flat_is
    c.new-segments.ensures.items
    (c.new.ensures ∙ c.in_ok-table_bytes.ensures)
    (c.new-2.ensures ∙ c.in_ok-singleton_bytes.ensures)
    (c.new-3.ensures ∙ c.in_ok-rule_bytes.ensures)
    c.in_ok-push.ensures.items
    c.in_ok-push-2.ensures.items
    c.in_ok-push_weights.ensures
    c.in_ok-push-3.ensures.items
