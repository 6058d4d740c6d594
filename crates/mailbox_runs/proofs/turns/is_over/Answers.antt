use Rattle.std.proofs.Common.{◌==◌, ◌&&◌, Bool, ap, sym, slice_index}
use Rattle.mailbox_runs.proofs.Running.{some_behind}
use Rattle.mailbox_runs.proofs.turns.is_over.Goals as goal

pub returns-else-t-posts : goal.returns-else-t-posts
returns-else-t-posts g c =
    let a = c.args in
    sym (ap (λ (b : Bool). b && (slice_index a.m.now.state.mem a.firmware.now.memory_map.sample_flag == 0))
    (some_behind a.posts.now a.t.now.next c.requires c.if-t-posts.false))
