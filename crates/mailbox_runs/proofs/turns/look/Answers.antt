use Rattle.mailbox_runs.proofs.Words.{◌∙◌, ap, input_bytes, length, map, notes_of, waiting}
use Rattle.mailbox_runs.proofs.{Postings.wait_taken, Running.taken_slice}
use Rattle.mailbox_runs.proofs.turns.look.Goals as goal

pub returns-clause-waits : goal.returns-clause-waits
returns-clause-waits g c =
    let a = c.args in
    let form = a.form.now in
    let t = a.t.now in
    let n = c.take_due.new in
    c.posted_last.ensures
    ∙ ap (waiting a.waits)
    (taken_slice a.m.now.flags form.firmware.now (map input_bytes form.samples.now) form.begun t.moment a.posts.now
    a.m.now.state n.m.state (notes_of.frames t.notes) (notes_of.frames n.t.notes) (notes_of.told t.notes)
    (notes_of.told n.t.notes) t.next n.t.next
    c.take_due.ensures.takes c.take_due.ensures.next)

pub returns-clause-few : goal.returns-clause-few
returns-clause-few g c =
    let a = c.args in
    wait_taken (length a.form.now.samples.now) a.waits c.posted_last.result a.t.now.next
    c.take_due.new.t.next a.posts.now
    c.requires.waits c.requires.good.posts_are c.take_due.ensures.next.0 c.posted_last.ensures
