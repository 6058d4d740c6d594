use Rattle.mailbox_runs.proofs.Words.{[], ◌++◌, ◌+◌, ◌∙◌, ◌∷◌, answer_seen, ap, if◌then◌else◌, input_bytes, length}
use Rattle.mailbox_runs.proofs.Words.{map, map-append, sym}
use Rattle.std.specs.{Prelude.is_ok}
use Rattle.mailbox_runs.proofs.Postings.{first_wait, wait_behind, first_is_one, few_wait, few_wait_behind}
use Rattle.mailbox_runs.proofs.Running.{answered, waits_behind}
use Rattle.mailbox_runs.proofs.turns.end_turn.Goals as goal

pub returns-then-waits-eq0-clause-few : goal.returns-then-waits-eq0-clause-few
returns-then-waits-eq0-clause-few g c =
    few_wait (length c.args.samples.now) c.posted_last.result c.args.taken.now c.requires.good c.posted_last.ensures

pub answer_of-requires-clause-some : goal.answer_of-requires-clause-some
answer_of-requires-clause-some g c =
    let a = c.args in
    let early = c.count_up_to-early in
    let sample = c.posted_last-sample in
    first_is_one (length a.samples.now) a.waits (a.begun + 2) sample.result a.taken.now c.if-waits-eq0.false
    c.requires.waits c.requires.good
    (first_wait a.waits (a.begun + 2) early.result sample.result a.taken.now early.ensures.value sample.ensures)

pub returns-clause-answers : goal.returns-clause-answers
returns-clause-answers g c =
    let a = c.args in
    let t = a.t.now in
    let early = c.count_up_to-early in
    let sample = c.posted_last-sample in
    let before = a.answers.now.items in
    let put = c.push.ensures.items
    ∙ ap (λ r. if is_ok r then before ++ c.answer_of.result ∷ [] else before) c.unwrap.ensures in
    ap (map answer_seen) put ∙ map-append answer_seen before (c.answer_of.result ∷ [])
    ∙ answered a.firmware.now (map input_bytes a.samples.now) a.begun a.waits a.taken.now t.moment t.instrs
    a.m.now.state (map answer_seen before) sample.result (answer_seen c.answer_of.result) c.if-waits-eq0.false
    (first_wait a.waits (a.begun + 2) early.result sample.result a.taken.now early.ensures.value sample.ensures)
    c.answer_of.ensures

pub returns-clause-waits : goal.returns-clause-waits
returns-clause-waits g c =
    let a = c.args in
    let early = c.count_up_to-early in
    let last = c.posted_last-2 in
    wait_behind (a.begun + 2) early.result last.result a.taken.now early.ensures.value last.ensures
    ∙ sym (waits_behind a.begun a.waits a.taken.now c.if-waits-eq0.false)

pub returns-clause-few : goal.returns-clause-few
returns-clause-few g c =
    let a = c.args in
    let k = a.begun + 2 in
    let early = c.count_up_to-early in
    let last = c.posted_last-2 in
    few_wait_behind (length a.samples.now) k last.result a.taken.now c.requires.good
    (wait_behind k early.result last.result a.taken.now early.ensures.value last.ensures)
