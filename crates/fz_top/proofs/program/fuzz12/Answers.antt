use Rattle.std.proofs.Common.{inl, inr, ⊎_elim}
use Rattle.fz_status.specs.Words.{texts_of, word_at}
use Rattle.fz_top.proofs.{FlagsLemmas.byte_flags, KeepsLemmas.ok_keeps}
use Rattle.fz_top.proofs.OthersLemmas.{ok_serves}
use Rattle.fz_top.proofs.CompletenessLemmas.{asked, can, contents_of, room_for}
use Rattle.fz_top.proofs.RunLemmas.{does, no_faults, settles, completes, known_there, long_status}
use Rattle.fz_top.proofs.RunLemmas.{carries, usage_status, usage_cause}
use Rattle.fz_top.proofs.program.fuzz12.Goals as goal

pub returns-clause-settled : goal.returns-clause-settled
returns-clause-settled g c = λ command contents is known.
    settles (texts_of c.args.words.now) _ _ command contents is known
    (c.contents_have_one_result.ensures command contents) _ c.run-status.ensures.runs

pub returns-clause-complete : goal.returns-clause-complete
returns-clause-complete g c = λ s o command contents ready.
    let run = c.run-status.ensures in
    completes (texts_of c.args.words.now) _ _ command contents ready.is ready.known
    (c.contents_have_one_result.ensures command contents) _ run.runs
    (run.reads_steady s command ready.is (known_there _ _ contents ready.known))
    (run.writes_steady s o command contents ready)

pub returns-clause-too_long : goal.returns-clause-too_long
returns-clause-too_long g c = λ place long.
    long_status (texts_of c.args.words.now) _ _ place long _ c.run-status.ensures.runs

pub returns-clause-usage_only : goal.returns-clause-usage_only
returns-clause-usage_only g c = λ is.
    c.run-status.ensures.law.0 (usage_cause (texts_of c.args.words.now) _ _ _ c.run-status.ensures.runs is)

pub returns-clause-usage_always : goal.returns-clause-usage_always
returns-clause-usage_always g c = λ is.
    usage_status (texts_of c.args.words.now) _ _ _ c.run-status.ensures.runs (c.run-status.ensures.law.1 is)

pub returns-clause-done : goal.returns-clause-done
returns-clause-done g c = λ command contents can why.
    let words = texts_of c.args.words.now in
    let run = c.run-status.ensures in
    let byte = byte_flags c.flags_are_bytes.ensures words command can.is in
    let made = c.commands_are_settled.ensures command contents in
    let one = c.contents_have_one_result.ensures command contents in
    let ends = does words _ _ command contents can.is can.known one made.no_fault (made.some (byte, can.accepted)) _
    run.runs in
    elim why [
      | inl none ↦ (let free = no_faults words _ _ none _ run.runs in ends free.0 free.1)
      | inr reliable ↦ ends (run.reads_steady reliable.0 command can.is (known_there _ _ contents can.known))
          (run.writes_steady reliable.0 reliable.1 command contents
          (record { is = can.is; known = can.known; room = reliable.2 }))
    ]

pub returns-clause-carried : goal.returns-clause-carried
returns-clause-carried g c =
    carries c.commands_are_settled.ensures (texts_of c.args.words.now) _ _ _ c.run-status.ensures.runs

pub returns-clause-promise : goal.returns-clause-promise
returns-clause-promise g c =
    ok_keeps c.certified_runs_keep_promise.ensures c.flags_are_bytes.ensures (texts_of c.args.words.now) _ _ _
    c.run-status.ensures.runs

pub returns-clause-others : goal.returns-clause-others
returns-clause-others g c =
    ok_serves c.other_runs_serve.ensures c.flags_are_bytes.ensures (texts_of c.args.words.now) _ _ _
    c.run-status.ensures.runs

pub returns-clause-accepted : goal.returns-clause-accepted
returns-clause-accepted g c = λ format flags files are told accepted why.
    let words = texts_of c.args.words.now in
    let byte = c.flags_are_bytes.ensures (word_at words 7) flags are.run.flags_are in
    let keep = c.certified_runs_keep_promise.ensures in
    let given = c.accepted_files_give_firmware.ensures format files accepted in
    returns-clause-done g c (asked format flags) (contents_of files)
    (can words format flags files _ are told given)
    (⊎_elim inl (λ r. inr (r.0.0, r.0.1, room_for keep words format flags files _ _ byte r.1)) why)
