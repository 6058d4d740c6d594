use Rattle.std.proofs.Common.{rules}
use Rattle.fz_top.proofs.RunLemmas.{make, ran, broke, room_of, stopped, wanted}
use Rattle.fz_top.proofs.program.run.Goals as goal

pub returns-in-Ok-deliver-clause-runs : goal.returns-in-Ok-deliver-clause-runs
returns-in-Ok-deliver-clause-runs g c =
    let made = make c.in-Ok.ensures.value c.in-Ok-read_all.ensures.files c.inputs.ensures
    c.in-Ok-read_all.ensures.whole c.deref.ensures.value c.in-Ok-work.ensures in
    ran _ made _ c.in-Ok-deliver.ensures.done

pub returns-in-Err-Failed-deliver-clause-runs : goal.returns-in-Err-Failed-deliver-clause-runs
returns-in-Err-Failed-deliver-clause-runs g c =
    let made = make c.in-Ok.ensures.value c.in-Ok-read_all.ensures.files c.inputs.ensures
    c.in-Ok-read_all.ensures.whole c.deref.ensures.value c.in-Ok-work.ensures in
    broke _ made _ c.in-Err-Failed-deliver.ensures.others
    (c.in-Err-Failed-deliver.ensures.failed (search rules))

pub returns-clause-runs : goal.returns-clause-runs
returns-clause-runs g c =
    let made = make c.in-Ok.ensures.value c.in-Ok-read_all.ensures.files c.inputs.ensures
    c.in-Ok-read_all.ensures.whole c.deref.ensures.value c.in-Ok-work.ensures in
    wanted _ made _ (c.in-Err-Memory-deliver.ensures.memory (search rules))

pub returns-in-Err-Failed-deliver-clause-writes_steady : goal.returns-in-Err-Failed-deliver-clause-writes_steady
returns-in-Err-Failed-deliver-clause-writes_steady g c = λ shelf_reliable out_reliable command contents ready fault.
    let made = make c.in-Ok.ensures.value c.in-Ok-read_all.ensures.files c.inputs.ensures
    c.in-Ok-read_all.ensures.whole c.deref.ensures.value c.in-Ok-work.ensures in
    let room = room_of _ made command contents ready in
    c.in-Err-Failed-deliver.ensures.steady (c.in-Ok-read_all.ensures.reliable shelf_reliable) out_reliable room.0
    room.1 (search rules)

pub returns-in-Err-clause-runs : goal.returns-in-Err-clause-runs
returns-in-Err-clause-runs g c =
    stopped _ _ c.in-Ok.ensures.value c.in-Ok-read_all.ensures.files c.inputs.ensures
    c.in-Ok-read_all.ensures.whole c.deref.ensures.value c.in-Err.ensures
