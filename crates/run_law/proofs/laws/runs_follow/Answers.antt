use Rattle.run_law.proofs.{Grounds.ground, Lists.runs_follow}
use Rattle.run_law.proofs.laws.runs_follow.Goals as goal

pub returns : goal.returns
returns g c x =
    let sound = g.F.SoundForm.sound x c.writes_agree.ensures c.writes_are_quiet.ensures in
    runs_follow _ _ _ _ _ _ _ _ _ (ground sound c.machine_laws.ensures)
