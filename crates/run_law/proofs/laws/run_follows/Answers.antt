use Rattle.run_law.proofs.{Grounds.ground, Samples.run_follows}
use Rattle.run_law.proofs.laws.run_follows.Goals as goal

pub returns : goal.returns
returns g c x =
    let sound = g.F.SoundForm.sound x c.writes_agree.ensures c.writes_are_quiet.ensures in
    run_follows _ _ _ _ _ _ _ _ _ (ground sound c.machine_laws.ensures)
