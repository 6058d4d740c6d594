use Rattle.fz_top.specs.Commands.{Makes}
use Rattle.fz_top.proofs.command.Command.work.Goals as goal

pub returns-in-Debug : goal.returns-in-Debug
unfolding Makes
returns-in-Debug c = rw c.in-Debug.is (rw c.files_of.ensures at c.work-in-Debug.ensures)

pub returns-in-Hrun : goal.returns-in-Hrun
unfolding Makes
returns-in-Hrun c = rw c.in-Hrun.is (rw c.files_of-in-Hrun.ensures at c.work-in-Hrun.ensures)

pub returns-in-Lrun : goal.returns-in-Lrun
unfolding Makes
returns-in-Lrun c = rw c.in-Lrun.is (rw c.files_of-in-Lrun.ensures at c.work-in-Lrun.ensures)

pub returns-in-Mrun : goal.returns-in-Mrun
unfolding Makes
returns-in-Mrun c = rw c.in-Mrun.is (rw c.files_of-in-Mrun.ensures at c.work-in-Mrun.ensures)

pub returns-in-Run : goal.returns-in-Run
unfolding Makes
returns-in-Run c = rw c.in-Run.is (rw c.files_of-in-Run.ensures at c.work-in-Run.ensures)

pub returns-in-Srun : goal.returns-in-Srun
unfolding Makes
returns-in-Srun c = rw c.in-Srun.is (rw c.files_of-in-Srun.ensures at c.work-in-Srun.ensures)
