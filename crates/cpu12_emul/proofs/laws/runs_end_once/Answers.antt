use Rattle.cpu12_emul.proofs.Endings.{run_ends_once}
use Rattle.cpu12_emul.proofs.laws.runs_end_once.Goals as goal

pub returns : goal.returns
returns c = run_ends_once
