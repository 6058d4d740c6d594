use Rattle.cpu12_isa.proofs.Frames.{frame_comes_back}
use Rattle.cpu12_isa.proofs.laws.frame_comes_back.Goals as goal

pub returns : goal.returns
returns c = frame_comes_back
