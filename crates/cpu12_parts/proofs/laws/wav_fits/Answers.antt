use Rattle.cpu12_parts.proofs.PartFits.{wav_fits}
use Rattle.cpu12_parts.proofs.laws.wav_fits.Goals as goal

pub returns : goal.returns
returns c = wav_fits
