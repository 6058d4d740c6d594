use Rattle.cpu12_parts.proofs.Inside.{wav_goes_on, wav_writes}
use Rattle.cpu12_parts.proofs.laws.wav_stays.Goals as goal

pub returns : goal.returns
returns c = record { goes_on = wav_goes_on; writes = wav_writes }
