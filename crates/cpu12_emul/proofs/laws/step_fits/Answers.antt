use Rattle.cpu12_emul.proofs.Fitting.{step_fits}
use Rattle.cpu12_emul.proofs.laws.step_fits.Goals as goal

pub returns : goal.returns
returns c = step_fits (record {
  stays_fit = c.stays_fit.ensures;
  bytes_stay = c.bytes_stay.ensures;
  decoded_fits = c.decoded_fits.ensures;
  rev_fits = c.rev_fits.ensures;
  revw_fits = c.revw_fits.ensures;
  wav_fits = c.wav_fits.ensures;
})
