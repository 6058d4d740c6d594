use Rattle.run_law.proofs.laws.step_laws.Goals as goal

pub returns : goal.returns
returns c = record {
  decoded_has_opcode = c.decoded_has_opcode.ensures;
  writes = record { writes_stay = c.writes_stay.ensures; bytes_stay = c.bytes_stay.ensures };
  plain_is_step = c.plain_is_step.ensures;
  rev = record {
    is_step = c.rev_is_step.ensures;
    fits = c.rev_fits.ensures;
    goes_on = c.rev_stays.ensures.goes_on;
    sums = c.rev_stays.ensures.sums;
    steady = c.rev_steady.ensures;
  };
  revw = record {
    is_step = c.revw_is_step.ensures;
    fits = c.revw_fits.ensures;
    goes_on = c.revw_stays.ensures.goes_on;
    sums = c.revw_stays.ensures.sums;
    steady = c.revw_steady.ensures;
  };
  wav = record {
    first_is_step = c.wav_is_step.ensures;
    sums_are_step = c.sums_are_step.ensures;
    fits = c.wav_fits.ensures;
    goes_on = c.wav_stays.ensures.goes_on;
    writes = c.wav_stays.ensures.writes;
    steady = c.wav_steady.ensures;
  };
  rev_is_whole = c.rev_is_whole.ensures;
  revw_is_whole = c.revw_is_whole.ensures;
  wav_is_whole = c.wav_is_whole.ensures;
}
