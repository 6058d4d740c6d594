use Rattle.firmware_code.proofs.{runs.Calling.rts_run, runs.Framing.jsr_run}
use Rattle.firmware_code.proofs.runs.Stepping.{instruction_goes_on, masked_goes_on, stands_of, straight_goes_on}
use Rattle.firmware_code.proofs.laws.instructions_go_on.Goals as goal

pub returns : goal.returns
returns c = record {
  stand = stands_of;
  plain = instruction_goes_on;
  straight = straight_goes_on c.plain_instructions_leave.ensures.straight c.encoded_are_bytes.ensures.short;
  masked = masked_goes_on;
  calls = jsr_run;
  returns = rts_run;
}
