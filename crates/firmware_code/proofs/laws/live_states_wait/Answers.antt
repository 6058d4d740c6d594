use Rattle.firmware_code.proofs.{runs.Stepping.interruptible_of, runs.Framing.given_live, runs.Framing.live_is_idle}
use Rattle.firmware_code.proofs.laws.live_states_wait.Goals as goal

pub returns : goal.returns
returns c = record { interruptible = interruptible_of; idle = live_is_idle; given = given_live }
