use Rattle.watched_code.proofs.watching.Answering.{watched_answers}
use Rattle.watched_code.proofs.laws.watched_answers.Goals as goal

pub returns : goal.returns
returns c = watched_answers record {
  nearest_is_byte = c.nearest_is_byte.ensures;
  stays_fit = c.stays_fit.ensures;
  decodes = c.code_is_decoded.ensures.decoded;
  code_is_bytes = c.code_is_decoded.ensures.bytes;
  parts = c.blocks_are_placed.ensures.parts;
  at_parts = c.blocks_are_placed.ensures.at_parts;
  stand = c.instructions_go_on.ensures.stand;
  plain = c.instructions_go_on.ensures.plain;
  straight = c.instructions_go_on.ensures.straight;
  returns = c.instructions_go_on.ensures.returns;
  interruptible = c.live_states_wait.ensures.interruptible;
  idle = c.live_states_wait.ensures.idle;
  given = c.live_states_wait.ensures.given;
  called = c.called_eval_returns.ensures;
  arrives = c.frames_lead.ensures.arrives;
  turns = c.frames_lead.ensures.turns;
  firmware = c.image_has_firmware.ensures;
  free = c.free_bytes_leave.ensures;
}
