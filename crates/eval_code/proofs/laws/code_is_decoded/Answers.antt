use Rattle.eval_code.proofs.{placing.GivenBytes.code_is_bytes, steps.Decoding.decodes_where_it_stands}
use Rattle.eval_code.proofs.laws.code_is_decoded.Goals as goal

pub returns : goal.returns
returns c = record {
  decoded = decodes_where_it_stands c.decodes_encoded.ensures c.encoded_are_bytes.ensures.short;
  bytes = code_is_bytes c.encoded_are_bytes.ensures.bytes;
}
