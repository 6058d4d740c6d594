use Rattle.rule_layout.proofs.PlaceLemmas.{term_number_lem, out_number_lem}
use Rattle.rule_layout.proofs.laws.slot_number_laws.Goals as goal

pub returns : goal.returns
returns c = record { input_term = term_number_lem; output_term = out_number_lem }
