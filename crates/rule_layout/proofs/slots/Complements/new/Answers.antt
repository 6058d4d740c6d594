use Rattle.rule_layout.proofs.Words.{Complement, place_of}
use Rattle.rule_layout.proofs.SlotLemmas.{no_marks}
use Rattle.rule_layout.proofs.slots.Complements.new.Goals as goal

pub loop-rule-init : goal.loop-rule-init
loop-rule-init c = λ i t h. no_marks 300 (place_of (Complement i t))
