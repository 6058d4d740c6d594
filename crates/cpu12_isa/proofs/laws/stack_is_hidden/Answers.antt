use Rattle.cpu12_isa.proofs.HiddenBytes.{agree_less, shown_from, push_agrees}
use Rattle.cpu12_isa.proofs.laws.stack_is_hidden.Goals as goal

pub returns : goal.returns
returns c = record { more = agree_less; shown = shown_from; pushed = push_agrees }
