use Rattle.cpu12_asm.proofs.Rising.{bytes_ascend, rising_head, rising_end, rising_parts}
use Rattle.cpu12_asm.proofs.laws.rising_items.Goals as goal

pub returns : goal.returns
returns c = record { first = rising_head; end = rising_end; part = rising_parts; ascend = bytes_ascend }
