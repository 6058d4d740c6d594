use Rattle.fz_status.proofs.fault_lines.put_check.Goals as goal

pub returns-in-Unsure : goal.returns-in-Unsure
returns-in-Unsure g c = rw c.in-Unsure.is c.put_parts-in-Unsure.ensures

pub returns-in-Claimed : goal.returns-in-Claimed
returns-in-Claimed g c = rw c.in-Claimed.is c.put_parts-in-Claimed.ensures
