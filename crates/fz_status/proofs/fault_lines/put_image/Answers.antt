use Rattle.fz_status.proofs.fault_lines.put_image.Goals as goal

pub returns-in-Start : goal.returns-in-Start
returns-in-Start g c = rw c.in-Start.is c.put_parts-in-Start.ensures
