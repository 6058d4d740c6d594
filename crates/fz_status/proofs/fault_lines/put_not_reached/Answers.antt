use Rattle.fz_status.proofs.fault_lines.put_not_reached.Goals as goal

pub returns-in-Cell : goal.returns-in-Cell
returns-in-Cell g c = rw (c.in-Cell.is, ← c.as_slice.ensures.value) c.put_parts.ensures

pub returns-in-Outputs : goal.returns-in-Outputs
returns-in-Outputs g c = rw c.in-Outputs.is c.put_parts-in-Outputs.ensures
