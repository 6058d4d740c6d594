use Rattle.fz_status.proofs.fault_lines.put_trace.Goals as goal

pub returns-in-OutOfRange : goal.returns-in-OutOfRange
returns-in-OutOfRange g c = rw c.in-OutOfRange.is c.put_parts.ensures
