use Rattle.fz_status.proofs.errors.put_line.Goals as goal

pub returns-in-ReadFault : goal.returns-in-ReadFault
returns-in-ReadFault g c = rw (c.in-ReadFault.is, ← c.word.ensures) c.put_name.ensures
