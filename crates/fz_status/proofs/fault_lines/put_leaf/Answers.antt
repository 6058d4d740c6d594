use Rattle.fz_status.proofs.fault_lines.put_leaf.Goals as goal

pub returns-in-Weak : goal.returns-in-Weak
returns-in-Weak g c = rw c.in-Weak.is c.put_parts.ensures

pub returns-in-Silent : goal.returns-in-Silent
returns-in-Silent g c = rw c.in-Silent.is c.put_parts-in-Silent.ensures

pub returns-in-Loud : goal.returns-in-Loud
returns-in-Loud g c = rw c.in-Loud.is c.put_parts-in-Loud.ensures
