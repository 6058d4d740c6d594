use Rattle.fz_shelf.proofs.Algebra.{puts_behind, puts_no_more}
use Rattle.fz_status.proofs.fault_lines.put_fast.Goals as goal

pub returns-in_err-put_parts : goal.returns-in_err-put_parts
returns-in_err-put_parts g c = puts_no_more c.in_err-put_parts.ensures _ _ c.from_residual.ensures.0

pub returns : goal.returns
returns g c = puts_behind c.in_ok-put_parts.ensures _ c.put_usual.ensures
