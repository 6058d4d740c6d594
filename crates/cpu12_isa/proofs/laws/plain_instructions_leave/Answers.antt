use Rattle.cpu12_isa.proofs.Plain.{plain_leaves_by_tables, straight_goes_on}
use Rattle.cpu12_isa.proofs.laws.plain_instructions_leave.Goals as goal

pub returns : goal.returns
returns c = record { tables = plain_leaves_by_tables; straight = straight_goes_on }
