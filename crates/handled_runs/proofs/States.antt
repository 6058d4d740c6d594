-- The states of a run whose interrupts run code.
use Rattle.cpu12_parts.specs.Parts.{suspended, wav}
use Rattle.cpu12_emul.specs.Simulation.{OnStackOnly}
use Rattle.run_law.specs.Soundness.{HandlersBegin, SumsFitBelow}
use Rattle.handler_check.specs.Running.{HandlersRunAsTakes}
use Rattle.handled_runs.specs.{Answering.StatesRunAsTakes, Open.is_open_to_code}
use Rattle.handled_runs.specs.SoundHandledProof.{can_begin, opens_free}

pub states_run_as_takes : HandlersBegin → SumsFitBelow → HandlersRunAsTakes → StatesRunAsTakes
states_run_as_takes begin sums runs f handler most flags ws w s is p l image free =
    let facts = p.facts in
    let shown = facts.shown in
    let can = can_begin sums flags f (suspended wav w) s p
    (begin OnStackOnly is_open_to_code w s opens_free.apart shown.room l) in
    (can, runs handler most is flags ws w free image can)
