use Rattle.std.proofs.Common.{◌≡◌, ◌-◌, ◌++◌}
use Rattle.cpu12_isa.specs.Memory.{bytes_at, from}
use Rattle.debug_script.proofs.debugger.bytes_from.Given as goal

abbrev pub invariant-loop : goal.invariant-loop
invariant-loop g l = l.bytes.items ++ bytes_at l.session.rest.here.state.mem (from l.next (l.count - l.counter))
    ≡ bytes_at l.session.rest.here.state.mem (from l.at l.count)
