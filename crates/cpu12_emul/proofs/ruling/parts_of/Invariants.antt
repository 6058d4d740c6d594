use Rattle.std.proofs.Common.{◌≡◌, ◌≤◌, ◌-◌}
use Rattle.cpu12_parts.specs.Laws.{state_of}
use Rattle.cpu12_emul.specs.Ruling.{Ruled}
use Rattle.cpu12_emul.proofs.ruling.parts_of.Given as goal

abbrev pub invariant-loop-done : goal.invariant-loop-done
invariant-loop-done g l = record {
  ruled : Ruled g.R.Ruling.opcode l.fn.flags (state_of l.fn.regs l.fn.temps (g.M.Mem.bytes l.fn.m))
      (state_of l.r l.fn.temps (g.M.Mem.bytes l.m)) l.done;
  within : l.done ≤ l.fn.most;
  tags : g.M.Mem.tags l.m ≡ g.M.Mem.tags l.fn.m;
}

abbrev pub decreases-loop-done : goal.decreases-loop-done
decreases-loop-done g l = l.fn.most - l.done
