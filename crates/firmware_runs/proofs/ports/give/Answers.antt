use Rattle.std.proofs.Common.{◌≡◌, ◌∙◌, ◌++◌, ◌∷◌, [], ℕ, List, ap, sym}
use Rattle.std.proofs.lemmas.List.{drop_all}
use Rattle.std.proofs.Math.ListN.{set}
use Rattle.cpu12_isa.specs.{Act.write_all, Memory.placed}
use Rattle.firmware_runs.proofs.PortBytes.{write_last}
use Rattle.firmware_runs.proofs.ports.give.Goals as goal

pub returns-clause-state : goal.returns-clause-state
returns-clause-state g c =
    let l = c.loop-byte in
    let b = c.args.memory_map.now in
    let bytes = c.args.bytes.now in
    let mem = c.args.m.now.state.mem in
    let none : l.m.state.mem ≡ write_all (placed b.samples bytes) mem =
    ap (λ (rest : List ℕ). write_all (placed l.at rest) l.m.state.mem)
    (sym (drop_all l.byte-index bytes c.loop-byte-test.false)) ∙ l.invariant.mem in
    let last : set l.m.state.mem b.sample_flag 1 ≡ write_all (placed b.samples bytes ++ (b.sample_flag, 1) ∷ []) mem =
    ap (λ (k : List ℕ). set k b.sample_flag 1) none ∙ sym (write_last (placed b.samples bytes) b.sample_flag 1 mem) in
    let regs = l.invariant.regs in
    let temps = l.invariant.temps in
    let poked = c.poke-2.ensures.state in
    cc
