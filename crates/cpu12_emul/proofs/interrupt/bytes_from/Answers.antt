use Rattle.std.proofs.Common.{◌∙◌, ◌++◌, ◌∷◌, [], ◌-◌, arith, ap, List, ℕ}
use Rattle.cpu12_isa.specs.Memory.{plus, from, bytes_at}
use Rattle.cpu12_emul.proofs.Bytes.{byte_more}
use Rattle.cpu12_emul.proofs.interrupt.bytes_from.Goals as goal

pub loop-left-preserved : goal.loop-left-preserved
loop-left-preserved g c = record {
  bytes = (let e = byte_more (g.M.Mem.bytes c.args.m.now) c.loop-left.next c.loop-left.left c.loop-left.bytes.items
      (omega arith) in let p = c.push.ensures.items in let r = c.read.ensures in let i = c.loop-left.invariant.bytes in
      ap (λ (l : List ℕ). l ++ bytes_at (g.M.Mem.bytes c.args.m.now)
      (from (plus c.loop-left.next 1) (c.loop-left.left - 1)))
      (p ∙ ap (λ (v : ℕ). c.loop-left.bytes.items ++ v ∷ []) r) ∙ e ∙ i);
  room = omega arith;
}
