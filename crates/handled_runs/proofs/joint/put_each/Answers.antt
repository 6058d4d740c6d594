use Rattle.std.proofs.Common.{◌≡◌, ◌∙◌, ◌++◌, ◌∷◌, [], ℕ, Option, Some, List, cond, ap, sym, nat_cmp, rules}
use Rattle.std.specs.BTreeMap.{is_at}
use Rattle.cpu12_asm.specs.Bytes.{byte_at}
use Rattle.handled_runs.specs.Joint.{either}
use Rattle.handled_runs.proofs.JointBytes.{put_one}
use Rattle.handled_runs.proofs.joint.put_each.Goals as goal

pub loop-at-preserved : goal.loop-at-preserved
loop-at-preserved c q =
    let l = c.loop-at in
    let rest = c.pop.new.self.items in
    let put : byte_at c.insert.new.self q ≡ cond (is_at (nat_cmp c.in-Some.at) q) (Some c.in-Some.byte)
    (byte_at l.map q) = c.in_ok-insert.ensures.put q in
    let items : l.bytes.items ≡ rest ++ (c.in-Some.at, c.in-Some.byte) ∷ [] = search rules in
    ap (λ (o : Option ℕ). either (byte_at rest q) o) put ∙ put_one rest c.in-Some.at c.in-Some.byte q (byte_at l.map q)
    ∙ ap (λ (bytes : List (ℕ × ℕ)). either (byte_at bytes q) (byte_at l.map q)) (sym items)
    ∙ l.invariant q
