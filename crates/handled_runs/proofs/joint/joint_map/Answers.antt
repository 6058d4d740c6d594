use Rattle.std.proofs.Common.{◌∙◌, ℕ, Option, Some, List, cond, ap, nat_cmp}
use Rattle.std.specs.BTreeMap.{is_at}
use Rattle.cpu12_asm.specs.Bytes.{byte_at}
use Rattle.handled_runs.specs.Joint.{either}
use Rattle.handled_runs.proofs.JointBytes.{joint_is}
use Rattle.handled_runs.proofs.joint.joint_map.Goals as goal

pub returns : goal.returns
returns c q =
    let handler = c.args.handler.now in
    let firmware = c.args.firmware.now in
    let none = ap (λ (m : List (ℕ × ℕ)). byte_at m q) c.new-map.ensures in
    let below = c.in_ok-put_each-2.ensures q
    ∙ ap (λ (o : Option ℕ). either (byte_at handler q) o)
    (c.in_ok-put_each.ensures q ∙ ap (λ (o : Option ℕ). either (byte_at firmware q) o) none) in
    let low = c.in_ok-insert.ensures.put q ∙ ap (λ (o : Option ℕ). cond (is_at (nat_cmp 65523) q) (Some 0) o) below in
    c.in_ok-insert-2.ensures.put q ∙ ap (λ (o : Option ℕ). cond (is_at (nat_cmp 65522) q) (Some 64) o) low
    ∙ joint_is firmware handler q
