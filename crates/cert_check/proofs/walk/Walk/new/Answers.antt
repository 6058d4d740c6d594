use Rattle.std.proofs.Common.{◌∷◌, [], List, ap, ap₂, ◌∙◌, refl, arith, replicate}
use Rattle.error_bound.specs.{declared.boxes.Interval.Interval, declared.boxes.ByteBox.ByteBox}
use Rattle.cert_check.specs.{declared.walk.Walk.Walk, Walks.stack_of}
use Rattle.cert_check.proofs.WalkLemmas.{so_far-behind, so_far-fault, behind_none, count_fault}
use Rattle.cert_check.proofs.walk.Walk.new.Goals.{then-claims-outputs, else-claims-outputs}
use Rattle.cert_check.proofs.walk.Walk.new.Goals as goal

pub returns-clause-begun : goal.returns-clause-begun
returns-clause-begun c =
    let w : Walk = record {
      claims = c.args.claims;
      table = c.in_ok-table.table;
      boxes = c.push.new.boxes;
      errors = c.in_ok-errors.errors;
      line = 3;
      fault = c.if-claims-outputs.fault;
    } in
    let stack = c.push.ensures.boxes
    ∙ ap₂ (λ (x : List Interval) (xs : List ByteBox). x ∷ stack_of xs) c.whole_box.ensures
    c.in_ok-boxes.ensures.items in
    let zeros = c.in_ok-errors.ensures ∙ ap (λ n. replicate n 0) c.len-outputs.ensures in
    let room = c.push.ensures.room in
    let exact = c.in_ok-boxes.ensures.exact in
    record {
      claims = c.requires.claims;
      table = c.in_ok-table.ensures.table;
      so_far = elim c.if-claims-outputs.branch [
        | then-claims-outputs v ↦ so_far-behind w [] v.fault-is
            (behind_none w c.in_ok-table.ensures.table.valid.few_inputs (v.if-claims-outputs.true ∙ c.len-outputs.ensures) stack zeros
            refl (omega (arith, room, exact)))
        | else-claims-outputs v ↦ so_far-fault w [] _ v.fault-is
            (count_fault w c.len-outputs.result c.len-outputs.ensures v.if-claims-outputs.false)
      ];
    }
