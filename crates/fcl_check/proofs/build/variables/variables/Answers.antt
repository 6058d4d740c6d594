use Rattle.fcl_check.proofs.Words.{◌∙◌, arith, IsVariableNamed, sym}
use Rattle.fcl_check.proofs.Faultless.{IsVariableNamed-read, IsWellFormed-read, part_read}
use Rattle.fcl_check.proofs.Naming.{named-more, unnamed-more}
use Rattle.fcl_check.proofs.build.variables.variables.Goals as goal
use Rattle.fcl_check.proofs.build.variables.variables.Goals.{then-eq+in_ok-from_part+in_ok-push, else-eq}

pub loop-direction-preserved : goal.loop-direction-preserved
loop-direction-preserved g c =
    let names = c.args.source.now.names.now in
    let tree = names.tree.now in
    let named = IsVariableNamed g.V.FromSection.as_section g.V.FromSection.IsOf tree.text.items tree.block in
    let read = c.deref-direction-items in
    let test = rw c.SIDE.ensures at c.eq.ensures in
    elim c.if-eq.branch [
      | then-eq+in_ok-from_part+in_ok-push w ↦
          let here = IsVariableNamed-read g.V.FromSection.as_section g.V.FromSection.IsOf tree _ _
          w.section.result w.unwrap-part.result _ w.letters.ensures w.section.ensures w.unwrap-part.ensures
          w.in_ok-from_part.ensures in
          rw (w.variables-is, w.in_ok-push.ensures.items)
          (named-more named g.V.FromSection.SIDE names.declared.items read.result.now
          c.loop-direction.direction-index _ c.loop-direction.variables.items read.ensures.value (omega arith) _
          (sym test ∙ w.if-eq.true) c.loop-direction.invariant here)
      | else-eq w ↦ rw w.variables-is
          (unnamed-more named g.V.FromSection.SIDE names.declared.items read.result.now
          c.loop-direction.direction-index _ c.loop-direction.variables.items read.ensures.value (omega arith)
          (sym test ∙ w.if-eq.false) c.loop-direction.invariant)
    ]

pub unwrap-part-requires : goal.unwrap-part-requires
unwrap-part-requires g c =
    let names = c.args.source.now.names.now in
    part_read _ _ _ names.tree.now c.requires _ c.loop-direction.direction-index _
    (c.deref-direction-items.ensures.value ∙ names.declares) _ c.letters.ensures _ (omega arith)
    (sym (rw c.SIDE.ensures at c.eq.ensures) ∙ c.if-eq.true) c.section.ensures

pub from_part-requires : goal.from_part-requires
from_part-requires g c =
    let names = c.args.source.now.names.now in
    IsWellFormed-read _ _ _ names.tree.now c.requires _ c.loop-direction.direction-index _
    (c.deref-direction-items.ensures.value ∙ names.declares) _ c.letters.ensures _ (omega arith)
    (sym (rw c.SIDE.ensures at c.eq.ensures) ∙ c.if-eq.true) c.section.ensures
    c.unwrap-part.result c.unwrap-part.ensures
