use Rattle.std.proofs.Common.{◌∙◌, sym}
use Rattle.error_bound.proofs.{StillLemmas.AreMarked-inside, TableLemmas.unmarked}
use Rattle.error_bound.proofs.tables.BoxTable.still_rules.Goals as goal

pub returns-then-is_inside : goal.returns-then-is_inside
returns-then-is_inside c =
    let t = c.requires.table in
    let inside = c.is_inside.ensures c.if-is_inside.true in
    AreMarked-inside c.args.self.now.table.now.block.now c.args.self.now.bytes.0.items
    c.args.self.now.still.around.0.items t.table.valid (sym inside.count ∙ t.box_is.count) inside t.box_is.intervals
    c.args.self.now.still.marks t.still

pub returns-else-is_inside : goal.returns-else-is_inside
returns-else-is_inside c n r one at = absurd (let none = unmarked 256 n in let z : ⊥ = cc in z)
