use Rattle.std.proofs.Common.{sym, subst}
use Rattle.error_bound.specs.Reaches.{AreMarked}
use Rattle.error_bound.proofs.tables.BoxTable.mark_still_rules.Goals as goal

pub returns-clause-table : goal.returns-clause-table
returns-clause-table c =
    let t = c.requires.table in
    record {
      table = t.table;
      box_is = t.box_is;
      rows = t.rows;
      still = subst (λ box. AreMarked c.args.self.now.table.now.block.now box c.marks_here-self.result)
          (sym c.copied-self.ensures) c.marks_here-self.ensures;
    }
