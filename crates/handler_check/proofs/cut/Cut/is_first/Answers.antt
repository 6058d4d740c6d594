use Rattle.handler_check.proofs.Words.{◌∙◌, sym}
use Rattle.handler_check.proofs.Tables.{told_first, told_none}
use Rattle.handler_check.proofs.cut.Cut.is_first.Goals as goal

pub returns-clause-yes : goal.returns-clause-yes
returns-clause-yes c =
    λ e. told_first c.args.self.now.code.items c.args.self.now.trapped c.args.self.now.firsts.items c.args.to
    c.requires.table c.requires.low (sym c.entry.ensures ∙ e)

pub returns-clause-no : goal.returns-clause-no
returns-clause-no c =
    λ e. told_none c.args.self.now.code.items c.args.self.now.trapped c.args.self.now.firsts.items c.args.to
    c.requires.table c.requires.low (sym c.entry.ensures ∙ e)
