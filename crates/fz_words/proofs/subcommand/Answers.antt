use Rattle.fz_words.proofs.Rows.{rules_for-some}
use Rattle.std.proofs.Common.{rules}
use Rattle.fz_words.proofs.subcommand.Goals as goal

pub returns-clause-app : goal.returns-clause-app
returns-clause-app c = rw (rules_for-some c.args.count c.if-count-eq0.false) (search rules)
