use Rattle.fz_status.specs.Words.{texts_of}
use Rattle.fz_top.proofs.UsageLemmas.{usage_law}
use Rattle.fz_top.proofs.command.command_of.Goals as goal

pub returns-in_err-name-clause-law : goal.returns-in_err-name-clause-law
returns-in_err-name-clause-law c = usage_law (texts_of c.args.words.now) c.name_of.ensures.law
