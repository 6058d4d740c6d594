use Rattle.std.proofs.Common.{rules}
use Rattle.fz_words.specs.Table.{rows_of}
use Rattle.fz_words.proofs.Tops.{acceptance, refusal}
use Rattle.fz_words.proofs.takes_words.Goals as goal

pub returns-in-Ok-try_get_matches_from-clause-taken : goal.returns-in-Ok-try_get_matches_from-clause-taken
returns-in-Ok-try_get_matches_from-clause-taken g c =
    acceptance (rows_of c.args.rows.now) _ _ c.in-Ok-try_get_matches_from.field-0 c.in-Ok.ensures
    c.in-Ok-try_get_matches_from.ensures.kinds

pub returns-clause-refused : goal.returns-clause-refused
returns-clause-refused g c =
    λ _. refusal (rows_of c.args.rows.now) _ _ c.in-Err-try_get_matches_from.error c.in-Ok.ensures
    c.in-Err-try_get_matches_from.ensures.kinds (search rules)
