use Rattle.std.proofs.Common.{◌∙◌, inr, refl, sym}
use Rattle.std.specs.Prelude.{map, string_bytes}
use Rattle.fz_words.specs.Table.{rows_of}
use Rattle.fz_words.proofs.Tops.{law, never_none}
use Rattle.fz_words.proofs.command_of.Goals as goal

pub unreachable-requires : goal.unreachable-requires
unreachable-requires g c =
    never_none (rows_of c.args.rows.now) (map string_bytes c.args.words.now)
    (sym c.any_after_first.ensures ∙ c.if-any_after_first.false) c.in-Ok.ensures.taken
    (sym c.command_by_form.ensures ∙ c.in-None.is)

pub returns-in-Err-Usage-clause-usage : goal.returns-in-Err-Usage-clause-usage
returns-in-Err-Usage-clause-usage g c =
    λ _. (law (rows_of c.args.rows.now) (map string_bytes c.args.words.now)).1
    (inr ((rw c.in-Err-Usage.field-0-is at c.in-Err-Usage.ensures).refused refl))

pub returns-in-Err-Usage-clause-clap : goal.returns-in-Err-Usage-clause-clap
returns-in-Err-Usage-clause-clap g c = law (rows_of c.args.rows.now) (map string_bytes c.args.words.now)

pub returns-in-Err-Memory-clause-clap : goal.returns-in-Err-Memory-clause-clap
returns-in-Err-Memory-clause-clap g c = law (rows_of c.args.rows.now) (map string_bytes c.args.words.now)
