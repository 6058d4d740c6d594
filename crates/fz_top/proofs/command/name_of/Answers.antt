use Rattle.std.proofs.Common.{◌≡◌, List, ap, subst}
use Rattle.std.specs.Prelude.{IfOk, None, Some}
use Rattle.fz_words.specs.{App.IsRefused, Table.Row, Table.command_in, Table.rows_of}
use Rattle.fz_top.specs.{Commands.table, declared.command.Name.Name}
use Rattle.fz_status.specs.Words.{texts_of}
use Rattle.fz_top.proofs.command.name_of.Goals as goal

pub returns-clause-named : goal.returns-clause-named
unfolding table
returns-clause-named c =
    subst (λ (rows : List (Row Name)). IfOk c.command_of.result
    (λ n. command_in rows (texts_of c.args.words.now) ≡ Some n))
    (ap rows_of c.as_slice.ensures) c.command_of.ensures.named

pub returns-clause-usage : goal.returns-clause-usage
unfolding table
returns-clause-usage c =
    λ is. subst (λ (rows : List (Row Name)). command_in rows (texts_of c.args.words.now) ≡ None)
    (ap rows_of c.as_slice.ensures) (c.command_of.ensures.usage is)

pub returns-clause-law : goal.returns-clause-law
unfolding table
returns-clause-law c =
    subst (λ (rows : List (Row Name)).
    (command_in rows (texts_of c.args.words.now) ≡ None → IsRefused rows (texts_of c.args.words.now))
    × (IsRefused rows (texts_of c.args.words.now) → command_in rows (texts_of c.args.words.now) ≡ None))
    (ap rows_of c.as_slice.ensures) c.command_of.ensures.clap
