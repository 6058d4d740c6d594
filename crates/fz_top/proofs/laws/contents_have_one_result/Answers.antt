use Rattle.std.proofs.Common.{ap}
use Rattle.std.specs.Prelude.{Err, Ok}
use Rattle.fz_top.proofs.laws.contents_have_one_result.Goals as goal

pub returns : goal.returns
returns c command contents (Ok output) (Ok other) a b =
    ap Ok ((c.commands_are_settled.ensures command contents).one output other a b)
returns c command contents (Ok output) (Err s) a w =
    absurd ((c.commands_are_settled.ensures command contents).no_fault output s a w)
returns c command contents (Err s) (Ok output) w a =
    absurd ((c.commands_are_settled.ensures command contents).no_fault output s a w)
returns c command contents (Err s) (Err t) v w =
    ap Err ((c.commands_are_settled.ensures command contents).one_fault s t v w)
