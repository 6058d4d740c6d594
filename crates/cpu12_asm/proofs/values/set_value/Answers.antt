use Rattle.std.proofs.Common.{is_some, ap, sym, ◌∙◌}
use Rattle.cpu12_asm.specs.Names.{value_in}
use Rattle.cpu12_asm.proofs.Naming.{is_given-named, value_in-set}
use Rattle.cpu12_asm.proofs.values.set_value.Goals as goal

pub returns-in-Ok-clause-ok : goal.returns-in-Ok-clause-ok
returns-in-Ok-clause-ok c =
    value_in-set c.args.name.now c.args.names.now c.insert.new.self c.args.value c.in_default.len_at_least
    c.in-Ok.ensures.updates

pub returns-in-Ok-clause-fresh : goal.returns-in-Ok-clause-fresh
returns-in-Ok-clause-fresh c =
    sym c.is_none.ensures ∙ ap is_some c.in-Ok.ensures.old
    ∙ sym (is_given-named (value_in c.args.names.now) c.args.name.now c.in_default.len_at_least)
