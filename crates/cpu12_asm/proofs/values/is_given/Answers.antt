use Rattle.std.proofs.Common.{is_some, ap, sym, ◌∙◌}
use Rattle.cpu12_asm.specs.Names.{value_in}
use Rattle.cpu12_asm.proofs.Naming.{is_given-named, is_some-copied}
use Rattle.cpu12_asm.proofs.values.is_given.Goals as goal

pub returns-in_default : goal.returns-in_default
returns-in_default c =
    c.is_some.ensures ∙ is_some-copied c.get.result ∙ ap is_some c.get.ensures.value
    ∙ sym (is_given-named (value_in c.args.names.now) c.args.name.now c.in_default.len_at_least)
