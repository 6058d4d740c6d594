use Rattle.std.proofs.Common.{sym, ◌∙◌}
use Rattle.cpu12_asm.proofs.Shapes.{is_mnemonic-other}
use Rattle.cpu12_asm.proofs.expressions.is_mnemonic.Goals as goal

pub returns-else-may_be_mnemonic : goal.returns-else-may_be_mnemonic
returns-else-may_be_mnemonic c = c.if-may_be_mnemonic.false
    ∙ sym (is_mnemonic-other c.args.word.now (sym c.may_be_mnemonic.ensures ∙ c.if-may_be_mnemonic.false))
