use Rattle.fcl_check.proofs.Words.{◌∙◌, ◌≡◌, at_letters, letters, None, sym}
use Rattle.fcl_check.proofs.Naming.{letters_added, no_value}
use Rattle.fcl_check.proofs.names.add.Goals as goal

pub returns-clause-added : goal.returns-clause-added
returns-clause-added g c =
    let none : at_letters c.args.values.now (letters c.args.tree.now.text.items c.args.name) ≡ None =
    sym (rw c.letters.ensures at c.in_ok-insert.ensures.old)
    ∙ no_value c.in_ok-insert.field-0 (sym c.if-is_some.ensures) in
    letters_added c.args.values.now c.insert.new.self c.args.tree.now.text.items c.args.name c.args.value none
    (rw c.letters.ensures at c.in_ok-insert.ensures.updates)
