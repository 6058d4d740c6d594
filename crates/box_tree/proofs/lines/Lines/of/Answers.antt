use Rattle.std.proofs.Common.{◌++◌, List, ℕ, ap, ◌∙◌}
use Rattle.box_tree.specs.Texts.{version_line}
use Rattle.std.proofs.lemmas.List.{append-nil}
use Rattle.box_tree.specs.Certificates.{bad_claims, bad_version, no_claims, no_version}
use Rattle.box_tree.proofs.Emptiness.{is_nothing, is_something}
use Rattle.box_tree.proofs.lines.Lines.of.Goals as goal

pub returns-then-is_empty-clause-fault : goal.returns-then-is_empty-clause-fault
returns-then-is_empty-clause-fault c = no_version (is_nothing c.args.text.now c.if-is_empty.ensures)

pub returns-in-None-clause-fault : goal.returns-in-None-clause-fault
returns-in-None-clause-fault c = bad_version (is_something c.args.text.now c.if-is_empty.ensures) c.in-None.ensures.line

pub returns-then-is_empty-2-clause-fault : goal.returns-then-is_empty-2-clause-fault
returns-then-is_empty-2-clause-fault c =
    no_claims (c.in-Some.ensures.line
    ∙ ap (λ (t : List ℕ). version_line c.args.format ++ t)
    (is_nothing c.in-Some.rest.now c.if-is_empty-2.ensures)
    ∙ append-nil _)

pub returns-in-None-claims_at-clause-fault : goal.returns-in-None-claims_at-clause-fault
returns-in-None-claims_at-clause-fault c =
    bad_claims c.in-Some.rest.now c.in-Some.ensures.line
    (is_something c.in-Some.rest.now c.if-is_empty-2.ensures, c.in-None-claims_at.ensures.claims)
