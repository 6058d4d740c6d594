use Rattle.fcl_syntax.proofs.Theorem.{found, only, fault, only_fault}
use Rattle.fcl_syntax.proofs.text.parse.Goals as goal

pub returns-clause-found : goal.returns-clause-found
returns-clause-found c = found c.cuts_are_tokens.ensures c.args.text.now c.read.result c.read.ensures.read

pub returns-clause-only : goal.returns-clause-only
returns-clause-only c = only c.cuts_are_tokens.ensures c.args.text.now c.read.result c.read.ensures.read

pub returns-clause-fault : goal.returns-clause-fault
returns-clause-fault c = fault c.cuts_are_tokens.ensures c.args.text.now c.read.result c.read.ensures.read

pub returns-clause-only_fault : goal.returns-clause-only_fault
returns-clause-only_fault c = only_fault c.cuts_are_tokens.ensures c.args.text.now c.read.result c.read.ensures.read
