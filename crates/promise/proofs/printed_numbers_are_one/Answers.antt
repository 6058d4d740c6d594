use Rattle.promise.proofs.PrintedLemmas.{printed_once}
use Rattle.promise.proofs.printed_numbers_are_one.Goals as goal

pub returns : goal.returns
returns c = printed_once
