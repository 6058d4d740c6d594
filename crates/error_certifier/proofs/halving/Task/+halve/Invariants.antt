use Rattle.cert_check.specs.Walks.{cuts_of}
use Rattle.error_certifier.proofs.halving.Task.+halve.Given as goal

abbrev pub decreases-halve : goal.decreases-halve
decreases-halve l = cuts_of l.bytes.0.items
