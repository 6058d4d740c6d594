-- The numbers that the program ends with.
-- Beside the promise.
use Rattle.std.specs.Prelude.{ℕ}
use Rattle.fz_status.specs.declared.status.FastFault.TheVariants as fast
use Rattle.fz_status.specs.declared.status.Status.{Status}
use Rattle.fz_status.specs.declared.status.Status.TheVariants as status

abbrev pub code_of : Status → ℕ
code_of status.Ok = 0
code_of status.Usage = 1
code_of (status.ReadFault p) = 2
code_of status.WriteFault = 3
code_of (status.Fcl f) = 4
code_of (status.Image f) = 5
code_of (status.Cert f) = 6
code_of (status.Trace f) = 7
code_of (status.Plan f) = 7
code_of (status.Upset f) = 7
code_of (status.NotReached f) = 8
code_of status.Memory = 9
code_of (status.TooLong p) = 10
code_of (status.Asm f) = 11
code_of (status.Trap pc byte) = 12
code_of (status.Budget steps) = 13
code_of (status.Handler f) = 14
code_of (status.Script line) = 15
code_of (status.Fast (fast.Fcl f)) = 4
code_of (status.Fast (fast.Cert f)) = 6
code_of (status.Fast (fast.Trace f)) = 7
