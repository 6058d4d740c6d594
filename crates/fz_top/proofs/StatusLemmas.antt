-- Statuses by what they tell: a fault of contents, or one of the rest.
use Rattle.std.proofs.Common.{ℕ, List}
use Rattle.std.specs.Prelude.{Err}
use Rattle.fz_status.specs.{Words.Text, declared.status.Status.Status}
use Rattle.fz_status.specs.declared.status.Status.TheVariants as status
use Rattle.fz_top.specs.{Commands.Makes, Runs.Faulted, Runs.IsReadFault, Runs.IsWriteFault, Runs.Runs}
use Rattle.fz_top.specs.declared.command.Command.{Command}
use Rattle.fz_shelf.specs.Told.{World}
use Rattle.command_parts.specs.SeenOutputs.{IsFaultOf}

-- the status tells a fault of the contents
pub record IsOfContents (s : Status) : Type 0 where
  pub faulted : (words : List Text) (old new : World) → Runs words old new s → Faulted words old new s
  pub runs : (words : List Text) (old new : World) → Faulted words old new s → Runs words old new s
  pub made : (command : Command) (contents : List (List ℕ)) → IsFaultOf (Makes command contents) s
      → Makes command contents (Err s)
  pub no_read : IsReadFault s → ⊥
  pub no_write : IsWriteFault s → ⊥

pub data Kind : Status → Type 0 where
  done : Kind status.Ok
  no_command : Kind status.Usage
  failed_read : (p : ℕ) → Kind (status.ReadFault p)
  failed_write : Kind status.WriteFault
  no_memory : Kind status.Memory
  long_read : (p : ℕ) → Kind (status.TooLong p)
  of_contents : (s : Status) → IsOfContents s → Kind s

pub kind_of : (s : Status) → Kind s
kind_of status.Ok = done
kind_of status.Usage = no_command
kind_of (status.ReadFault p) = failed_read p
kind_of status.WriteFault = failed_write
kind_of status.Memory = no_memory
kind_of (status.TooLong p) = long_read p
kind_of s = of_contents s (record {
  faulted = λ words old new runs. runs;
  runs = λ words old new faulted. faulted;
  made = λ command contents fault. fault;
  no_read = λ is. is;
  no_write = λ is. is;
})
