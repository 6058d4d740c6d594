-- The one line on err.
-- Beside the promise.
use Rattle.std.specs.Prelude.{◌≡◌, ◌≤◌, ◌++◌, ℕ, List, [], codes}
use Rattle.fz_shelf.specs.{Faults.Rose, Told.SinkTold, Told.gained, Told.GainedPart}
use Rattle.fz_status.specs.FaultLines.{asm_line, cert_line, fast_line, fcl_line, handler_line, image_line}
use Rattle.fz_status.specs.FaultLines.{not_reached_line, plan_line, trace_line, trap_line, upset_line, want_of_memory}
use Rattle.fz_status.specs.FaultLines.{with_name, with_number}
use Rattle.fz_shelf.specs.Parts.{newline}
use Rattle.fz_status.specs.{Words.Text, Words.word_at, declared.status.Status.Status}
use Rattle.fz_status.specs.declared.status.Status.TheVariants as status

-- the line of a status
abbrev pub error_line_of : List Text → Status → List ℕ
error_line_of words status.Ok = []
error_line_of words status.Usage = codes "usage: fuzz12 compile, certify, check, run, asm, exec or gen" ++ newline
error_line_of words (status.ReadFault p) = with_name (codes "read fault: ") (word_at words p)
error_line_of words status.WriteFault = codes "write fault" ++ newline
error_line_of words (status.Fcl f) = fcl_line f
error_line_of words (status.Image f) = image_line f
error_line_of words (status.Cert f) = cert_line f
error_line_of words (status.Trace f) = trace_line f
error_line_of words (status.Plan f) = plan_line f
error_line_of words (status.Upset f) = upset_line f
error_line_of words (status.NotReached f) = not_reached_line f
error_line_of words status.Memory = want_of_memory
error_line_of words (status.TooLong p) = with_name (codes "too long: ") (word_at words p)
error_line_of words (status.Asm f) = asm_line f
error_line_of words (status.Trap pc byte) = trap_line pc byte
error_line_of words (status.Budget steps) = with_number (codes "budget: ") steps []
error_line_of words (status.Handler f) = handler_line f
error_line_of words (status.Script line) = with_number (codes "script: line ") line []
error_line_of words (status.Fast f) = fast_line f

-- the sink gained a prefix of the line, and all of it where its count did not rise
pub record Complains (text : List ℕ) (old new : SinkTold) : Type 0 where
  pub part : GainedPart old.taken new.taken text
  pub later : old.faults ≤ new.faults
  pub whole : (Rose old.faults new.faults → ⊥) → new.taken ≡ gained old.taken text
