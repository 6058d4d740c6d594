-- What a call over sinks that took nothing left.
use Rattle.std.proofs.Common.{◌≡◌, ◌∙◌, ℕ, List, subst}
use Rattle.fz_status.specs.{Codes.code_of, Errors.Complains, Errors.error_line_of, Words.Text}
use Rattle.fz_status.specs.declared.status.Status.{Status}
use Rattle.fz_status.specs.declared.status.Status.TheVariants as status
use Rattle.fz_top.specs.Runs.{Runs}
use Rattle.fz_shelf.specs.Told.{ShelfTold, SinkTold, world}
use Rattle.test_program_calls.specs.Calls.{Called, nothing_taken}

pub called : (words : List Text) (old new : ShelfTold) (out out' err err' : SinkTold) (s : Status) (n : ℕ)
    → out ≡ nothing_taken → err ≡ nothing_taken → n ≡ code_of s → Runs words (world old out) (world new out') s
    → (s ≡ status.Ok → err' ≡ err) → ((s ≡ status.Ok → ⊥) → Complains (error_line_of words s) err err')
    → Called words old new out' err' n
called words old new out out' err err' s n no_out no_err code runs quiet line = record {
  answer = s;
  code = code;
  runs = subst (λ t. Runs words (world old t) (world new out') s) no_out runs;
  quiet = λ is. quiet is ∙ no_err;
  line = λ not. subst (λ t. Complains (error_line_of words s) t err') no_err (line not);
}
