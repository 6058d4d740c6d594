-- Files leave nothing open in what is promised of them but how large the errors and the bound are.
-- Beside the promise.
use Rattle.std.specs.Prelude.{◌≡◌, ℕ, List}
use Rattle.byte_scaling.specs.declared.width.Width.{Width}
use Rattle.run_reports.specs.{Reports.Report, Reports.left_of, declared.files.RunFiles.RunFiles}
use Rattle.promise.specs.Promise.{Promise}

-- Two promises over the same files have the same rows and the same last sum.
abbrev pub PromisedRowsAreOne : Type 0
PromisedRowsAreOne =
    (width : Width) (flags : ℕ) (files : RunFiles) (r s : Report) (t u : List ℕ) (p : Promise width flags files r t)
    → (q : Promise width flags files s u)
    → (r.rows ≡ s.rows) × (left_of p.serves.last.mem ≡ left_of q.serves.last.mem)
