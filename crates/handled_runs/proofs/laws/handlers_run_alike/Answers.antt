use Rattle.std.proofs.Common.{ℕ, List, ap}
use Rattle.cpu12_emul.specs.Step.{reset_with}
use Rattle.run_law.specs.Forms.{rows_from}
use Rattle.run_forms.specs.Rows.{arrival, shown}
use Rattle.alone_runs.specs.Rows.{requests_of}
use Rattle.handled_runs.specs.Forms.{with_code, with_steps}
use Rattle.handled_runs.proofs.Beginnings.{joint_alike}
use Rattle.handled_runs.proofs.laws.handlers_run_alike.Goals as goal

pub returns : goal.returns
returns c f handler other samples plan flags same =
    ap (λ (memory : List ℕ). shown with_steps (rows_from (with_code flags f) f.step_bound (λ k. requests_of k plan) 1
    samples (arrival flags f.memory_map.wait f.step_bound (reset_with memory))))
    (joint_alike c.images_load_alike.ensures f.image.bytes handler other same)
