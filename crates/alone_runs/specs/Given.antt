-- How the requests of a sample are given.
-- Beside the promise.
use Rattle.std.specs.Prelude.{ℕ, List}
use Rattle.interrupt_plan.specs.{declared.Request.Request, Plans.IsGoodRequest, Plans.IsGood}
use Rattle.run_law.specs.Soundness.{AllGood, Ascend}
use Rattle.alone_runs.specs.{Forms.place_of, Rows.requests_of}
use Rattle.run_forms.specs.Slices.{IsInOrder}

-- The requests of a sample of a good plan are good, and their moments ascend.
abbrev pub RequestsAreGood : Type 0
RequestsAreGood = (plan : List Request) → IsGood plan → (k : ℕ)
    → AllGood IsGoodRequest (requests_of k plan) × Ascend (λ r. r.moment) 0 (requests_of k plan)

-- A good plan's requests are in order.
abbrev pub PlansAreInOrder : Type 0
PlansAreInOrder = (plan : List Request) → IsGood plan → IsInOrder place_of plan
