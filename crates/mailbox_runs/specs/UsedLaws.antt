-- What is known of writes, steps and interrupts, on which the laws of turns rest.
-- Beside the promise.
use Rattle.cpu12_isa.specs.{Agreement.WritesAgree, Agreement.WritesStay, Interrupts.HidesPushed}
use Rattle.cpu12_parts.specs.Inside.{PushesRunning, PushesNone}
use Rattle.cpu12_emul.specs.Simulation.{FrameIsOnStack, PlainIsStep, StepAgrees, StepKeeps, TakesQuietly, WavrGoesOn}
use Rattle.interrupt_plan.specs.declared.Post.{Post}
use Rattle.run_law.specs.Moments.{TakenAtFirstOpen}
use Rattle.run_forms.specs.Arrival.{PlainIsOneStep}
use Rattle.mailbox_runs.specs.{Behind.FollowsBehind, Shifts.RunsCountOn}

-- the writes of posts
pub record Writing : Type 0 where
  pub writes_agree : WritesAgree
  pub writes_stay : WritesStay
  pub takes_quietly : TakesQuietly
  pub hides_pushed : HidesPushed

-- posts that are taken
pub record TakingLaws : Type 0 where
  pub writing : Writing
  pub frame_is_on_stack : FrameIsOnStack
  pub pushes_none : PushesNone

-- steps of the run without interrupts
pub record PlainStepLaws : Type 0 where
  pub step_agrees : StepAgrees
  pub step_keeps : StepKeeps
  pub plain_is_step : PlainIsStep
  pub plain_is_one_step : PlainIsOneStep

-- steps under posts
pub record Stepping : Type 0 where
  pub writing : Writing
  pub step_agrees : StepAgrees
  pub wavr_goes_on : WavrGoesOn
  pub pushes_running : PushesRunning
  pub pushes_none : PushesNone

-- what is known where posts come
pub record PostingLaws : Type 0 where
  pub steps : PlainStepLaws
  pub taking : TakingLaws
  pub stepping : Stepping

-- and what turns under posts keep
pub record TurnLaws : Type 0 where
  pub posting : PostingLaws
  pub follows : FollowsBehind
  pub count_on : RunsCountOn (Unit {0}) Post (Unit {0})
  pub first_open : TakenAtFirstOpen
