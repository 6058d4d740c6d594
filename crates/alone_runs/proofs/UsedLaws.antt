-- The laws on which the answers under plans stand.
use Rattle.alone_code.specs.{Answers.FirmwareAnswers, Uninterrupted.AnsweredAreUninterrupted}
use Rattle.run_forms.specs.Arrival.{ArrivesPlainly}
use Rattle.alone_runs.specs.Following.{RunsFollowAlone}
use Rattle.firmware_runs.specs.Ports.{AnswersAreValues, GivenIsPut}
use Rattle.firmware_runs.specs.Instructions.{InstructionsAreSteps}

pub record ExecutionLaws : Type 0 where
  pub steps : InstructionsAreSteps
  pub given_is_put : GivenIsPut
  pub arrives_plainly : ArrivesPlainly

pub record Laws : Type 0 where
  pub executions : ExecutionLaws
  pub answers_are_values : AnswersAreValues
  pub firmware_answers : FirmwareAnswers
  pub answered_are_uninterrupted : AnsweredAreUninterrupted
  pub runs_follow : RunsFollowAlone
