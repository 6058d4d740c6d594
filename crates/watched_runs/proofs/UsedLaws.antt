-- The laws on which the answers under upsets stand.
use Rattle.std.proofs.Common.{ℕ}
use Rattle.cpu12_isa.specs.Regions.{is_free}
use Rattle.cpu12_emul.specs.Simulation.{OnStackOnly}
use Rattle.run_law.specs.{Following.RunsFollow, Moments.TakenAtOnce}
use Rattle.interrupt_plan.specs.Plans.{IsGoodRequest}
use Rattle.firmware_code.specs.declared.firmware.Firmware.{Firmware}
use Rattle.watched_code.specs.Watched.{WatchedAnswers}
use Rattle.run_forms.specs.Arrival.{ArrivesPlainly}
use Rattle.alone_runs.specs.{Following.IsLow, Following.Nothing, Given.RequestsAreGood}
use Rattle.firmware_runs.specs.Ports.{GivenIsPut}
use Rattle.firmware_runs.specs.Instructions.{InstructionsAreSteps}
use Rattle.watched_runs.specs.Forms.{watched_form, FactsWatched}

-- the law on runs at this form
abbrev pub RunsFollowUpsets : Type 0
RunsFollowUpsets = (flags : ℕ) (f : Firmware) → IsLow f
    → RunsFollow OnStackOnly is_free (watched_form flags f) (FactsWatched flags) IsGoodRequest Nothing

pub record Laws : Type 0 where
  pub steps : InstructionsAreSteps
  pub given_is_put : GivenIsPut
  pub arrives_plainly : ArrivesPlainly
  pub requests_are_good : RequestsAreGood
  pub watched_answers : WatchedAnswers
  pub runs_follow : RunsFollowUpsets
  pub taken_at_once : TakenAtOnce
