-- The laws of lower crates on which the run of a handler stands.
use Rattle.handler_check.proofs.Words.{DecodesEncoded, TakesQuietly, WritesAgree}
use Rattle.cpu12_isa.specs.{Plain.PlainLeavesByTables}
use Rattle.cpu12_emul.specs.{Simulation.PlainIsStep}

pub record Grounds : Type 0 where
  pub decodes : DecodesEncoded
  pub writes_agree : WritesAgree
  pub plain_is_step : PlainIsStep
  pub leaves : PlainLeavesByTables
  pub takes_quietly : TakesQuietly
