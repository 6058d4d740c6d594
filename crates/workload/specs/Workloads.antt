-- The text, the trace and the plan of a number.
-- Beside the promise.
use Rattle.std.specs.Prelude.{◌≡◌, ℕ, ◌+◌, ◌*◌, List, [], ◌∷◌, length, Some, slice_get, pos}
use Rattle.fuzzy_meaning.specs.declared.block.Block.{Block}
use Rattle.fcl_check.specs.Texts.{SpellsBlock}
use Rattle.cpu12_isa.specs.Regions.{free_start}
use Rattle.interrupt_plan.specs.{Plans.Spells as SpellsPlan, declared.Request.Request}
use Rattle.trace_io.specs.{Traces.Spells as SpellsTrace, declared.sample.Sample.Sample}
use Rattle.fz_num.specs.declared.dec.Dec.{Dec}
use Rattle.workload.specs.{Blocks.drawn_block, Draws.draw}

-- The block's shift is the first draw. Then come two draws a sample and three draws a request.

-- a number from 0 to 256, in 1/10000
abbrev pub place : ℕ → ℕ → Dec
place number n = record { 0 = pos (draw number n 2560001) }

abbrev pub drawn_values : ℕ → ℕ → List Dec
drawn_values number k = place number (1 + 2 * k) ∷ place number (2 + 2 * k) ∷ []

pub record AreDrawnSamples (number : ℕ) (samples : List Sample) : Type 0 where
  pub count : length samples ≡ 1000
  pub values : (k : ℕ) (s : Sample) → slice_get samples k ≡ Some s → s.values ≡ drawn_values number k

-- one in each sample, which writes one free byte
abbrev pub drawn_request : ℕ → ℕ → Request
drawn_request number k = record {
  sample = k + 1;
  moment = draw number (2001 + 3 * k) 456;
  writes = record { at = free_start + draw number (2002 + 3 * k) 2016; value = draw number (2003 + 3 * k) 256 } ∷ [];
}

pub record AreDrawnRequests (number : ℕ) (plan : List Request) : Type 0 where
  pub count : length plan ≡ 1000
  pub requests : (k : ℕ) (r : Request) → slice_get plan k ≡ Some r → r ≡ drawn_request number k

-- the texts spell what the number draws: a block, samples of it, and requests
pub record IsWorkload (number : ℕ) (text trace plan : List ℕ) (block : Block) (samples : List Sample)
    (requests : List Request) : Type 0 where
  pub spelled : SpellsBlock text block
  pub block_is : block ≡ drawn_block (draw number 0 5)
  pub in_trace : SpellsTrace block.inputs trace samples
  pub drawn_samples : AreDrawnSamples number samples
  pub in_plan : SpellsPlan plan requests
  pub drawn_requests : AreDrawnRequests number requests
