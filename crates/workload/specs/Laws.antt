-- What holds of every block and every workload that is drawn.
-- Beside the promise.
use Rattle.std.specs.Prelude.{◌≡◌, ℕ, ◌<◌, ◌≤◌, List, length, map}
use Rattle.fuzzy_meaning.specs.declared.block.Block.{Block}
use Rattle.fcl_check.specs.Texts.{SpellsBlock}
use Rattle.rule_layout.specs.Layouts.{IsWithinLimits}
use Rattle.interrupt_plan.specs.declared.Request.{Request}
use Rattle.trace_io.specs.{Traces.input_bytes, declared.sample.Sample.Sample}
use Rattle.workload.specs.{Blocks.drawn_block, Draws.draw, Texts.fcl_text, Workloads.IsWorkload}

-- each can be laid out
abbrev pub DrawnBlocksAreWithinLimits : Type 0
DrawnBlocksAreWithinLimits = (shift : ℕ) → IsWithinLimits (drawn_block shift)

-- its text spells it, and is no longer than a file may be
abbrev pub DrawnTextsSpellBlocks : Type 0
DrawnTextsSpellBlocks =
    (shift : ℕ) → shift < 5 → SpellsBlock (fcl_text shift) (drawn_block shift) × (length (fcl_text shift) ≤ 1048576)

-- a number draws one block, the bytes of one list of samples, and one plan, whatever the texts are
abbrev pub WorkloadsAreOne : Type 0
WorkloadsAreOne = (number : ℕ) (text trace plan texts traces plans : List ℕ) (block other : Block)
    (samples those : List Sample) (requests others : List Request)
    → IsWorkload number text trace plan block samples requests
    → IsWorkload number texts traces plans other those others
    → (block ≡ other) × (map input_bytes samples ≡ map input_bytes those) × (requests ≡ others)

-- and each number has one
abbrev pub NumbersHaveWorkloads : Type 0
NumbersHaveWorkloads = (number : ℕ) → (text : List ℕ) × (trace : List ℕ) × (plan : List ℕ) × (samples : List Sample)
    × (requests : List Request)
    × IsWorkload number text trace plan (drawn_block (draw number 0 5)) samples requests
