-- The targets of a block's outputs.
-- Beside the promise.
use Rattle.std.specs.Prelude.{◌≡◌, ℕ, ◌≤◌, List, length, All, replicate}
use Rattle.fuzzy_meaning.specs.declared.block.Block.{Block}
use Rattle.error_certifier.specs.declared.targets.Targets.{Targets}
use Rattle.error_certifier.specs.declared.targets.Targets.TheVariants as targets

-- one for each output, in millionths of its range
pub record AreTargets (b : Block) (numbers : List ℕ) : Type 0 where
  pub count : length numbers ≡ length b.outputs
  pub millionths : All (λ n. n ≤ 1000000) numbers

-- those of so many outputs, where they are one for each
abbrev pub numbers_of : ℕ → Targets → List ℕ
numbers_of outputs (targets.All number) = replicate outputs number
numbers_of outputs (targets.Each numbers) = numbers.items

-- those of a block
abbrev pub targets_of : Block → Targets → List ℕ
targets_of b t = numbers_of (length b.outputs) t
