-- The firmware of two blocks at two levels is one.
-- Beside the promise.
use Rattle.std.specs.Prelude.{◌≡◌}
use Rattle.fuzzy_meaning.specs.declared.block.Block.{Block}
use Rattle.two_level_code.specs.{declared.two.Two.Two, Images.IsTwoOf}

abbrev pub TwosAreOne : Type 0
TwosAreOne = (slow fast : Block) (f g : Two) → IsTwoOf slow fast f → IsTwoOf slow fast g → f ≡ g
