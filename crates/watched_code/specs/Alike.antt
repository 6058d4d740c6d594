-- The firmware of a block with watched tables is one.
-- Beside the promise.
use Rattle.std.specs.Prelude.{◌≡◌}
use Rattle.fuzzy_meaning.specs.declared.block.Block.{Block}
use Rattle.firmware_code.specs.declared.firmware.Firmware.{Firmware}
use Rattle.watched_code.specs.Watched.{IsWatchedFirmwareOf}

abbrev pub WatchedFirmwaresAreOne : Type 0
WatchedFirmwaresAreOne = (b : Block) (f g : Firmware) → IsWatchedFirmwareOf b f → IsWatchedFirmwareOf b g → f ≡ g
