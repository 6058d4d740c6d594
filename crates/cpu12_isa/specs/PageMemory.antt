-- What a memory of pages tells.
-- Beside the promise.
use Rattle.std.specs.Prelude.{Bool, List}
use Rattle.cpu12_isa.specs.{Pages.given_in, declared.pages.PageMem.PageMem}

-- for each of the 256 pages, whether a byte other than 0 was ever written into it
abbrev pub given : PageMem → List Bool
given m = given_in m.table
