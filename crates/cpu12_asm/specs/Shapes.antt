-- The shape of every mnemonic.
-- Beside the promise.
use Rattle.std.specs.Prelude.{ℕ, ◌&&◌, nat_le, Bool, List, length}
use Rattle.std.specs.Char.{is_ascii_uppercase}
use Rattle.std.specs.List.{list_all}

-- three to five letters
abbrev pub may_be_mnemonic : List ℕ → Bool
may_be_mnemonic word = nat_le 3 (length word) && (nat_le (length word) 5 && list_all is_ascii_uppercase word)
