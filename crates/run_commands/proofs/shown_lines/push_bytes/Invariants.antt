use Rattle.run_commands.proofs.Words.{◌++◌, ◌≡◌, behind_blank, flat_map, take}
use Rattle.std.specs.Prelude.{string_bytes}
use Rattle.run_commands.proofs.shown_lines.push_bytes.Given as goal

abbrev pub invariant-loop-byte : goal.invariant-loop-byte
invariant-loop-byte l =
    string_bytes l.text ≡ string_bytes l.initial.text ++ flat_map behind_blank (take l.byte-index l.bytes)
