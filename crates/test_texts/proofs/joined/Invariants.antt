use Rattle.std.proofs.Common.{◌≡◌, take}
use Rattle.std.specs.Prelude.{string_bytes}
use Rattle.test_texts.specs.Parts.{text_of_parts}
use Rattle.test_texts.proofs.joined.Given as goal

abbrev pub invariant-loop-part : goal.invariant-loop-part
invariant-loop-part l = string_bytes l.text ≡ text_of_parts (take l.part-index l.parts)
