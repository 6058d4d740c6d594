use Rattle.std.proofs.Common.{◌≡◌, ◌≤◌, All, length}
use Rattle.command_parts.proofs.NumberLemmas.{AreFirst}
use Rattle.command_parts.proofs.words.numbers_in.Given as goal

abbrev pub invariant-loop-part : goal.invariant-loop-part
invariant-loop-part l = record {
  first : AreFirst l.text (length l.yielded) l.numbers.items;
  count : length l.numbers.items ≡ length l.yielded;
  room : length l.numbers.items ≤ 4;
  millionths : All (λ n. n ≤ 1000000) l.numbers.items;
}
