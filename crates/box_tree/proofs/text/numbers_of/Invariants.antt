use Rattle.std.proofs.Common.{◌≡◌, ◌≤◌, ◌-◌, ◌++◌, List, ℕ, length, All}
use Rattle.box_tree.specs.Texts.{line, numbers}
use Rattle.box_tree.proofs.LineLemmas.{GoesOn}
use Rattle.box_tree.proofs.text.numbers_of.Given as goal

abbrev pub invariant-loop-behind : goal.invariant-loop-behind
invariant-loop-behind l = record {
  few : length l.numbers.items ≤ 8;
  small : All (λ n. n ≤ 1000000) l.numbers.items;
  so_far : l.text ≡ l.word ++ (numbers l.numbers.items ++ l.rest);
  others : (ns behind : List ℕ) → length ns ≤ 8 → All (λ n. n ≤ 1000000) ns → l.text ≡ line l.word ns ++ behind
      → GoesOn ns behind l.numbers.items l.rest;
}

abbrev pub decreases-loop-behind : goal.decreases-loop-behind
decreases-loop-behind l = 8 - length l.numbers.items
