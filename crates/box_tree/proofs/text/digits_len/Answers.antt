use Rattle.std.proofs.Common.{◌≡◌, ℕ, ◌≤◌, cond, ltb, Some, None, length, ap, ◌∙◌, rules, tests, arith}
use Rattle.std.specs.Prelude.{unwrap_or, not}
use Rattle.std.proofs.lemmas.Bool.Decides.{nat_tests}
use Rattle.std.proofs.lemmas.List.Sums.{prefix_len-le-length}
use Rattle.std.proofs.lemmas.Iterator.{YieldsList-from_slice}
use Rattle.std.proofs.lemmas.Iterator.Search.{position_from_yields_List}
use Rattle.box_tree.specs.Numbers.{is_no_digit, digits_len_of}
use Rattle.box_tree.proofs.text.digits_len.Goals as goal

place : (k n : ℕ) → k ≤ n → unwrap_or (cond (ltb k n) (Some k) None) n ≡ k
place k n h = grind (arith, nat_tests)

pub returns : goal.returns
returns c =
    let xs = c.args.text.now in
    let found = position_from_yields_List is_no_digit _ _ c.position.result c.position.ensures.ran
    (YieldsList-from_slice xs cc) (λ x b q k. search (rules, tests)) in
    c.unwrap_or.ensures ∙ ap (λ o. unwrap_or o (length xs)) found
    ∙ place (digits_len_of xs) (length xs) (prefix_len-le-length (λ x. not (is_no_digit x)) xs)
