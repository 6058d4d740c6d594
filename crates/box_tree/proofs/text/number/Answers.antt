use Rattle.std.proofs.Common.{◌≡◌, ◌<◌, ◌⊎◌, ℕ, Bool, true, false, take, drop, arith, sym, ◌∙◌, ap, subst}
use Rattle.std.specs.Prelude.{not}
use Rattle.std.proofs.lemmas.List.Sums.{prefix_len-le-length}
use Rattle.box_tree.specs.Numbers.{is_no_digit}
use Rattle.box_tree.proofs.NumberLemmas.{number_read, no_number}
use Rattle.box_tree.proofs.text.number.Goals as goal

pub split_at-requires : goal.split_at-requires
split_at-requires c =
    omega (arith, c.digits_len.ensures, prefix_len-le-length (λ x. not (is_no_digit x)) c.args.text.now)

pub returns-then-value-le-GREATEST : goal.returns-then-value-le-GREATEST
returns-then-value-le-GREATEST c =
    number_read c.args.text.now c.split_at.result.0.now c.split_at.result.1.now c.value_of-value.result
    (c.split_at.ensures.front ∙ ap (λ (k : ℕ). take k c.args.text.now) c.digits_len.ensures)
    (c.split_at.ensures.back ∙ ap (λ (k : ℕ). drop k c.args.text.now) c.digits_len.ensures)
    c.value_of-value.ensures (sym c.is_plain.ensures ∙ c.if-is_plain.true) c.if-value-le-GREATEST.true

pub returns-else-is_plain : goal.returns-else-is_plain
returns-else-is_plain c = no_number c.args.text.now c.split_at.result.0.now c.value_of-value.result
    (c.split_at.ensures.front ∙ ap (λ (k : ℕ). take k c.args.text.now) c.digits_len.ensures) c.value_of-value.ensures
    (subst (λ (b : Bool). ((b ≡ true) × (1000000 < c.value_of-value.result)) ⊎ (b ≡ false)) c.is_plain.ensures
    c.else-is_plain.either)
