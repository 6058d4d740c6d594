use Rattle.std.proofs.Common.{◌≡◌, ℕ, Bool, inl, inr, refl, sym, ap, ◌∙◌, rules}
use Rattle.std.specs.Prelude.{◌||◌, ◌&&◌, ◌==◌}
use Rattle.fuzzy_meaning.specs.Conditions.{all, any, Conditions, end, also, conditions}
use Rattle.fuzzy_meaning.specs.Trees.{tree}
use Rattle.error_bound.specs.Matters.{some_literal, asks_for, is_spread}
use Rattle.error_bound.proofs.ListLemmas.{part_asks, parts_ask}
use Rattle.error_bound.proofs.matters.+asking.Goals as goal

-- the parts of an AND ask as those of an OR do
all-any : (p : ℕ → ℕ → Bool) (cs : Conditions) → some_literal p (all cs) ≡ some_literal p (any cs)
all-any p end = refl
all-any p (also c cs) = ap (λ d. some_literal p c || d) (all-any p cs)

pub some_asks_for-asks_for-requires : goal.some_asks_for-asks_for-requires
some_asks_for-asks_for-requires t c =
    part_asks c.parts_are_valid.ensures _ _ c.index-parts-k.is c.requires.parts c.requires.table (search rules)

pub asks_for-some_asks_for-requires : goal.asks_for-some_asks_for-requires
asks_for-some_asks_for-requires t c =
    parts_ask _ c.condition.view_is (inl c.in-And.is) (search rules)

pub asks_for-some_asks_for-requires-in-Or : goal.asks_for-some_asks_for-requires-in-Or
asks_for-some_asks_for-requires-in-Or t c =
    parts_ask _ c.condition.view_is (inr c.in-Or.is) (search rules)

pub asks_for-returns-in-Or : goal.asks_for-returns-in-Or
asks_for-returns-in-Or t c =
    let b = c.args.table.now.table.now.block.now in
    let box = c.args.table.now.bytes.0.items in
    let i = c.args.input in
    c.some_asks_for-in-Or.ensures ∙ all-any (λ j t. (j == i) && is_spread b box j t)
    (conditions c.as_slice-in-Or.result.now)
    ∙ ap (λ ps. asks_for b box i (any (conditions ps))) c.as_slice-in-Or.ensures.value
    ∙ ap (asks_for b box i) (ap tree (sym c.in-Or.is) ∙ c.condition.view_is)
