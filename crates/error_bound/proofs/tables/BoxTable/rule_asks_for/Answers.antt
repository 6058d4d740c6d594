use Rattle.std.proofs.Common.{◌≡◌, not, true, false, ap, sym, ◌∙◌}
use Rattle.std.specs.Prelude.{◌&&◌}
use Rattle.fuzzy_meaning.specs.declared.block.Rule.{Rule}
use Rattle.error_bound.specs.{Matters.asks_for, Tight.is_still}
use Rattle.error_bound.proofs.{ListLemmas.get_or-slice, TightLawLemmas.still-same}
use Rattle.error_bound.proofs.tables.BoxTable.rule_asks_for.Goals as goal

pub returns-then-not-asks_for : goal.returns-then-not-asks_for
returns-then-not-asks_for c r found =
    let b = c.args.self.now.table.now.block.now in
    let box = c.args.self.now.bytes.0.items in
    let i = c.args.input in
    let rule_is = c.index-as_slice-place.is ∙ get_or-slice _ _ c.args.place _ r c.as_slice.ensures found in
    let asks : asks_for b box i r.cond ≡ false =
    sym (ap (λ (q : Rule). asks_for b box i q.cond) rule_is)
    ∙ sym c.asks_for.ensures ∙ c.if-not-asks_for.true in
    ap (λ a. a && not (is_still b box r)) (sym asks)

pub returns : goal.returns
returns c r found =
    let b = c.args.self.now.table.now.block.now in
    let box = c.args.self.now.bytes.0.items in
    let i = c.args.input in
    let rule_is = c.index-as_slice-place.is ∙ get_or-slice _ _ c.args.place _ r c.as_slice.ensures found in
    let asks : asks_for b box i r.cond ≡ true =
    sym (ap (λ (q : Rule). asks_for b box i q.cond) rule_is)
    ∙ sym c.asks_for.ensures ∙ c.if-not-asks_for.false in
    let still = c.is_nothing.ensures ∙ still-same b box r c.end_of_rule.result (c.end_of_rule.ensures r found) in
    ap not still ∙ ap (λ a. a && not (is_still b box r)) (sym asks)
