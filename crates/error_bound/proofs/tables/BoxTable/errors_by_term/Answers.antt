use Rattle.std.proofs.Common.{◌≡◌, ℕ, ◌+◌, max, Bool, true, false, refl, sym, ap, ap₂, ◌∙◌}
use Rattle.std.specs.Prelude.{if◌then◌else◌}
use Rattle.fuzzy_meaning.specs.{declared.block.Rule.Rule, Meaning.concludes}
use Rattle.error_bound.specs.{Errors.output_error_among, Errors.rule_error, CellErrors.term_errors}
use Rattle.error_bound.specs.Leaves.{concludes_some}
use Rattle.error_bound.proofs.{LeafLemmas.any-some, ListLemmas.step_back}
use Rattle.error_bound.proofs.TightLawLemmas.{raised-le}
use Rattle.error_bound.proofs.tables.BoxTable.errors_by_term.Goals as goal

pub loop-n-preserved-then-concludes_some : goal.loop-n-preserved-then-concludes_some
loop-n-preserved-then-concludes_some c =
    let e = term_errors c.args.self.now.table.now.block.now c.args.self.now.bytes.0.items in
    let o = c.args.out in
    let r0 = c.index-rules-n-then-concludes_some.result in
    let step = step_back c.as_slice-rules.ensures c.loop-n-test.true c.loop-n.auto.n
    c.index-rules-n-then-concludes_some.is in
    let q = c.error_of_rule-error.ensures r0 step.1 in
    let error = c.error_of_rule-error.result in
    let before = c.loop-n.invariant in
    let raised = c.raise_terms.ensures in
    record {
      count = c.raise_terms.array_long;
      each = λ t few.
          raised t few ∙ ap₂ (λ x y. if concludes r0 o (t + 1) then max x y else y) q.value (before.each t few)
          ∙ sym (ap (output_error_among e o (t + 1)) step.0);
      small = λ t few. raised-le (concludes r0 o (t + 1)) error _ _ 3000000000 (raised t few) q.small
          (before.small t few);
    }

not_concluded : (r : Rule) (o t : ℕ) → concludes_some r o ≡ false → (e n : ℕ) → n
    ≡ (if concludes r o t then max e n else n)
not_concluded r o t none e n = by_test (concludes r o t) refl
  where
    by_test : (p : Bool) → concludes r o t ≡ p → n ≡ (if p then max e n else n)
    by_test true c = absurd (let one = any-some o t r.concl c in let z : ⊥ = cc in z)
    by_test false c = refl

pub loop-n-preserved : goal.loop-n-preserved
loop-n-preserved c =
    let e = term_errors c.args.self.now.table.now.block.now c.args.self.now.bytes.0.items in
    let o = c.args.out in
    let r0 = c.index-rules-n.result in
    let step = step_back c.as_slice-rules.ensures c.loop-n-test.true c.loop-n.auto.n c.index-rules-n.is in
    let before = c.loop-n.invariant in
    record {
      count = before.count;
      each = λ t few.
          before.each t few
          ∙ not_concluded r0 o (t + 1) (sym c.concludes_some.ensures ∙ c.if-concludes_some.false) (rule_error e r0) _
          ∙ sym (ap (output_error_among e o (t + 1)) step.0);
      small = before.small;
    }
