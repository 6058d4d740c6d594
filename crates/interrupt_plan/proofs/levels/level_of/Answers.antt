use Rattle.std.proofs.Common.{◌≡◌, ◌≤◌, ◌-◌, ◌∷◌, ◌∙◌, ℕ, false, true, List, length, take, drop, get_or, refl, sym, ap}
use Rattle.std.proofs.Common.{subst, arith}
use Rattle.std.specs.Prelude.{All}
use Rattle.std.specs.List.Sorted.{IsNonDecreasing}
use Rattle.interrupt_plan.proofs.LevelLemmas.{inner_of, small_behind, three_and_more}
use Rattle.interrupt_plan.proofs.levels.level_of.Goals as goal
use Rattle.interrupt_plan.proofs.levels.level_of.Goals.{then-sample-eq0-via-then-sample-eq0}
use Rattle.interrupt_plan.proofs.levels.level_of.Goals.{then-sample-eq0-via-else-sample-eq0+then-answered-fast}
use Rattle.interrupt_plan.proofs.levels.level_of.Goals.{then-sample-eq0-via-else-sample-eq0+else-answered-fast+then-not-rises}
use Rattle.interrupt_plan.proofs.levels.level_of.Goals.{then-sample-eq0-via-else-sample-eq0+else-answered-fast+else-not-rises+then-not-is_answered}

pub returns-then-sample-eq0 : goal.returns-then-sample-eq0
returns-then-sample-eq0 c = λ l is good.
    let ns = c.args.numbers.now in
    elim c.then-sample-eq0.branch [
      | then-sample-eq0-via-then-sample-eq0 w ↦
          (let sample : get_or ns 0 0 ≡ l.sample = ap (λ (ms : List ℕ). get_or ms 0 0) is in
          omega (arith, w.if-sample-eq0.true, sample, good.sample_from))
      | then-sample-eq0-via-else-sample-eq0+then-answered-fast w ↦
          (let answered : get_or ns 2 0 ≡ l.fast = ap (λ (ms : List ℕ). get_or ms 2 0) is in
          omega (arith, w.if-answered-fast.true, answered, good.fast_to))
      | then-sample-eq0-via-else-sample-eq0+else-answered-fast+then-not-rises w ↦
          (let bad : false ≡ true =
          w.if-not-rises.ensures.1 (subst IsNonDecreasing (sym (inner_of ns l is)) good.inner_rise) in
          cc)
      | then-sample-eq0-via-else-sample-eq0+else-answered-fast+else-not-rises+then-not-is_answered w ↦
          (let answered : get_or ns 2 0 ≡ l.fast = ap (λ (ms : List ℕ). get_or ms 2 0) is in
          let bad : false ≡ true =
          w.if-not-is_answered.ensures.1 (λ none. inner_of ns l is ∙ good.none (sym answered ∙ none)) in
          cc)
    ]

pub returns-in-Ok : goal.returns-in-Ok
returns-in-Ok c =
    let ns = c.args.numbers.now in
    let some = c.in-len3-up.len_at_least in
    let inner : take (length ns - 3) (drop 3 ns) ≡ c.in-Ok.inner.items = sym c.in-Ok.ensures.0 in
    let whole : ns ≡ get_or ns 0 0 ∷ get_or ns 1 0 ∷ get_or ns 2 0 ∷ c.in-Ok.inner.items =
    three_and_more ns some ∙ ap (λ (l : List ℕ). get_or ns 0 0 ∷ get_or ns 1 0 ∷ get_or ns 2 0 ∷ l) inner in (
      whole,
      record {
        sample_from = omega (arith, c.if-sample-eq0.false);
        sample_to = c.requires 0 0 (omega (arith, some));
        moment_to = c.requires 1 0 (omega (arith, some));
        fast_to = c.if-answered-fast.false;
        few = omega (arith, c.in-Ok.ensures.1, ap length inner);
        inner_to = small_behind (get_or ns 0 0) (get_or ns 1 0) (get_or ns 2 0) c.in-Ok.inner.items
            (subst (λ (l : List ℕ). All (λ n. n ≤ 999999999) l) whole c.requires);
        inner_rise = subst IsNonDecreasing inner (c.if-not-rises.ensures.0 refl);
        none = λ none. sym inner ∙ c.if-not-is_answered.ensures.0 refl none;
      },
    )
