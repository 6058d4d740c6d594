use Rattle.std.proofs.Common.{◌≡◌, ℕ, ◌+◌, ◌-◌, ◌<◌, max, length, drop, get_or, refl, sym, ap, ◌∙◌, subst, arith}
use Rattle.std.proofs.lemmas.List.{length-set}
use Rattle.std.specs.Prelude.{slice_index, slice_set, if◌then◌else◌}
use Rattle.error_bound.proofs.{LeafLemmas.concludes_among, LeafLemmas.raised_by, ListLemmas.drop_back}
use Rattle.error_bound.proofs.bounds.raise_terms.Goals as goal

pub loop-k-preserved-then-output-out : goal.loop-k-preserved-then-output-out
loop-k-preserved-then-output-out c =
    let cs = c.args.rule.now.concl in
    let j = c.loop-k.k - 1 in
    let x = get_or cs j (0, 0) in
    let errors = c.loop-k.errors in
    let count = c.loop-k.invariant.count in
    let within : j < length cs = omega (arith, ap length c.as_slice-conclusions.ensures) in
    let named : get_or c.as_slice-conclusions.result.now j (0, 0) ≡ x =
    ap (λ l. get_or l j (0, 0)) c.as_slice-conclusions.ensures in
    let term = c.requires j (0, 0) within in
    let next = drop_back cs c.loop-k.k x (0, 0) (omega arith) (omega arith) refl in
    record {
      count = omega (arith, length-set {A = ℕ}, count);
      each = λ t few.
          let old = slice_index c.args.errors.now t in
          let output : x.0 ≡ c.args.out = sym (ap (λ (y : ℕ × ℕ). y.0) named) ∙ c.if-output-out.true in
          let made : c.max.result ≡ max (slice_index errors (x.1 - 1)) c.args.error =
          c.max.ensures ∙ ap (λ (y : ℕ × ℕ). max (slice_index errors (y.1 - 1)) c.args.error) named in
          let raised = raised_by errors c.args.out c.args.error old t c.max.result x count few output term.0 term.1 made
          (drop c.loop-k.k cs) (c.loop-k.invariant.each t few) in
          subst (λ (y : ℕ × ℕ). slice_index (slice_set errors (y.1 - 1) c.max.result) t
          ≡ (if concludes_among c.args.out (t + 1) (drop j cs) then max c.args.error old else old)) (sym named)
          (subst (λ ys. slice_index (slice_set errors (x.1 - 1) c.max.result) t
          ≡ (if concludes_among c.args.out (t + 1) ys then max c.args.error old else old)) (sym next) raised);
    }
