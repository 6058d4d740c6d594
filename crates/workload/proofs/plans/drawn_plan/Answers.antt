use Rattle.std.proofs.Common.{arith, ◌≡◌, ◌+◌, ◌*◌, ◌++◌, ℕ, [], ◌∷◌, length, length-append, map, sym, ap, subst, ◌∙◌}
use Rattle.std.specs.List.{range_with_len}
use Rattle.csv.specs.Writing.{default_writer, row_text}
use Rattle.interrupt_plan.specs.Plans.{SpellsRequest}
use Rattle.workload.specs.{Draws.draw, Draws.state_after, Texts.request_fields, Workloads.drawn_request}
use Rattle.workload.proofs.{ListLemmas.made_more, RowLemmas.Writes, RowLemmas.writes_more}
use Rattle.workload.proofs.PlanLemmas.{made, plan_spells, request_length, request_row, requests_drawn, spells_made}
use Rattle.workload.proofs.plans.drawn_plan.Goals as goal

pub loop-k-preserved : goal.loop-k-preserved
loop-k-preserved c =
    let k = c.loop-k.k in
    let inv = c.loop-k.invariant in
    let moment = c.request-moment.result.0 in
    let at = c.request-moment.result.1 in
    let value = c.request-moment.result.2 in
    let small = c.request-moment.ensures.small in
    record {
      state = λ number begun.
          c.request-moment.ensures.state number (2001 + 3 * k) (inv.state number begun)
          ∙ ap (state_after number) (omega arith);
      requests = λ number begun.
          let drawn = c.request-moment.ensures.value number (2001 + 3 * k) (inv.state number begun) in
          let second : draw number (2001 + 3 * k + 1) 2016 ≡ draw number (2002 + 3 * k) 2016 =
          ap (λ (j : ℕ). draw number j 2016) (omega arith) in
          let third : draw number (2001 + 3 * k + 2) 256 ≡ draw number (2003 + 3 * k) 256 =
          ap (λ (j : ℕ). draw number j 256) (omega arith) in
          let here : c.in_ok-request_of.field-0 ≡ drawn_request number k =
          c.in_ok-request_of.ensures ∙ ap (made (k + 1)) drawn
          ∙ (λ i. made (k + 1) (draw number (2001 + 3 * k) 456, second i, third i)) in
          c.in_ok-push.ensures.items ∙ (λ i. inv.requests number begun i ++ (here i ∷ []))
          ∙ sym (made_more (drawn_request number) k);
      rows = writes_more SpellsRequest c.loop-k.text.items _ c.loop-k.requests.items _
          (request_fields (k + 1) (moment, at, value)) _ inv.rows
          (request_row (k + 1) moment at value (omega (arith, c.loop-k-test.true)))
          (subst (SpellsRequest (request_fields (k + 1) (moment, at, value))) (sym c.in_ok-request_of.ensures)
          (spells_made (k + 1) moment at value (omega arith) (omega (arith, c.loop-k-test.true))
          (omega (arith, small.0)) small.1 small.2))
          c.in_ok-text.ensures c.in_ok-push.ensures.items;
      size = omega (
        arith,
        inv.size,
        ap length c.in_ok-text.ensures,
        length-append c.loop-k.text.items (row_text default_writer (request_fields (k + 1) (moment, at, value))),
        request_length (k + 1) moment at value (omega (arith, c.loop-k-test.true)) (omega (arith, small.0)),
      );
    }

pub returns : goal.returns
returns c =
    let inv = c.loop-k.invariant in
    let all : c.loop-k.k ≡ 1000 = omega (arith, c.loop-k-test.false, c.loop-k.auto.k-end) in
    let drawn : (number : ℕ) → c.args.draws.now.state ≡ state_after number 2001
    → c.loop-k.requests.items ≡ map (drawn_request number) (range_with_len 0 1000) =
    λ number begun. inv.requests number begun
    ∙ ap (λ (n : ℕ). map (drawn_request number) (range_with_len 0 n)) all in
    let same : c.new.result ≡ c.loop-k.requests.items = c.new.ensures in
    record {
      drawn = λ number begun. requests_drawn number _ (same ∙ drawn number begun);
      spelled = λ number begun. plan_spells number c.loop-k.text.items _
          (subst (Writes SpellsRequest c.loop-k.text.items) (sym same) inv.rows) (same ∙ drawn number begun);
      short = omega (arith, inv.size, all);
    }
