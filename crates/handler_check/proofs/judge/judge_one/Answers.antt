use Rattle.handler_check.proofs.Words.{◌+◌, ◌∙◌, ◌≡◌, ap, arith, false, given, height_behind, inl, inr, Kind, refl}
use Rattle.handler_check.proofs.Words.{Some, summary_at, sym}
use Rattle.std.proofs.Common.{rules, Err}
use Rattle.handler_check.proofs.{Marking.summary-short, Marking.mark_on, FirstFaults.fails_first}
use Rattle.handler_check.proofs.Onward.{branches_of, dead_at, falls_of, on_both, returns_of, rti_of, to_within}
use Rattle.handler_check.proofs.judge.judge_one.Goals as goal

pub returns-in-None-clause-fault : goal.returns-in-None-clause-fault
returns-in-None-clause-fault c =
    dead_at _ _ _ _ _ c.args.instr c.requires.judged c.requires.here cc

pub kind_at-requires-clause-summary : goal.kind_at-requires-clause-summary
kind_at-requires-clause-summary c = c.requires.judged.tell c.args.at c.in-Some.summary cc

pub returns-in_err-kind-clause-fault : goal.returns-in_err-kind-clause-fault
returns-in_err-kind-clause-fault c =
    let passed : c.from_residual.result ≡ Err c.in_err-kind.field-0.0 = search rules in
    rw passed (fails_first _ _ _ _ _ c.args.instr c.in-Some.summary c.in_err-kind.field-0.0 c.requires.judged
    c.requires.here (cc) c.in_err-kind.ensures.fault)

pub height_after-requires-clause-low : goal.height_after-requires-clause-low
height_after-requires-clause-low c = (c.requires.judged.tell c.args.at c.in-Some.summary cc).low

pub overflow_add-next : goal.overflow_add-next
overflow_add-next c =
    omega (
      arith,
      summary-short _ _ _ _ _ c.in-Some.summary c.requires.judged (cc)
          (c.in_ok-kind.ensures.passes.meets (omega arith)),
    )

pub lead-requires : goal.lead-requires
lead-requires c =
    to_within _ _ _ c.falls_to.result _ _ c.requires.table
    (falls_of c.args.instr _ _ _ _ c.in_ok-kind.ensures.kind c.size.ensures.size c.falls_to.ensures.to)
    (c.in_ok-kind.ensures.passes.falls (omega arith)) c.requires.size

pub lead-requires-2 : goal.lead-requires-2
lead-requires-2 c =
    to_within _ _ _ c.branches_to.result _ _ c.requires.table
    (branches_of c.args.instr _ _ _ c.in_ok-kind.ensures.kind c.branches_to.ensures.to)
    (c.in_ok-kind.ensures.passes.branches (omega arith)) (c.lead.ensures.size ∙ c.requires.size)

pub returns-clause-judged : goal.returns-clause-judged
returns-clause-judged c =
    mark_on _ _ c.args.at c.args.best c.longest.result (summary_at c.args.summaries.now.places.items)
    (summary_at c.lead-2.new.self.places.items) c.args.instr c.in-Some.summary
    (record { height = c.height_after.result; most = c.in-Some.summary.most + 1; meets = false })
    (record {
      judged = c.requires.judged;
      here = c.requires.here;
      summary_is = cc;
      passes = c.in_ok-kind.ensures.passes;
      height = c.height_after.ensures
          ∙ ap (given _ (λ (kind : Kind). height_behind kind c.in-Some.summary.height))
          (sym c.in_ok-kind.ensures.kind);
      most = omega arith;
      meets = refl;
      over = c.longest.ensures.over;
      few = λ rti. c.longest.ensures.few (returns_of c.args.instr _ c.in_ok-kind.ensures.kind rti);
      longest = elim c.longest.ensures.one [
        | inl same ↦ inl same
        | inr more ↦ inr (rti_of c.args.instr (c.in_ok-kind.ensures.kind ∙ ap (λ (k : Kind). Some k) more.0), more.1)
      ];
    })
    (on_both _ (summary_at c.lead.new.self.places.items) _ _ _ c.falls_to.result c.branches_to.result _
    (falls_of c.args.instr _ _ _ _ c.in_ok-kind.ensures.kind c.size.ensures.size c.falls_to.ensures.to)
    (branches_of c.args.instr _ _ _ c.in_ok-kind.ensures.kind c.branches_to.ensures.to)
    c.lead.ensures.summaries c.lead-2.ensures.summaries)
