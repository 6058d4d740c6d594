use Rattle.handler_check.proofs.Words.{◌+◌, ◌∙◌, ◌≡◌, AreJudged, arith, LdaaImmediate, subst, summary_at, sym, ℕ}
use Rattle.handler_check.proofs.{Places.stands_behind, Places.code_end-all, Tables.code_end-low}
use Rattle.handler_check.proofs.Onward.{behind_first, accepted_end}
use Rattle.handler_check.proofs.judge.judge.Goals as goal

pub judge_one-requires-clause-here : goal.judge_one-requires-clause-here
judge_one-requires-clause-here c =
    let l = c.loop-instr in
    let code : c.deref-instr-items.result.now ≡ c.args.cut.now.code.items = cc in
    (stands_behind _ _ l.instr-index l.at (LdaaImmediate 0) code (omega arith) l.invariant.place).here

pub judge_one-requires-clause-low : goal.judge_one-requires-clause-low
judge_one-requires-clause-low c = omega arith

pub judge_one-requires-clause-high : goal.judge_one-requires-clause-high
judge_one-requires-clause-high c =
    let l = c.loop-instr in
    let code : c.deref-instr-items.result.now ≡ c.args.cut.now.code.items = cc in
    let s = stands_behind _ _ l.instr-index l.at (LdaaImmediate 0) code (omega arith) l.invariant.place in
    omega (arith, s.below, code_end-low _ _ _ c.requires.table)

pub overflow_add-at : goal.overflow_add-at
overflow_add-at c =
    let l = c.loop-instr in
    let code : c.deref-instr-items.result.now ≡ c.args.cut.now.code.items = cc in
    let s = stands_behind _ _ l.instr-index l.at (LdaaImmediate 0) code (omega arith) l.invariant.place in
    omega (arith, s.ends, c.size-at.ensures.size, code_end-low _ _ _ c.requires.table)

pub loop-instr-preserved : goal.loop-instr-preserved
loop-instr-preserved c =
    let l = c.loop-instr in
    let code : c.deref-instr-items.result.now ≡ c.args.cut.now.code.items = cc in
    let s = stands_behind _ _ l.instr-index l.at (LdaaImmediate 0) code (omega arith) l.invariant.place in
    record {
      place = omega (arith, s.next, c.size-at.ensures.size);
      judged = subst (λ (n : ℕ). AreJudged c.args.cut.now.code.items c.args.cut.now.trapped (l.at + n)
          c.in_ok-best.best (summary_at c.judge_one.new.summaries.places.items))
          (sym c.size-at.ensures.size) c.in_ok-best.ensures.judged;
      size = c.in_ok-best.ensures.size ∙ l.invariant.size;
    }

pub returns-then-cut-clause-fault : goal.returns-then-cut-clause-fault
returns-then-cut-clause-fault c = λ other.
    let l = c.loop-instr in
    let code : c.deref-instr-items.result.now ≡ c.args.cut.now.code.items = cc in
    let end = code_end-all _ _ l.instr-index l.at code (omega arith) l.invariant.place in
    behind_first _ _ l.best (summary_at l.summaries.places.items) l.at c.fault_behind.result end c.if-cut.true
    l.invariant.judged c.fault_behind.ensures

pub returns-clause-accepted : goal.returns-clause-accepted
returns-clause-accepted c =
    let l = c.loop-instr in
    let code : c.deref-instr-items.result.now ≡ c.args.cut.now.code.items = cc in
    let end = code_end-all _ _ l.instr-index l.at code (omega arith) l.invariant.place in
    accepted_end _ _ _ l.best (summary_at l.summaries.places.items) l.at c.requires.table c.requires.some
    c.requires.fits c.if-cut.false end l.invariant.judged
