use Rattle.handler_check.proofs.Words.{[], ◌++◌, ◌+◌, ◌<◌, ◌∷◌, ◌≡◌, ap, arith, code_bytes, code_end, FitCode, HasCode}
use Rattle.handler_check.proofs.Words.{Instr, length, length-set, List, set, size_of, StandsAt, subst, sym, true, ℕ}
use Rattle.handler_check.proofs.Places.{bytes-push, fits-push, code-push}
use Rattle.handler_check.proofs.Tables.{Table, table_push, table_trap}
use Rattle.handler_check.proofs.cut.cut_of.Goals as goal

pub loop-at-preserved : goal.loop-at-preserved
loop-at-preserved g c =
    let e : c.push.new.self.items ≡ c.loop-at.code.items ++ c.in-Some.instr ∷ [] = c.in_ok-push-in-Some.ensures.items in
    let f = fits-push c.loop-at.code.items c.in-Some.instr c.loop-at.invariant.fits c.in-Some.ensures.fits in
    let b = bytes-push c.loop-at.code.items c.in-Some.instr in
    let h = code-push (g.M.Mem.bytes c.args.m.now) c.loop-at.code.items c.in-Some.instr c.loop-at.invariant.stands
    (subst (λ (n : ℕ). StandsAt (g.M.Mem.bytes c.args.m.now) n c.in-Some.instr) c.loop-at.invariant.place
    c.in-Some.ensures.stands) in
    let z : c.in-Some.size ≡ size_of c.in-Some.instr = c.in-Some.ensures.size in
    let n : length (code_bytes c.push.new.self.items) ≡ length
    (code_bytes (c.loop-at.code.items ++ c.in-Some.instr ∷ [])) =
    ap (λ (l : List Instr). length (code_bytes l)) e in
    let j : code_end c.loop-at.code.items ≡ 16384 + c.from-in-loop-at.result = omega arith in
    let l : c.from-in-loop-at.result < length c.loop-at.firsts.items = omega arith in
    let t = table_push c.loop-at.code.items c.in-Some.instr c.loop-at.firsts.items c.from-in-loop-at.result
    c.loop-at.invariant.table j l in
    let k = length-set c.loop-at.firsts.items c.from-in-loop-at.result true in
    record {
      place = omega (arith, b, z, n);
      within = c.in-Some.ensures.within;
      fits = subst FitCode (sym e) f;
      stands = subst (λ (l : List Instr). HasCode l (g.M.Mem.bytes c.args.m.now)) (sym e) h;
      size = omega (arith, k);
      table = subst (λ (l : List Instr). Table l (set c.loop-at.firsts.items c.from-in-loop-at.result true)) (sym e) t;
    }

pub returns-in-None-clause-table : goal.returns-in-None-clause-table
returns-in-None-clause-table g c =
    let j : code_end c.loop-at.code.items ≡ 16384 + c.from-in-loop-at.result = omega arith in
    let l : c.from-in-loop-at.result < length c.loop-at.firsts.items = omega arith in
    table_trap c.loop-at.code.items c.loop-at.firsts.items c.from-in-loop-at.result c.loop-at.invariant.table j l
    (omega arith)
