use Rattle.std.proofs.Common.{◌≡◌, ◌∙◌, ◌<◌, ◌+◌, ℕ, List, [], true, false, get_or, drop, ap, sym, subst, arith}
use Rattle.std.proofs.lemmas.Bool.{both_ways, false≢true}
use Rattle.std.proofs.lemmas.List.{drop_all, drop_more}
use Rattle.cpu12_isa.specs.Watching.{is_changed, AreListed}
use Rattle.cpu12_isa.proofs.Watches.{any_from, none_from, changed_at, listed_next}
use Rattle.cpu12_isa.proofs.watching.any_listed.Goals as goal

pub returns-then-is_changed : goal.returns-then-is_changed
returns-then-is_changed g c =
    let a = c.args in
    let mem : List ℕ = g.M.Mem.bytes a.m.now in
    let x : ℕ = get_or a.written.now c.loop-at.at-index 0 in
    let fits : x < 65536 = omega (arith, c.type_inv.written c.loop-at.at-index) in
    let changed : changed_at a.table.now mem x ≡ true =
    ap (is_changed (get_or a.table.now x _)) (sym c.read.ensures) ∙ sym c.is_changed.ensures ∙ c.if-is_changed.true in
    sym (any_from a.table.now mem x (omega (arith, g.met.M.Mem.size a.m.now, fits)) changed)

pub loop-at-preserved : goal.loop-at-preserved
loop-at-preserved g c =
    let a = c.args in
    let mem : List ℕ = g.M.Mem.bytes a.m.now in
    let i : ℕ = c.loop-at.at-index in
    let x : ℕ = get_or a.written.now i 0 in
    let stays : changed_at a.table.now mem x ≡ false =
    ap (is_changed (get_or a.table.now x _)) (sym c.read.ensures) ∙ sym c.is_changed.ensures ∙ c.if-is_changed.false in
    listed_next x (drop (i + 1) a.written.now) a.table.now mem (both_ways (changed_at a.table.now mem x) stays)
    (subst (λ (l : List ℕ). AreListed l a.table.now mem) (drop_more a.written.now i 0 c.loop-at-test.true)
    c.loop-at.invariant)

pub returns : goal.returns
returns g c =
    let a = c.args in
    let mem : List ℕ = g.M.Mem.bytes a.m.now in
    let rest : AreListed [] a.table.now mem =
    subst (λ (l : List ℕ). AreListed l a.table.now mem)
    (drop_all c.loop-at.at-index a.written.now c.loop-at-test.false) c.loop-at.invariant in
    sym (none_from a.table.now mem (λ at changed. false≢true (rest at changed)))
