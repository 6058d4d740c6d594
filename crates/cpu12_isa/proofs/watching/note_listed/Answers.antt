use Rattle.std.proofs.Common.{◌≡◌, ◌∙◌, ◌<◌, ◌+◌, ℕ, List, [], Option, drop, get_or, ap, sym, subst, length, arith}
use Rattle.std.proofs.lemmas.Bool.{false≢true}
use Rattle.std.proofs.lemmas.List.{drop_all, drop_more, length-set}
use Rattle.cpu12_isa.specs.Watching.{noted_again, AreListed}
use Rattle.cpu12_isa.proofs.Watches.{noted_at, noted_at_again, noted_stays, listed_noted}
use Rattle.cpu12_isa.proofs.watching.note_listed.Goals as goal

pub loop-at-preserved : goal.loop-at-preserved
loop-at-preserved g c =
    let a = c.args in
    let l = c.loop-at in
    let mem : List ℕ = g.M.Mem.bytes a.m.now in
    let x : ℕ = get_or a.written.now l.at-index 0 in
    let fits : x < 65536 = omega (arith, c.type_inv.written l.at-index) in
    let put : c.note_at.new.table ≡ noted_at l.table mem x = c.note_at.ensures in
    let listed : AreListed (drop (l.at-index + 1) a.written.now) (noted_at l.table mem x) mem =
    listed_noted x (drop (l.at-index + 1) a.written.now) l.table mem (omega (arith, fits, l.invariant.size))
    (subst (λ (xs : List ℕ). AreListed xs l.table mem) (drop_more a.written.now l.at-index 0 c.loop-at-test.true)
    l.invariant.listed) in
    record {
      same = ap (λ (t : List (Option ℕ)). noted_again t mem) put
          ∙ noted_at_again l.table mem x (omega (arith, fits, g.met.M.Mem.size a.m.now)) ∙ l.invariant.same;
      listed = subst (λ (t : List (Option ℕ)). AreListed (drop (l.at-index + 1) a.written.now) t mem) (sym put) listed;
      size = ap length put ∙ length-set l.table x _ ∙ l.invariant.size;
    }

pub returns : goal.returns
returns g c =
    let a = c.args in
    let l = c.loop-at in
    let mem : List ℕ = g.M.Mem.bytes a.m.now in
    let rest : AreListed [] l.table mem =
    subst (λ (xs : List ℕ). AreListed xs l.table mem) (drop_all l.at-index a.written.now c.loop-at-test.false)
    l.invariant.listed in
    sym (noted_stays l.table mem (λ at changed. false≢true (rest at changed))) ∙ l.invariant.same
