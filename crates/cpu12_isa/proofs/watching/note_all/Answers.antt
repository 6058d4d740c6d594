use Rattle.std.proofs.Common.{◌≡◌, ◌∙◌, ◌+◌, ◌≤◌, ℕ, List, Option, true, ap, sym, subst, length, arith}
use Rattle.std.proofs.lemmas.List.{length-set}
use Rattle.cpu12_isa.specs.Watching.{noted_again}
use Rattle.cpu12_isa.proofs.Watches.{changed_at, changed_once_noted, changed_within, noted_at, noted_at_again}
use Rattle.cpu12_isa.proofs.Watches.{noted_stays}
use Rattle.cpu12_isa.proofs.watching.note_all.Goals as goal

pub loop-at-preserved : goal.loop-at-preserved
loop-at-preserved g c =
    let a = c.args in
    let l = c.loop-at in
    let mem : List ℕ = g.M.Mem.bytes a.m.now in
    let put : c.note_at.new.table ≡ noted_at l.table mem l.at = c.note_at.ensures in
    let rest : (at : ℕ) → changed_at (noted_at l.table mem l.at) mem at ≡ true → l.at + 1 ≤ at =
    λ at changed.
    let before = changed_once_noted l.table mem l.at at
    (omega (arith, l.invariant.size, c.loop-at-test.true)) changed in
    omega (arith, before.0, l.invariant.rest at before.1) in
    record {
      same = ap (λ (t : List (Option ℕ)). noted_again t mem) put
          ∙ noted_at_again l.table mem l.at (omega (arith, g.met.M.Mem.size a.m.now, c.loop-at-test.true))
          ∙ l.invariant.same;
      rest = subst (λ (t : List (Option ℕ)). (at : ℕ) → changed_at t mem at ≡ true → l.at + 1 ≤ at) (sym put) rest;
      size = ap length put ∙ length-set l.table l.at _ ∙ l.invariant.size;
    }

pub returns : goal.returns
returns g c =
    let a = c.args in
    let l = c.loop-at in
    let mem : List ℕ = g.M.Mem.bytes a.m.now in
    sym (noted_stays l.table mem
    (λ at changed. omega (
      arith,
      l.invariant.size,
      c.loop-at-test.false,
      l.invariant.rest at changed,
      changed_within l.table mem at changed,
    )))
    ∙ l.invariant.same
