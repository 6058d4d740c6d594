use Rattle.std.proofs.Common.{◌≡◌, ◌∙◌, ℕ, List, true, get_or, ap, sym, arith}
use Rattle.cpu12_isa.specs.Watching.{is_changed}
use Rattle.cpu12_isa.proofs.Watches.{any_from, none_from, changed_at, changed_within}
use Rattle.cpu12_isa.proofs.watching.any_of_all.Goals as goal

pub returns-then-is_changed : goal.returns-then-is_changed
returns-then-is_changed g c =
    let a = c.args in
    let mem : List ℕ = g.M.Mem.bytes a.m.now in
    let at : ℕ = c.loop-at.at in
    let changed : changed_at a.table.now mem at ≡ true =
    ap (is_changed (get_or a.table.now at _)) (sym c.read.ensures) ∙ sym c.is_changed.ensures ∙ c.if-is_changed.true in
    sym (any_from a.table.now mem at (omega (arith, g.met.M.Mem.size a.m.now, c.loop-at-test.true)) changed)

pub returns : goal.returns
returns g c =
    let a = c.args in
    let mem : List ℕ = g.M.Mem.bytes a.m.now in
    sym (none_from a.table.now mem
    (λ at changed. omega (
      arith,
      c.requires,
      c.loop-at-test.false,
      c.loop-at.invariant at changed,
      changed_within a.table.now mem at changed,
    )))
