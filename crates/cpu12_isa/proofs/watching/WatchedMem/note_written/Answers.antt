use Rattle.std.proofs.Common.{◌≡◌, ◌∙◌, ℕ, List, Option, true, length, sym, ap, subst, arith}
use Rattle.std.specs.Vec.{with_items}
use Rattle.std.proofs.lemmas.List.{with_items_is}
use Rattle.cpu12_isa.specs.Watching.{noted_again}
use Rattle.cpu12_isa.proofs.Watches.{changed_at, none_after, length_noted_again}
use Rattle.cpu12_isa.proofs.watching.WatchedMem.note_written.Goals as goal

pub invariant_of-self : goal.invariant_of-self
invariant_of-self g c =
    let m = c.args.self.now in
    let mem : List ℕ = g.M.Mem.bytes m.inner in
    let now : c.deref_mut.result.now ≡ m.table.items = c.deref_mut.ensures.value in
    let noted : c.note_again.new.table ≡ noted_again m.table.items mem =
    c.note_again.ensures ∙ ap (λ (t : List (Option ℕ)). noted_again t mem) now in
    let long : length c.note_again.new.table ≡ m.table.len = ap length noted ∙ length_noted_again m.table.items mem
    ∙ ap length (sym now) ∙ c.deref_mut.ensures.len in
    let is : (with_items m.table c.note_again.new.table).items ≡ noted_again m.table.items mem =
    with_items_is m.table c.note_again.new.table long ∙ noted in
    record {
      size = ap length is ∙ length_noted_again m.table.items mem ∙ m.size;
      listed = λ few at changed.
          absurd (none_after m.table.items mem at (omega (arith, m.size, g.met.M.Mem.size m.inner))
          (subst (λ (t : List (Option ℕ)). changed_at t mem at ≡ true) is changed));
    }
