use Rattle.std.proofs.Common.{◌≡◌, ◌∙◌, ℕ, List, Option, true, length, ap, subst}
use Rattle.cpu12_isa.proofs.Watches.{changed_at, length_untagged, untagged_stays}
use Rattle.cpu12_isa.proofs.watching.WatchedMemMem.fresh.Goals as goal

pub invariant_of-result : goal.invariant_of-result
invariant_of-result g c =
    let mem : List ℕ = g.M.Mem.bytes c.in_ok-fresh.field-0 in
    record {
      size = ap (λ (l : List (Option ℕ)). length l) c.in-Ok.ensures ∙ length_untagged 65536;
      listed = λ few at changed. absurd
          (untagged_stays mem 65536 at
          (subst (λ (l : List (Option ℕ)). changed_at l mem at ≡ true) c.in-Ok.ensures changed));
    }
