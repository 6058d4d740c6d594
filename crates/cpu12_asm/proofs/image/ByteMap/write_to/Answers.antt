use Rattle.std.proofs.Common.{◌≡◌, ℕ, List, ◌∷◌, get_or, unwrap_or, ap, sym, ◌∙◌, subst, arith}
use Rattle.std.specs.Map.Iter.{deref_pair}
use Rattle.std.proofs.lemmas.Map.Iter.{rest_more}
use Rattle.cpu12_asm.specs.Bytes.{byte_at, IsAscending}
use Rattle.cpu12_asm.proofs.Writing.{byte-written, IsAscending-rest}
use Rattle.cpu12_asm.proofs.image.ByteMap.write_to.Goals as goal

pub loop-at-preserved : goal.loop-at-preserved
loop-at-preserved g c =
    let b : ℕ × ℕ = (c.in-Some.at.now, c.in-Some.byte.now) in
    let parts : c.loop-at.at-iterator ≡ b ∷ c.next.new.self =
    rest_more deref_pair c.loop-at.at-iterator c.next.new.self c.next.result _ c.in-Some.is c.next.ensures.steps in
    let above : IsAscending (b ∷ c.next.new.self) =
    subst (λ (l : List (ℕ × ℕ)). IsAscending l) parts c.loop-at.invariant.ascending in
    record {
      same = λ q.
          ap (λ (m : List ℕ). unwrap_or (byte_at c.next.new.self q) (get_or m q 0)) c.write.ensures.bytes
          ∙ byte-written b c.next.new.self (g.M.Mem.bytes c.loop-at.m) q above
          (omega (arith, g.met.M.Mem.size c.loop-at.m))
          ∙ ap (λ (l : List (ℕ × ℕ)). unwrap_or (byte_at l q) (get_or (g.M.Mem.bytes c.loop-at.m) q 0)) (sym parts)
          ∙ c.loop-at.invariant.same q;
      ascending = IsAscending-rest b c.next.new.self above;
      tags = c.write.ensures.tags ∙ c.loop-at.invariant.tags;
    }
