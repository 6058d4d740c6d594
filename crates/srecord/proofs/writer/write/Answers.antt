use Rattle.std.proofs.Common.{◌≡◌, List, ℕ, subst, ◌∙◌}
use Rattle.std.proofs.lemmas.Result.{IfOk-weaker}
use Rattle.srecord.specs.Images.{ImageText}
use Rattle.srecord.proofs.WrittenLemmas.{written_gives}
use Rattle.srecord.proofs.writer.write.Goals as goal

pub returns-clause-image : goal.returns-clause-image
returns-clause-image c =
    let image = c.args.image.now in
    let same : c.deref.result.now ≡ image.bytes = c.deref.ensures.value ∙ c.in_ok-bytes.ensures.bytes in
    IfOk-weaker c.text_of.result _ _ (λ text spelled.
    written_gives image text.items c.in_ok-bytes.ensures.ascending
    (subst (λ (bytes : List (ℕ × ℕ)). ImageText bytes image.start text.items) same spelled)) c.text_of.ensures
