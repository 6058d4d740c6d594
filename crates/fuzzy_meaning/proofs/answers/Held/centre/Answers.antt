use Rattle.std.proofs.Common.{◌≡◌, ◌*◌, sym, ap, ap₂, ◌∙◌, arith}
use Rattle.std.specs.Prelude.{pos, ◌+ℤ◌, ◌*ℤ◌, unsigned_abs}
use Rattle.std.proofs.lemmas.Int.{ints}
use Rattle.fuzzy_meaning.specs.{Meaning.weighted_sum, Holding.shares_of}
use Rattle.fuzzy_meaning.proofs.ShareLemmas.{weighted_sum-two}
use Rattle.fuzzy_meaning.proofs.answers.Held.centre.Goals as goal

pub returns-in-Two-clause-num : goal.returns-in-Two-clause-num
returns-in-Two-clause-num c =
    let a = c.in-Two.a in
    let b = c.in-Two.b in
    let n : c.times-in-Two.result ≡ a.at.0 *ℤ pos (unsigned_abs a.mass.num * unsigned_abs b.mass.den) =
    c.times-in-Two.ensures.value ∙ ap (λ m. a.at.0 *ℤ pos m) c.mass_over-n.ensures.value in
    let m : c.times-in-Two-2.result ≡ b.at.0 *ℤ pos (unsigned_abs b.mass.num * unsigned_abs a.mass.den) =
    c.times-in-Two-2.ensures.value ∙ ap (λ m. b.at.0 *ℤ pos m) c.mass_over-m.ensures.value in
    let two = weighted_sum-two a.at.0 b.at.0 (unsigned_abs a.mass.num) (unsigned_abs a.mass.den)
    (unsigned_abs b.mass.num) (unsigned_abs b.mass.den) in
    (let e : _ ≡ c.times-in-Two.result +ℤ c.times-in-Two-2.result = omega (arith, ints) in e) ∙ ap₂ (λ x y. x +ℤ y) n m
    ∙ two ∙ sym (ap (λ h. weighted_sum (shares_of h)) c.in-Two.is)
