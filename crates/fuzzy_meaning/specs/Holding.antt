-- The terms that `exact` holds, and the sums over them.
-- Beside the promise.
use Rattle.std.specs.Prelude.{◌≡◌, ℕ, ◌*◌, ◌<◌, List, [], ◌∷◌, pos, neg_ℤ, ◌*ℤ◌, ◌≤ℤ◌, ◌<ℤ◌}
use Rattle.fz_num.specs.Fractions.{fraction_of, IsTruth}
use Rattle.fuzzy_meaning.specs.declared.{answers.Heavy.Heavy, answers.Held.Held}
use Rattle.fuzzy_meaning.specs.Meaning.{Share, common_den, total_mass, weighted_sum}
use Rattle.fuzzy_meaning.specs.declared.answers.Held.TheVariants.{Nothing, One, Two}

abbrev pub share_of : Heavy → Share
share_of h = record { at = h.at.0; mass = fraction_of h.mass }

abbrev pub shares_of : Held → List Share
shares_of Nothing = []
shares_of (One a) = share_of a ∷ []
shares_of (Two a b) = share_of a ∷ share_of b ∷ []

pub record IsSmall (h : Heavy) : Type 0 where
  pub low : neg_ℤ (pos 1000010000) ≤ℤ h.at.0
  pub high : h.at.0 ≤ℤ pos 1000010000
  pub some : pos 0 <ℤ h.mass.num
  pub mass : IsTruth 40000000000000 h.mass

abbrev pub AreSmall : Held → Type 0
AreSmall Nothing = Unit {0}
AreSmall (One a) = IsSmall a
AreSmall (Two a b) = IsSmall a × IsSmall b

-- the sums over ss are those over hs by one scale
pub record Reduces (ss hs : List Share) : Type 0 where
  pub scale : ℕ
  pub positive : 0 < scale
  pub den : common_den ss ≡ scale * common_den hs
  pub total : total_mass ss ≡ scale * total_mass hs
  pub weighted : weighted_sum ss ≡ pos scale *ℤ weighted_sum hs
