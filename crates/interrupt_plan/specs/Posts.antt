-- What a text of posts spells, and its first fault.
-- Beside the promise.
use Rattle.std.specs.Prelude.{◌≡◌, ◌<◌, ◌≤◌, ◌^◌, ℕ, true, List, length, All}
use Rattle.cpu12_isa.specs.{declared.instr.Write.Write, Regions.is_free}
use Rattle.trace_io.specs.FirstRows.{Fields}
use Rattle.interrupt_plan.specs.declared.{Post.Post, PlanFault.PlanFault}
use Rattle.interrupt_plan.specs.Rows.{Ascend, SpellsRow, SpellsText, HasFirstFault}

-- a post of one of so many samples, or of none: it comes at a moment up to 1000000, and does at most eight writes, each
-- of a byte to a free address
pub record IsGoodPost (samples : ℕ) (p : Post) : Type 0 where
  pub moment_to : p.moment ≤ 1000000
  pub sample_to : p.sample ≤ samples
  pub few_writes : length p.writes ≤ 8
  pub free : All (λ w. is_free w.at ≡ true) p.writes
  pub bytes : All (λ w. w.value < 2 ^ 8) p.writes

-- by their moments, a does not come after b
abbrev pub NoLater : Post → Post → Type 0
NoLater a b = a.moment ≤ b.moment

pub record AreGoodPosts (samples : ℕ) (posts : List Post) : Type 0 where
  pub few : length posts ≤ 10000
  pub posts_are : All (IsGoodPost samples) posts
  pub ascends : Ascend NoLater posts

-- the fields spell the post: its moment, its sample, 0 for none, and at most eight writes
pub record SpellsPost (samples : ℕ) (fields : Fields) (p : Post) : Type 0 where
  pub row : SpellsRow fields p.moment p.sample p.writes
  pub moment_to : p.moment ≤ 1000000
  pub sample_to : p.sample ≤ samples

abbrev pub writes_in : Post → List Write
writes_in p = p.writes

-- the text spells these posts, which are good
abbrev pub SpellsPosts : ℕ → List ℕ → List Post → Type 0
SpellsPosts samples = SpellsText (SpellsPost samples) (AreGoodPosts samples)

-- the text has this fault first
abbrev pub PostsHaveFault : ℕ → List ℕ → PlanFault → Type 0
PostsHaveFault samples = HasFirstFault (SpellsPost samples) writes_in NoLater
