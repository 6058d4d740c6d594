-- A text spells entries or has a first fault, and of these it has one and only one.
-- Beside the promise.
use Rattle.std.specs.Prelude.{◌≡◌, ◌⊎◌, ℕ, List}
use Rattle.interrupt_plan.specs.{Levels.LevelsHaveFault, Levels.SpellsLevels, Plans.HasFault, Plans.Spells}
use Rattle.interrupt_plan.specs.declared.{PlanFault.PlanFault, levels.Level.Level, Post.Post, Request.Request}
use Rattle.interrupt_plan.specs.declared.upsets.{Upset.Upset, UpsetFault.UpsetFault}
use Rattle.interrupt_plan.specs.{Posts.PostsHaveFault, Posts.SpellsPosts}
use Rattle.interrupt_plan.specs.UpsetTexts.{HasUpsetFault, SpellsUpsets}

-- A text that spells a plan has no fault.
abbrev pub SpelledPlansHaveNoFault : Type 0
SpelledPlansHaveNoFault = (text : List ℕ) (plan : List Request) (fault : PlanFault) → Spells text plan
    → HasFault text fault → ⊥

-- Nor has one that spells posts.
abbrev pub SpelledPostsHaveNoFault : Type 0
SpelledPostsHaveNoFault =
    (samples : ℕ) (text : List ℕ) (posts : List Post) (fault : PlanFault) → SpellsPosts samples text posts
    → PostsHaveFault samples text fault → ⊥

-- Nor has one that spells levels.
abbrev pub SpelledLevelsHaveNoFault : Type 0
SpelledLevelsHaveNoFault =
    (fast : ℕ) (text : List ℕ) (levels : List Level) (fault : PlanFault) → SpellsLevels fast text levels
    → LevelsHaveFault fast text fault → ⊥

-- A text has one first fault: as a plan, as posts, as levels, and as upsets of an image.
abbrev pub PlanFaultsAreOne : Type 0
PlanFaultsAreOne = (text : List ℕ) (fault other : PlanFault) → HasFault text fault → HasFault text other → fault ≡ other

abbrev pub PostFaultsAreOne : Type 0
PostFaultsAreOne = (samples : ℕ) (text : List ℕ) (fault other : PlanFault) → PostsHaveFault samples text fault
    → PostsHaveFault samples text other → fault ≡ other

abbrev pub LevelFaultsAreOne : Type 0
LevelFaultsAreOne = (fast : ℕ) (text : List ℕ) (fault other : PlanFault) → LevelsHaveFault fast text fault
    → LevelsHaveFault fast text other → fault ≡ other

abbrev pub UpsetFaultsAreOne : Type 0
UpsetFaultsAreOne = (image : List (ℕ × ℕ)) (text : List ℕ) (fault other : UpsetFault)
    → HasUpsetFault image text fault → HasUpsetFault image text other → fault ≡ other

-- A text spells one plan, and one list of posts, of levels, and of upsets of an image.
abbrev pub SpelledPlansAreOne : Type 0
SpelledPlansAreOne = (text : List ℕ) (plan other : List Request) → Spells text plan → Spells text other → plan ≡ other

abbrev pub SpelledPostsAreOne : Type 0
SpelledPostsAreOne = (samples : ℕ) (text : List ℕ) (posts others : List Post) → SpellsPosts samples text posts
    → SpellsPosts samples text others → posts ≡ others

abbrev pub SpelledLevelsAreOne : Type 0
SpelledLevelsAreOne = (fast : ℕ) (text : List ℕ) (levels others : List Level) → SpellsLevels fast text levels
    → SpellsLevels fast text others → levels ≡ others

abbrev pub SpelledUpsetsAreOne : Type 0
SpelledUpsetsAreOne = (image : List (ℕ × ℕ)) (text : List ℕ) (upsets others : List Upset)
    → SpellsUpsets image text upsets → SpellsUpsets image text others → upsets ≡ others

-- Each text spells a plan or has a first fault, and so with posts, with levels, and with upsets of an image.
abbrev pub EachPlanTextIsJudged : Type 0
EachPlanTextIsJudged = (text : List ℕ)
    → ((plan : List Request) × Spells text plan) ⊎ ((fault : PlanFault) × HasFault text fault)

abbrev pub EachPostsTextIsJudged : Type 0
EachPostsTextIsJudged = (samples : ℕ) (text : List ℕ)
    → ((posts : List Post) × SpellsPosts samples text posts) ⊎ ((fault : PlanFault) × PostsHaveFault samples text fault)

abbrev pub EachLevelsTextIsJudged : Type 0
EachLevelsTextIsJudged = (fast : ℕ) (text : List ℕ)
    → ((levels : List Level) × SpellsLevels fast text levels) ⊎ ((fault : PlanFault) × LevelsHaveFault fast text fault)

abbrev pub EachUpsetsTextIsJudged : Type 0
EachUpsetsTextIsJudged = (image : List (ℕ × ℕ)) (text : List ℕ)
    → ((upsets : List Upset) × SpellsUpsets image text upsets) ⊎ ((fault : UpsetFault) × HasUpsetFault image text fault)
