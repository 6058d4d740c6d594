-- Places in a text, and fronts and ends of lists.
-- Reached by the promise.
use Rattle.std.specs.Prelude.{ℕ, Bool, cond, List, [], ◌∷◌, ◌++◌, Option, Some, None}
use Rattle.std.specs.Option.{option_or}

-- this place, where the test says so
abbrev pub at_if : Bool → ℕ → List ℕ
at_if test at = cond test (at ∷ []) []

-- the places at something, where it is there
abbrev pub at_some : {A : Type 0} → (A → List ℕ) → Option A → List ℕ
at_some f None = []
at_some f (Some x) = f x

-- the places at each item, which look at the items before it, the nearest first
abbrev pub at_each : {A : Type 0} → (List A → A → List ℕ) → List A → List A → List ℕ
at_each f before [] = []
at_each f before (x ∷ items) = f before x ++ at_each f (x ∷ before) items

-- the first item, and the last
abbrev pub first : {A : Type 0} → List A → Option A
first [] = None
first (x ∷ items) = Some x

abbrev pub last : {A : Type 0} → List A → Option A
last [] = None
last (x ∷ items) = option_or (last items) (Some x)

-- what stands behind the items that pass the test from the front on
abbrev pub drop_while : {A : Type 0} → (A → Bool) → List A → List A
drop_while test [] = []
drop_while test (x ∷ items) = cond (test x) (drop_while test items) (x ∷ items)
