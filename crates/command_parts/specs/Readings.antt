-- Commands as readings of their files, one behind the other.
-- Beside the promise.
use Rattle.std.specs.Prelude.{◌≡◌, ◌⊎◌, Result, Ok, Err}
use Rattle.fz_status.specs.Refusals.{CarriesNoMemory, IsRefusal, Refusals, Refuses, of_fast}
use Rattle.fz_status.specs.declared.status.Status.{Status}
use Rattle.fz_status.specs.declared.status.Status.TheVariants as status
use Rattle.command_parts.specs.SeenOutputs.{HasOutput, OutputHasNoFault, OutputsAreOne, SeenOutput}

-- a file: what it gives, what is seen of that by all that follows, and which statuses refuse it
pub record Stage (B : Type 0) : Type 1 where
  pub gives : B → Type 0
  pub Seen : Type 0
  pub seen : B → Seen
  pub refuses : Refusals

-- one file; or one and, by what is seen of it, those behind it
infixr 20 ◌then◌
pub data Reading : Type 0 → Type 1 where
  last : {B : Type 0} → Stage B → Reading B
  ◌then◌ : {B D : Type 0} → (first : Stage B) → (first.Seen → Reading D) → Reading (B × D)

-- each file gives its part of this
abbrev pub Gives : {B : Type 0} → Reading B → B → Type 0
Gives (last f) b = f.gives b
Gives (first then next) p = first.gives p.0 × Gives (next (first.seen p.0)) p.1

-- a status refuses the first file, or it refuses those behind it, and the first gives something
abbrev pub refusals : {B : Type 0} → Reading B → Refusals
refusals (last f) s = f.refuses s
refusals (first then next) s = first.refuses s ⊎ ((b : _) × first.gives b × refusals (next (first.seen b)) s)

-- the same, or want of memory
abbrev pub IsRefused : {B : Type 0} → Reading B → Status → Type 0
IsRefused (last f) s = IsRefusal f.refuses s
IsRefused (first then next) s =
    IsRefusal first.refuses s ⊎ ((b : _) × first.gives b × IsRefused (next (first.seen b)) s)

-- all files are accepted
abbrev pub GivesSome : {B : Type 0} → Reading B → Type 0
GivesSome {B} r = (b : B) × Gives r b

-- what is made of the files: an output of which this is so, or a refusal
abbrev pub made_of : {B : Type 0} → Reading B → (SeenOutput → Type 0) → Result SeenOutput Status → Type 0
made_of r gives (Ok output) = gives output
made_of r gives (Err s) = Refuses (refusals r) s

-- what is seen of all that the files give
abbrev pub SeenOf : {B : Type 0} → Reading B → Type 0
SeenOf (last f) = f.Seen
SeenOf (first then next) = (s : first.Seen) × SeenOf (next s)

abbrev pub seen_of : {B : Type 0} → (r : Reading B) → B → SeenOf r
seen_of (last f) b = f.seen b
seen_of (first then next) p = (first.seen p.0, seen_of (next (first.seen p.0)) p.1)

-- the same file, where it is the fast block's
abbrev pub for_fast : {B : Type 0} → Stage B → Stage B
for_fast f = record {
  gives = f.gives;
  Seen = f.Seen;
  seen = f.seen;
  refuses = λ s. (t : Status) × (s ≡ of_fast t) × f.refuses t;
}

-- ---- laws

-- a status that contents can have
abbrev pub TellsContents : Status → Type 0
TellsContents status.Ok = ⊥
TellsContents status.Usage = ⊥
TellsContents (status.ReadFault p) = ⊥
TellsContents status.WriteFault = ⊥
TellsContents (status.TooLong p) = ⊥
TellsContents s = Unit {0}

-- what a file gives is seen as one thing, a file that gives something is not refused, and what refuses it tells
-- contents, and is one
pub record IsExact {B : Type 0} (f : Stage B) : Type 0 where
  pub one : (b d : B) → f.gives b → f.gives d → f.seen b ≡ f.seen d
  pub apart : (b : B) (s : Status) → f.gives b → Refuses f.refuses s → ⊥
  pub contents : (s : Status) → f.refuses s → TellsContents s
  pub refused_once : (s t : Status) → Refuses f.refuses s → Refuses f.refuses t → s ≡ t

-- so it is with each file
abbrev pub AreExact : {B : Type 0} → Reading B → Type 0
AreExact (last f) = IsExact f
AreExact (first then next) = IsExact first × ((b : _) → first.gives b → AreExact (next (first.seen b)))

-- what a command makes: one output at most, and then no fault; one where this is so; and one fault at most, which
-- tells contents, and carries no want of memory
pub record IsSettled (made : Result SeenOutput Status → Type 0) (accepted : Type 0) : Type 0 where
  pub one : OutputsAreOne made
  pub no_fault : OutputHasNoFault made
  pub some : accepted → HasOutput made
  pub contents : (s : Status) → made (Err s) → CarriesNoMemory s × TellsContents s
  pub one_fault : (s t : Status) → made (Err s) → made (Err t) → s ≡ t
