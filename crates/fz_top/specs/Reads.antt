-- What the reads of a command's files leave.
-- Beside the promise.
use Rattle.std.specs.Prelude.{◌≡◌, ◌≤◌, ℕ, List, [], ◌∷◌, ◌++◌, map, length}
use Rattle.fz_shelf.specs.{Faults.Rose, Told.Log, Told.Counts, Told.ShelfTold, Files.Names, Files.Holds, Files.IsLong}
use Rattle.fz_shelf.specs.Files.{IsThere}
use Rattle.fz_shelf.specs.declared.log.Answer.{Answer}
use Rattle.fz_shelf.specs.declared.log.Answer.TheVariants.{Whole, Missed, Long}
use Rattle.fz_status.specs.Words.{Text, word_at}
use Rattle.fz_top.specs.declared.reading.Stop.{Stop}
use Rattle.fz_top.specs.declared.reading.Stop.TheVariants as stop

-- the contents are those of the files of these names, where the shelf tells them
abbrev pub AreHeld : Names → List Text → List (List ℕ) → Type 0
AreHeld files [] [] = Unit {0}
AreHeld files [] (c ∷ cs) = ⊥
AreHeld files (n ∷ ns) [] = ⊥
AreHeld files (n ∷ ns) (c ∷ cs) = Holds (files n) c × (length c ≤ 1048576) × AreHeld files ns cs

abbrev pub AreThere : Names → List Text → Type 0
AreThere files [] = Unit {0}
AreThere files (n ∷ ns) = IsThere (files n) × AreThere files ns

abbrev pub names_at : List Text → List ℕ → List Text
names_at words places = map (word_at words) places

abbrev pub whole_entries : List Text → List ℕ → Log
whole_entries words places = map (λ p. (word_at words p, Whole)) places

-- the words before this one were each read whole, and this one has its kind: the list of reads
-- gained just these
pub record Reads (words : List Text) (places : List ℕ) (place : ℕ) (kind : Answer) (files : Names)
    (old new : Log) : Type 0 where
  pub before : List ℕ
  pub after : List ℕ
  pub split : before ++ place ∷ after ≡ places
  pub contents : List (List ℕ)
  pub held : AreHeld files (names_at words before) contents
  pub asked : new ≡ old ++ (whole_entries words before ++ (word_at words place, kind) ∷ [])

-- the files of the first of these words were each read whole, and no other: the list of reads gained just these
pub record ReadsFirst (words : List Text) (places : List ℕ) (files : Names) (old new : Log) : Type 0 where
  pub before : List ℕ
  pub after : List ℕ
  pub split : before ++ after ≡ places
  pub contents : List (List ℕ)
  pub held : AreHeld files (names_at words before) contents
  pub asked : new ≡ old ++ whole_entries words before

-- why one read stopped
abbrev pub StopsAt : List Text → ℕ → ShelfTold → ShelfTold → Stop → Type 0
StopsAt words place old new (stop.Failed p) =
    (p ≡ place) × (new.asked ≡ old.asked ++ (word_at words place, Missed) ∷ [])
    × (new.counts ≡ record old.counts { reads = new.counts.reads }) × Rose old.counts.reads new.counts.reads
StopsAt words place old new (stop.TooLong p) =
    (p ≡ place) × (new.asked ≡ old.asked ++ (word_at words place, Long) ∷ [])
    × (new.counts ≡ record old.counts { longs = new.counts.longs }) × Rose old.counts.longs new.counts.longs
    × IsLong (old.files (word_at words place))
StopsAt words place old new stop.Memory = (new.counts ≡ old.counts) × (new.asked ≡ old.asked)

-- one read was whole
pub record ReadsOne (words : List Text) (place : ℕ) (old new : ShelfTold) (bytes : List ℕ) : Type 0 where
  pub held : Holds (old.files (word_at words place)) bytes
  pub small : length bytes ≤ 1048576
  pub counts : new.counts ≡ old.counts
  pub entry : new.asked ≡ old.asked ++ (word_at words place, Whole) ∷ []

-- why the reads stopped: the count of that fault rose in this call, and no other, or memory was wanted
abbrev pub StopsBy : List Text → List ℕ → Names → Counts → Counts → Log → Log → Stop → Type 0
StopsBy words places files old new asked asked' (stop.Failed p) =
    Reads words places p Missed files asked asked' × (new ≡ record old { reads = new.reads }) × Rose old.reads new.reads
StopsBy words places files old new asked asked' (stop.TooLong p) =
    Reads words places p Long files asked asked'
    × (new ≡ record old { longs = new.longs }) × Rose old.longs new.longs × IsLong (files (word_at words p))
StopsBy words places files old new asked asked' stop.Memory = (new ≡ old) × ReadsFirst words places files asked asked'

-- the reads were all whole
pub record ReadsWhole (words : List Text) (places : List ℕ) (old new : ShelfTold) (contents : List (List ℕ))
    : Type 0 where
  pub held : AreHeld old.files (names_at words places) contents
  pub counts : new.counts ≡ old.counts
  pub entries : new.asked ≡ old.asked ++ whole_entries words places

abbrev pub IsFailedRead : Stop → Type 0
IsFailedRead (stop.Failed p) = Unit {0}
IsFailedRead _ = ⊥
