-- The promise of the call.
-- Reached by the promise.
use Rattle.std.specs.Prelude.{◌≡◌, ◌⊎◌, ℕ, List, Some, codes}
use Rattle.byte_scaling.specs.declared.{width.Width.Width, width.Width.TheVariants.Byte, width.Width.TheVariants.Word}
use Rattle.fz_shelf.specs.{Files.Holds, Files.Names, Told.World, Told.gained}
use Rattle.fz_status.specs.{Words.Text, Words.flags_of, Words.word_at, declared.status.Status.Status}
use Rattle.fz_status.specs.declared.status.Status.TheVariants as status
use Rattle.promise.specs.Promise.{Promise}
use Rattle.run_reports.specs.{Reports.Report, declared.files.RunFiles.RunFiles}

-- the name of a run whose answers have this width, with a certificate that names rules or a tight one
abbrev pub IsRunName : Width → Text → Type 0
IsRunName Byte name = (name ≡ codes "run") ⊎ (name ≡ codes "trun")
IsRunName Word name = (name ≡ codes "run16") ⊎ (name ≡ codes "trun16")

-- the words are `run FCL IMAGE CERT TRACE PLAN FLAGS`, `run16 ..`, `trun ..` or `trun16 ..`
pub record IsRun (words : List Text) (width : Width) (flags : ℕ) : Type 0 where
  pub name : IsRunName width (word_at words 1)
  pub flags_are : flags_of (word_at words 7) ≡ Some flags

-- the contents are those of the files that the words name, where the shelf tells them
pub record AreOf (words : List Text) (names : Names) (files : RunFiles) : Type 0 where
  pub fcl : Holds (names (word_at words 2)) files.fcl
  pub image : Holds (names (word_at words 3)) files.image
  pub cert : Holds (names (word_at words 4)) files.inputs.cert
  pub trace : Holds (names (word_at words 5)) files.inputs.trace
  pub plan : Holds (names (word_at words 6)) files.inputs.plan

-- out has gained lines that keep the promise over the files' contents
pub record KeepsPromise (words : List Text) (width : Width) (flags : ℕ) (old new : World) : Type 0 where
  pub files : RunFiles
  pub are : AreOf words old.files files
  pub text : List ℕ
  pub put : new.told ≡ gained old.told text
  pub report : Report
  pub promise : Promise width flags files report text

-- so it is where a run is Ok
abbrev pub OkKeepsPromise : List Text → World → World → Status → Type 0
OkKeepsPromise words old new s =
    s ≡ status.Ok → (width : Width) (flags : ℕ) → IsRun words width flags → KeepsPromise words width flags old new
