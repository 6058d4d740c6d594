-- When a run whose files are accepted is done.
-- Beside the promise.
use Rattle.std.specs.Prelude.{◌≡◌, ◌≤◌, ◌⊎◌, ℕ, List, Option, Some, codes, false, length}
use Rattle.box_tree.specs.declared.{cert.CertFormat.CertFormat, cert.CertKind.CertKind}
use Rattle.box_tree.specs.declared.cert.CertKind.TheVariants.{Named, Tight}
use Rattle.byte_scaling.specs.declared.{width.Width.Width, width.Width.TheVariants.Byte, width.Width.TheVariants.Word}
use Rattle.fz_shelf.specs.{Files.File, Files.Names, Files.known, Told.HasRoom, Told.Taken, Told.World}
use Rattle.fz_status.specs.{Words.Text, Words.flags_of, Words.word_at, declared.status.Status.Status}
use Rattle.fz_status.specs.declared.status.Status.TheVariants as status
use Rattle.fz_top.specs.Runs.{HasNoFault}
use Rattle.fz_words.specs.Table.{any_hyphen}
use Rattle.promise.specs.{Laws.AreAccepted, Promise.Promise}
use Rattle.run_reports.specs.{Reports.Report, declared.files.RunFiles.RunFiles}

-- the name of a run by its certificates and the width of its answers
abbrev pub run_name_by : CertKind → Width → Text
run_name_by Named Byte = codes "run"
run_name_by Named Word = codes "run16"
run_name_by Tight Byte = codes "trun"
run_name_by Tight Word = codes "trun16"

abbrev pub run_name : CertFormat → Text
run_name format = run_name_by format.kind format.width

-- the words begin with it, and end with FLAGS
pub record IsRunOf (words : List Text) (format : CertFormat) (flags : ℕ) : Type 0 where
  pub name : word_at words 1 ≡ run_name format
  pub flags_are : flags_of (word_at words 7) ≡ Some flags

-- they are eight with the program's name, and none behind that begins with a hyphen
pub record AreRunWords (words : List Text) (format : CertFormat) (flags : ℕ) : Type 0 where
  pub run : IsRunOf words format flags
  pub count : length words ≡ 8
  pub plain : any_hyphen words ≡ false

-- the shelf tells a file of these bytes, not too long
pub record IsTold (file : File) (bytes : List ℕ) : Type 0 where
  pub room : ℕ
  pub told : file ≡ known bytes room
  pub short : length bytes ≤ 1048576

pub record AreTold (words : List Text) (names : Names) (files : RunFiles) : Type 0 where
  pub fcl : IsTold (names (word_at words 2)) files.fcl
  pub image : IsTold (names (word_at words 3)) files.image
  pub cert : IsTold (names (word_at words 4)) files.inputs.cert
  pub trace : IsTold (names (word_at words 5)) files.inputs.trace
  pub plan : IsTold (names (word_at words 6)) files.inputs.plan

-- there is room for the lines, whichever keep the promise
abbrev pub HasRoomForLines : Width → ℕ → RunFiles → Option Taken → Type 0
HasRoomForLines width flags files told =
    (report : Report) (text : List ℕ) → Promise width flags files report text → HasRoom told (length text)

-- Then the status is Ok, or Memory, where no count rose; and also where shelf and out are reliable with room.
abbrev pub AcceptedIsDone : List Text → World → World → Type 0 → Status → Type 0
AcceptedIsDone words old new Reliable s =
    (format : CertFormat) (flags : ℕ) (files : RunFiles) → AreRunWords words format flags
    → AreTold words old.files files → AreAccepted format files
    → HasNoFault old new ⊎ (Reliable × HasRoomForLines format.width flags files old.told)
    → (s ≡ status.Ok) ⊎ (s ≡ status.Memory)
