-- The commands `compile FCL OUT`, `compile16 ..` with answers of 16 bits, `mcompile ..` in the mailbox form, and
-- `scompile ..` with watched tables.
-- Beside the promise.
use Rattle.std.specs.Prelude.{ℕ, List, [], ◌∷◌, Result}
use Rattle.eval_code.specs.Bounds.{instruction_bound}
use Rattle.byte_scaling.specs.declared.width.Width.TheVariants.{Byte}
use Rattle.fuzzy_meaning.specs.declared.block.Block.{Block}
use Rattle.mailbox_code.specs.Mailboxes.{mailbox_bound}
use Rattle.watched_code.specs.Watched.{watched_bound}
use Rattle.command_parts.specs.declared.firmware.Form.{Form}
use Rattle.command_parts.specs.declared.firmware.Form.TheVariants.{Alone, Mailbox, Watched}
use Rattle.command_parts.specs.{SeenOutputs.SeenOutput, Firmwares.GivesBlock, Firmwares.GivesFirmware}
use Rattle.command_parts.specs.{Firmwares.firmware_in, Readings.IsSettled, Readings.last, Readings.made_of}
use Rattle.build_commands.specs.{Written.WritesFirmware, declared.compile.Compile.Compile}
use Rattle.fz_status.specs.declared.status.Status.{Status}

abbrev pub compile_in : Form → Compile
compile_in form = record { form = form }

-- FCL
abbrev pub compile_inputs : List ℕ
compile_inputs = 2 ∷ []

-- the bound on instructions of a block's firmware of this form
abbrev pub bound_of : Form → Block → ℕ
bound_of (Alone width) = instruction_bound width
bound_of Mailbox = mailbox_bound Byte
bound_of Watched = watched_bound

-- the text gives firmware of this form, and OUT is to hold the records of its image
abbrev pub CompileMakes : Compile → List ℕ → Result SeenOutput Status → Type 0
CompileMakes compile text =
    made_of (last (firmware_in compile.form text))
    (WritesFirmware (GivesFirmware compile.form text) (bound_of compile.form))

-- the text gives a block, whatever the form is
abbrev pub CompileAccepts : List ℕ → Type 0
CompileAccepts text = (block : Block) × GivesBlock text block

-- a text makes at most one output, and then no fault; and one where it is accepted
abbrev pub CompileIsSettled : Type 0
CompileIsSettled = (compile : Compile) (text : List ℕ) → IsSettled (CompileMakes compile text) (CompileAccepts text)
