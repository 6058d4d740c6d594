-- The commands: the one table of them, and what each reads and makes.
-- Beside the promise.
use Rattle.std.specs.Prelude.{◌≡◌, ◌⊎◌, ℕ, List, [], ◌∷◌, codes, Option, Some, None, Result, option_and_then}
use Rattle.std.specs.Prelude.{option_map}
use Rattle.fz_words.specs.{App.IsRefused, Table.Row, Table.row, Table.command_in as command_by}
use Rattle.box_tree.specs.Texts.{format_of}
use Rattle.box_tree.specs.declared.cert.CertKind.TheVariants.{Named, Tight}
use Rattle.byte_scaling.specs.declared.width.Width.TheVariants.{Byte, Word}
use Rattle.build_commands.specs.{Asm.AsmMakes, Asm.asm_inputs, Hcheck.HcheckMakes, Hcheck.hcheck_inputs}
use Rattle.build_commands.specs.{Lcompile.LcompileMakes, Lcompile.lcompile_inputs}
use Rattle.build_commands.specs.Certify.{CertifyMakes, certify_in, certify_inputs}
use Rattle.build_commands.specs.Check.{CheckMakes, check_in, check_inputs}
use Rattle.build_commands.specs.Compile.{CompileMakes, compile_in, compile_inputs}
use Rattle.build_commands.specs.Exec.{ExecMakes, exec_in, exec_inputs}
use Rattle.command_parts.specs.{SeenOutputs.SeenOutput, Contents.content_at}
use Rattle.command_parts.specs.declared.firmware.Form.TheVariants.{Alone, Mailbox, Watched}
use Rattle.run_commands.specs.Debug.{DebugMakes, debug_files, debug_in, debug_inputs}
use Rattle.run_commands.specs.Generate.{GenerateMakes, generate_in, generate_inputs}
use Rattle.run_commands.specs.Run.{RunMakes, files_in, run_in, run_inputs}
use Rattle.form_commands.specs.{Forms.form_run_in, Hrun.HrunMakes, Hrun.handled_files, Hrun.hrun_inputs}
use Rattle.form_commands.specs.Lrun.{LrunMakes, two_level_files, lrun_inputs}
use Rattle.form_commands.specs.Mrun.{MrunMakes, mrun_inputs, mailbox_files}
use Rattle.form_commands.specs.Srun.{SrunMakes, srun_inputs, watched_files}
use Rattle.fz_status.specs.Words.{Text}
use Rattle.fz_top.specs.declared.{command.Command.Command, command.Name.Name}
use Rattle.fz_top.specs.declared.command.Command.TheVariants.{Asm, Certify, Check, Compile, Debug, Exec, Generate}
use Rattle.fz_top.specs.declared.command.Command.TheVariants.{Hcheck, Hrun, Lcompile, Lrun, Mrun, Run, Srun}
use Rattle.fz_top.specs.declared.command.Name.TheVariants as name
use Rattle.fz_status.specs.declared.status.Status.{Status}

-- the commands by name, each with the number of words that follow
unfoldable pub table : List (Row Name)
table = row (codes "asm") 2 name.Asm ∷ row (codes "certify") 3 (name.Certify (format_of Named Byte))
    ∷ row (codes "certify16") 3 (name.Certify (format_of Named Word))
    ∷ row (codes "check") 2 (name.Check (format_of Named Byte))
    ∷ row (codes "check16") 2 (name.Check (format_of Named Word)) ∷ row (codes "compile") 2 (name.Compile (Alone Byte))
    ∷ row (codes "compile16") 2 (name.Compile (Alone Word)) ∷ row (codes "debug") 6 name.Debug
    ∷ row (codes "exec") 3 name.Exec ∷ row (codes "gen") 1 name.Generate ∷ row (codes "hcheck") 1 name.Hcheck
    ∷ row (codes "hrun") 6 (name.Hrun Named) ∷ row (codes "lcompile") 3 name.Lcompile
    ∷ row (codes "lrun") 9 (name.Lrun Named) ∷ row (codes "mcompile") 2 (name.Compile Mailbox)
    ∷ row (codes "mrun") 6 (name.Mrun Named) ∷ row (codes "run") 6 (name.Run (format_of Named Byte))
    ∷ row (codes "run16") 6 (name.Run (format_of Named Word)) ∷ row (codes "scompile") 2 (name.Compile Watched)
    ∷ row (codes "srun") 7 (name.Srun Named) ∷ row (codes "tcertify") 3 (name.Certify (format_of Tight Byte))
    ∷ row (codes "tcertify16") 3 (name.Certify (format_of Tight Word))
    ∷ row (codes "tcheck") 2 (name.Check (format_of Tight Byte))
    ∷ row (codes "tcheck16") 2 (name.Check (format_of Tight Word)) ∷ row (codes "thrun") 6 (name.Hrun Tight)
    ∷ row (codes "tlrun") 9 (name.Lrun Tight) ∷ row (codes "tmrun") 6 (name.Mrun Tight)
    ∷ row (codes "trun") 6 (name.Run (format_of Tight Byte)) ∷ row (codes "trun16") 6 (name.Run (format_of Tight Word))
    ∷ row (codes "tsrun") 7 (name.Srun Tight) ∷ []

-- the command of a name, where the words have its form
unfoldable pub command_named : Name → List Text → Option Command
command_named name.Asm words = Some Asm
command_named (name.Certify format) words = option_map Certify (certify_in format words)
command_named (name.Check format) words = Some (Check (check_in format))
command_named (name.Compile form) words = Some (Compile (compile_in form))
command_named name.Debug words = option_map Debug (debug_in words)
command_named name.Exec words = option_map Exec (exec_in words)
command_named name.Generate words = option_map Generate (generate_in words)
command_named name.Hcheck words = Some Hcheck
command_named (name.Hrun kind) words = option_map Hrun (form_run_in kind 7 words)
command_named name.Lcompile words = Some Lcompile
command_named (name.Lrun kind) words = option_map Lrun (form_run_in kind 10 words)
command_named (name.Mrun kind) words = option_map Mrun (form_run_in kind 7 words)
command_named (name.Run format) words = option_map Run (run_in format words)
command_named (name.Srun kind) words = option_map Srun (form_run_in kind 8 words)

-- the words that name the files to read, in order
unfoldable pub inputs_of : Command → List ℕ
inputs_of Asm = asm_inputs
inputs_of (Certify certify) = certify_inputs
inputs_of (Check check) = check_inputs
inputs_of (Compile compile) = compile_inputs
inputs_of (Debug debug) = debug_inputs
inputs_of (Exec exec) = exec_inputs
inputs_of (Generate generate) = generate_inputs
inputs_of Hcheck = hcheck_inputs
inputs_of (Hrun hrun) = hrun_inputs
inputs_of Lcompile = lcompile_inputs
inputs_of (Lrun lrun) = lrun_inputs
inputs_of (Mrun mrun) = mrun_inputs
inputs_of (Run run) = run_inputs
inputs_of (Srun srun) = srun_inputs

-- what the command makes of the contents of its files
unfoldable pub Makes : Command → List (List ℕ) → Result SeenOutput Status → Type 0
Makes Asm contents r = AsmMakes (content_at contents 0) r
Makes (Certify certify) contents r = CertifyMakes certify (content_at contents 0) r
Makes (Check check) contents r = CheckMakes check (content_at contents 0) (content_at contents 1) r
Makes (Compile compile) contents r = CompileMakes compile (content_at contents 0) r
Makes (Debug debug) contents r = DebugMakes debug (debug_files contents) r
Makes (Exec exec) contents r = ExecMakes exec (content_at contents 0) r
Makes (Generate generate) contents r = GenerateMakes generate r
Makes Hcheck contents r = HcheckMakes (content_at contents 0) r
Makes (Hrun hrun) contents r = HrunMakes hrun (handled_files contents) r
Makes Lcompile contents r = LcompileMakes (content_at contents 0) (content_at contents 1) r
Makes (Lrun lrun) contents r = LrunMakes lrun (two_level_files contents) r
Makes (Mrun mrun) contents r = MrunMakes mrun (mailbox_files contents) r
Makes (Run run) contents r = RunMakes run (files_in contents) r
Makes (Srun srun) contents r = SrunMakes srun (watched_files contents) r

abbrev pub name_in : List Text → Option Name
name_in words = command_by table words

-- the command of the words, the program's name first
abbrev pub command_in : List Text → Option Command
command_in words = option_and_then (λ n. command_named n words) (name_in words)

-- a word begins with a hyphen, clap does not take the words, or one of them is not of its form
abbrev pub IsUsage : List Text → Type 0
IsUsage words = IsRefused table words ⊎ ((n : Name) × (name_in words ≡ Some n) × (command_named n words ≡ None))
