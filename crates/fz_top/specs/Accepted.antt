-- The contents that commands accept, and what contents make.
-- Beside the promise.
use Rattle.std.specs.Prelude.{◌<◌, ◌^◌, ℕ, List}
use Rattle.build_commands.specs.{Asm.AsmAccepts, Certify.certify_reading, Check.CheckAccepts, Compile.CompileAccepts}
use Rattle.build_commands.specs.{Exec.ExecAccepts, Lcompile.LcompileAccepts}
use Rattle.command_parts.specs.{Contents.content_at, Handlers.handler_in}
use Rattle.command_parts.specs.Readings.{GivesSome, IsSettled, last}
use Rattle.run_commands.specs.{Debug.debug_files, Debug.debug_reading, Generate.generate_reading, Run.files_in}
use Rattle.form_commands.specs.{Hrun.handled_files, Lrun.two_level_files, Mrun.mailbox_files, Srun.watched_files}
use Rattle.run_reports.specs.{CertifiedRun.run_reading, HandledRun.handled_reading, TwoLevelRun.two_level_reading}
use Rattle.run_reports.specs.{MailboxRun.mailbox_reading, WatchedRun.watched_reading}
use Rattle.fz_top.specs.{Commands.Makes, declared.command.Command.Command}
use Rattle.fz_top.specs.declared.command.Command.TheVariants.{Asm, Certify, Check, Compile, Debug, Exec, Generate}
use Rattle.fz_top.specs.declared.command.Command.TheVariants.{Hcheck, Hrun, Lcompile, Lrun, Mrun, Run, Srun}

-- the contents of a command's files, in order, are accepted
unfoldable pub Accepts : Command → List (List ℕ) → Type 0
Accepts Asm contents = AsmAccepts (content_at contents 0)
Accepts (Certify certify) contents = GivesSome (certify_reading certify (content_at contents 0))
Accepts (Check check) contents = CheckAccepts check (content_at contents 0) (content_at contents 1)
Accepts (Compile compile) contents = CompileAccepts (content_at contents 0)
Accepts (Debug debug) contents = GivesSome (debug_reading (debug_files contents))
Accepts (Exec exec) contents = ExecAccepts exec (content_at contents 0)
Accepts (Generate generate) contents = GivesSome (generate_reading generate)
Accepts Hcheck contents = GivesSome (last (handler_in (content_at contents 0)))
Accepts (Hrun hrun) contents = GivesSome (handled_reading hrun.kind (handled_files contents))
Accepts Lcompile contents = LcompileAccepts (content_at contents 0) (content_at contents 1)
Accepts (Lrun lrun) contents = GivesSome (two_level_reading lrun.kind (two_level_files contents))
Accepts (Mrun mrun) contents = GivesSome (mailbox_reading mrun.kind (mailbox_files contents))
Accepts (Run run) contents = GivesSome (run_reading run.format (files_in contents))
Accepts (Srun srun) contents = GivesSome (watched_reading srun.kind (watched_files contents))

-- the condition codes that a command's run of firmware leaves open
abbrev pub run_flags : Command → ℕ
run_flags (Debug debug) = debug.flags
run_flags (Hrun hrun) = hrun.flags
run_flags (Lrun lrun) = lrun.flags
run_flags (Mrun mrun) = mrun.flags
run_flags (Run run) = run.flags
run_flags (Srun srun) = srun.flags
run_flags _ = 0

-- contents make at most one output, and then no fault; and one where they are accepted
abbrev pub CommandsAreSettled : Type 0
CommandsAreSettled = (command : Command) (contents : List (List ℕ))
    → IsSettled (Makes command contents) ((run_flags command < 2 ^ 8) × Accepts command contents)
