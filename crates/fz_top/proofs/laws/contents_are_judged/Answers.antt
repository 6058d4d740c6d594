use Rattle.command_parts.specs.Contents.{content_at}
use Rattle.run_commands.specs.{Debug.debug_files, Run.files_in}
use Rattle.form_commands.specs.{Hrun.handled_files, Lrun.two_level_files, Mrun.mailbox_files, Srun.watched_files}
use Rattle.fz_top.specs.Commands.{Makes}
use Rattle.fz_top.specs.declared.command.Command.TheVariants as command
use Rattle.fz_top.proofs.ContentLemmas.{length-content}
use Rattle.fz_top.proofs.laws.contents_are_judged.Goals as goal

pub returns : goal.returns
unfolding Makes
returns c command.Asm contents flags targets few = c.asm_is_judged.ensures (content_at contents 0)
returns c (command.Certify certify) contents flags targets few =
    c.certify_is_judged.ensures certify (content_at contents 0) targets (length-content contents 0 few)
returns c (command.Check check) contents flags targets few =
    c.check_is_judged.ensures check (content_at contents 0) (content_at contents 1) (length-content contents 0 few)
returns c (command.Compile compile) contents flags targets few =
    c.compile_is_judged.ensures compile (content_at contents 0) (length-content contents 0 few)
returns c (command.Debug debug) contents flags targets few =
    c.debug_is_judged.ensures debug (debug_files contents) flags (length-content contents 0 few)
returns c (command.Exec exec) contents flags targets few = c.exec_is_judged.ensures exec (content_at contents 0)
returns c (command.Generate generate) contents flags targets few = c.generate_is_judged.ensures generate
returns c command.Hcheck contents flags targets few = c.hcheck_is_judged.ensures (content_at contents 0)
returns c (command.Hrun run) contents flags targets few =
    c.hrun_is_judged.ensures run (handled_files contents) flags (length-content contents 0 few)
returns c command.Lcompile contents flags targets few =
    c.lcompile_is_judged.ensures (content_at contents 0) (content_at contents 1) (length-content contents 0 few) (length-content contents 1 few)
returns c (command.Lrun run) contents flags targets few =
    c.lrun_is_judged.ensures run (two_level_files contents) flags (length-content contents 0 few) (length-content contents 1 few)
returns c (command.Mrun run) contents flags targets few =
    c.mrun_is_judged.ensures run (mailbox_files contents) flags (length-content contents 0 few)
returns c (command.Run run) contents flags targets few =
    c.run_is_judged.ensures run (files_in contents) flags (length-content contents 0 few)
returns c (command.Srun run) contents flags targets few =
    c.srun_is_judged.ensures run (watched_files contents) flags (length-content contents 0 few)
