use Rattle.command_parts.proofs.Algebra.{settled_with}
use Rattle.command_parts.specs.Contents.{content_at}
use Rattle.run_commands.specs.{Debug.debug_files, Run.files_in}
use Rattle.form_commands.specs.{Hrun.handled_files, Lrun.two_level_files, Mrun.mailbox_files, Srun.watched_files}
use Rattle.fz_top.specs.{Accepted.Accepts, Commands.Makes}
use Rattle.fz_top.specs.declared.command.Command.TheVariants as command
use Rattle.fz_top.proofs.laws.commands_are_settled.Goals as goal

pub returns : goal.returns
unfolding Makes Accepts
returns c command.Asm contents = settled_with (c.asm_is_settled.ensures (content_at contents 0))
returns c (command.Certify certify) contents =
    settled_with (c.certify_is_settled.ensures certify (content_at contents 0))
returns c (command.Check check) contents =
    settled_with (c.check_is_settled.ensures check (content_at contents 0) (content_at contents 1))
returns c (command.Compile compile) contents =
    settled_with (c.compile_is_settled.ensures compile (content_at contents 0))
returns c (command.Debug debug) contents = (c.debug_is_settled.ensures debug (debug_files contents)).settled
returns c (command.Exec exec) contents = settled_with (c.exec_is_settled.ensures exec (content_at contents 0))
returns c (command.Generate generate) contents = settled_with (c.generate_is_settled.ensures generate)
returns c command.Hcheck contents = settled_with (c.hcheck_is_settled.ensures (content_at contents 0))
returns c (command.Hrun hrun) contents = (c.hrun_is_settled.ensures hrun (handled_files contents)).settled
returns c command.Lcompile contents =
    settled_with (c.lcompile_is_settled.ensures (content_at contents 0) (content_at contents 1))
returns c (command.Lrun lrun) contents = (c.lrun_is_settled.ensures lrun (two_level_files contents)).settled
returns c (command.Mrun mrun) contents = (c.mrun_is_settled.ensures mrun (mailbox_files contents)).settled
returns c (command.Run run) contents = (c.run_is_settled.ensures run (files_in contents)).settled
returns c (command.Srun srun) contents = (c.srun_is_settled.ensures srun (watched_files contents)).settled
