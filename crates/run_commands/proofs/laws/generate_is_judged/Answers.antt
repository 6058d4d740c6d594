use Rattle.std.proofs.Common.{arith}
use Rattle.box_tree.specs.{Texts.format_of, declared.cert.CertKind.TheVariants.Named}
use Rattle.byte_scaling.specs.declared.width.Width.TheVariants.{Byte}
use Rattle.command_parts.proofs.Algebra.{result_of}
use Rattle.workload.specs.{Blocks.drawn_block, Draws.draw}
use Rattle.run_commands.specs.Generate.{GenerateGives, generate_reading, generated_target}
use Rattle.run_commands.proofs.laws.generate_is_judged.Goals as goal

pub returns : goal.returns
returns c generate =
    let drawn = c.numbers_have_workloads.ensures generate.number in
    result_of (generate_reading generate) (GenerateGives generate.number)
    (c.halvings_are_judged.ensures (format_of Named Byte) generated_target (drawn_block (draw generate.number 0 5))
    drawn.5.spelled.valid (omega arith))
    (λ given. (c.generate_is_settled.ensures generate).some given)
