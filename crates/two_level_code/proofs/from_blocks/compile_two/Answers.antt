use Rattle.two_level_code.proofs.from_blocks.compile_two.Goals as goal

pub returns-in-Ok-compile_two_laid_out-clause-fast_answers :
    goal.returns-in-Ok-compile_two_laid_out-clause-fast_answers
returns-in-Ok-compile_two_laid_out-clause-fast_answers c =
    rw (← c.in-Ok-spread.ensures.block) c.in-Ok-compile_two_laid_out.ensures.fast_answers
