use Rattle.alone_code.proofs.firmware.compile_for.Goals as goal

pub returns-clause-firmware : goal.returns-clause-firmware
returns-clause-firmware c = rw (← c.in_ok-laid_out.ensures.block) c.in_ok-compile_laid_out.ensures.firmware

pub returns-clause-answers : goal.returns-clause-answers
returns-clause-answers c = rw (← c.in_ok-laid_out.ensures.block) c.in_ok-compile_laid_out.ensures.answers

pub returns-clause-uninterrupted : goal.returns-clause-uninterrupted
returns-clause-uninterrupted c = rw (← c.in_ok-laid_out.ensures.block) c.in_ok-compile_laid_out.ensures.uninterrupted
