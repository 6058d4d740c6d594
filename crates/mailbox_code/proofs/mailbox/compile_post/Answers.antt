use Rattle.mailbox_code.proofs.mailbox.compile_post.Goals as goal

pub returns-clause-firmware : goal.returns-clause-firmware
returns-clause-firmware c = rw (← c.in_ok-laid_out.ensures.block) c.in_ok-compile_post_laid_out.ensures.firmware

pub returns-clause-turns : goal.returns-clause-turns
returns-clause-turns c =
    c.mailbox_takes_posts.ensures _ _ c.requires c.in_ok-laid_out.ensures.limits (returns-clause-firmware c)

pub returns-clause-uninterrupted : goal.returns-clause-uninterrupted
returns-clause-uninterrupted c =
    c.mailbox_is_uninterrupted.ensures _ _ c.requires c.in_ok-laid_out.ensures.limits (returns-clause-firmware c)
