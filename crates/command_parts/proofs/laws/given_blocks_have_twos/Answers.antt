use Rattle.command_parts.proofs.laws.given_blocks_have_twos.Goals as goal

pub returns : goal.returns
returns c slow_text fast_text slow fast slow_is fast_is =
    let (two, both) = c.blocks_have_twos.ensures slow fast slow_is.spelled.valid slow_is.limits fast_is.spelled.valid
    fast_is.limits in
    (two, record { slow_is = slow_is; fast_is = fast_is; both = both })
