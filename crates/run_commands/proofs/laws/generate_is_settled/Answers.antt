use Rattle.run_commands.proofs.GenerateLemmas.{generate_settled}
use Rattle.run_commands.proofs.laws.generate_is_settled.Goals as goal

pub returns : goal.returns
returns c = generate_settled c.halvings_are_exact.ensures c.workloads_are_one.ensures c.firmwares_are_one.ensures
    c.answers_are_reported.ensures c.answers_under_plans.ensures c.numbers_have_workloads.ensures
    c.drawn_blocks_are_within_limits.ensures c.given_blocks_have_firmware.ensures
