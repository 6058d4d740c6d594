use Rattle.two_level_runs.proofs.Words.{◌∙◌, ap, Byte, MemoryMap, fast_map}
use Rattle.firmware_runs.specs.Ports.{answers_at}
use Rattle.two_level_runs.proofs.Writing.{answers_at-narrow}
use Rattle.two_level_runs.proofs.fast.answers.Goals as goal

pub returns : goal.returns
returns g c =
    let mem = c.args.m.now.state.mem in
    c.answers_from.ensures
    ∙ ap (λ (l : MemoryMap). answers_at Byte c.args.outputs l.outputs mem) c.fast_map.ensures
    ∙ answers_at-narrow c.args.outputs fast_map.outputs mem
