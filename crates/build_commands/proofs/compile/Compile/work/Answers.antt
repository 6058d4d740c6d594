use Rattle.build_commands.specs.Compile.{CompileMakes, bound_of}
use Rattle.command_parts.specs.Firmwares.{GivesFirmware}
use Rattle.build_commands.proofs.WrittenLemmas.{firmware_makes, instructions_are, steps_are}
use Rattle.build_commands.proofs.compile.Compile.work.Goals as goal

pub returns : goal.returns
returns c =
    let compiled = c.in_ok-compiled.compiled in
    let gives = c.in_ok-compiled.ensures.gives in
    let form = c.args.self.form in
    firmware_makes (CompileMakes c.args.self c.args.fcl.now) (GivesFirmware form c.args.fcl.now) (bound_of form)
    compiled.block compiled.firmware gives (instructions_are form compiled.block compiled.firmware gives.compiled)
    (steps_are form compiled.block compiled.firmware gives.compiled)
    c.written_firmware.result c.written_firmware.ensures.writes c.written_firmware.ensures.memory (λ output w. w)
