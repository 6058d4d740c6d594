-- The code before EVAL of a firmware that stands alone, instruction by instruction.
-- Beside the promise.
use Rattle.std.specs.Prelude.{List, [], ◌∷◌}
use Rattle.cpu12_isa.specs.{declared.instr.Instr.Instr, Regions.stack_end}
use Rattle.cpu12_isa.specs.declared.instr.Instr.TheVariants.{LdaaExtended, LdsImmediate, ClrExtended, Beq, Bra}
use Rattle.cpu12_isa.specs.declared.instr.Instr.TheVariants.{JsrExtended, Andcc, Rti}
use Rattle.eval_code.specs.declared.memory_map.MemoryMap.{MemoryMap}

-- The stack is set up, READY cleared and interrupts let in; then, wherever READY is not 0, EVAL is called and READY
-- cleared. An interrupt returns at once.
abbrev pub frame_code : MemoryMap → List Instr
frame_code l =
    LdsImmediate stack_end ∷ ClrExtended l.sample_flag ∷ Andcc 0xEF
    ∷ LdaaExtended l.sample_flag ∷ Beq 0xFB ∷ JsrExtended l.eval ∷ ClrExtended l.sample_flag ∷ Bra 0xF3
    ∷ Rti ∷ []
