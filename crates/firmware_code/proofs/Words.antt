-- The names that most proofs of this crate cite, passed on from one place.
pub use Rattle.cpu12_isa.specs.declared.instr.Instr.TheVariants.{Beq, Bra, ClrExtended, JsrExtended, LdaaExtended, Rts}
pub use Rattle.eval_code.proofs.Algebra.{bytes_after_set, bytes_back, bytes_front, bytes_set_out, decode_same, high_set}
pub use Rattle.eval_code.proofs.Algebra.{same_bytes}
pub use Rattle.eval_code.specs.Data.{bytes_of_word, rule_bytes, singleton_bytes, table_bytes, weight_bytes}
pub use Rattle.eval_code.specs.Evaluation.{HasBytes, Reads, Writes, eval_bytes}
pub use Rattle.firmware_code.specs.Calls.{HasRoutine, IsInCode}
pub use Rattle.firmware_code.specs.Interruptible.{IsInterruptibleStep, IsShownInstruction, is_idle}
pub use Rattle.firmware_code.specs.Settings.{Here, IsShut, Live, Next, Setting, Stands, code_room}
pub use Rattle.std.proofs.Common.{Bool, List, Ok, [], ap, ap₂, arith, false, get_or, get_or-set_other, get_or-set_same}
pub use Rattle.std.proofs.Common.{inl, inr, length, length-append, length-set, min, nat_le, nat_lt, refl, set, subst}
pub use Rattle.std.proofs.Common.{sym, true, ℕ, ⊎_elim, ◌%◌, ◌&&◌, ◌*◌, ◌++◌, ◌+◌, ◌-◌, ◌/◌, ◌<◌, ◌^◌, ◌∙◌, ◌∷◌, ◌≡◌}
pub use Rattle.std.proofs.Common.{◌≢◌, ◌≤◌, ◌⊎◌}
pub use Rattle.byte_scaling.specs.{Widths.places, declared.width.Width.TheVariants.Byte}
pub use Rattle.byte_scaling.specs.{declared.width.Width.TheVariants.Word, declared.width.Width.Width}
pub use Rattle.cpu12_asm.specs.{Bytes.Holds, Items.IsRising, Items.given_by, declared.items.Item.Item}
pub use Rattle.cpu12_emul.specs.{Image.image_memory, Step.reset_with}
pub use Rattle.cpu12_isa.specs.{Act.read_by, Agreement.AgreeFrom, Agreement.AllShown, Code.code_bytes, Code.decode_at}
pub use Rattle.cpu12_isa.specs.{Code.encode_of, Code.six_from, Flags.has, Meaning.effect, Meaning.plain_act}
pub use Rattle.cpu12_isa.specs.{Memory.plus, Regions.is_hidden, Regions.stack_end, declared.instr.Instr.Instr}
pub use Rattle.cpu12_parts.specs.{Executions.Execution, Laws.addresses, State.State, Touching.Each}
pub use Rattle.cpu12_parts.specs.{Whole.PlainExecution, Whole.after_plain, declared.temps.Temps.TheVariants.Free}
pub use Rattle.eval_code.specs.{Items.IsApart, Items.bytes_at, Placed.StandsBetween, Widths.bytes_of}
pub use Rattle.eval_code.specs.{declared.memory_map.MemoryMap.MemoryMap}
pub use Rattle.firmware_code.specs.{Frames.start_code, Images.vector_items, Laws.LowerLaws}
pub use Rattle.firmware_code.specs.{declared.firmware.Firmware.Firmware}
pub use Rattle.fuzzy_meaning.specs.{Blocks.IsValid, declared.block.Block.Block}
pub use Rattle.rule_layout.specs.{Slots.slots_of}
pub use Rattle.std.proofs.{lemmas.Bool.Decides.nat_tests, lemmas.Bool.cases_eq, lemmas.Bool.or_parts}
pub use Rattle.std.specs.{Prelude.◌==◌}
unfoldable pub use Rattle.eval_code.specs.{Items.block_items}
