-- The names that most proofs of this crate cite, passed on from one place.
pub use Rattle.cpu12_isa.specs.declared.instr.Instr.TheVariants.{AddbImmediate, Bne, ClrExtended, LdabImmediate, Rts}
pub use Rattle.cpu12_isa.specs.declared.instr.Instr.TheVariants.{StabExtended}
pub use Rattle.cpu12_parts.proofs.Algebra.{Bounded, bounded_none, bounded_on, bounded_one}
pub use Rattle.eval_code.specs.Data.{bytes_of_word, rule_bytes, singleton_bytes, table_bytes, weight_bytes_by}
pub use Rattle.firmware_code.specs.Settings.{InstructionsStand, Live, Setting, Stands}
pub use Rattle.std.proofs.Common.{All, Bool, List, [], ap, ap₂, arith, false, get_or, get_or-set_other}
pub use Rattle.std.proofs.Common.{get_or-set_same, inl, inr, length, length-append, length-set, map, refl, set, subst}
pub use Rattle.std.proofs.Common.{suc, sum_by, sym, take, true, zero, ℕ, ⊎_elim, ◌%◌, ◌*◌, ◌++◌, ◌+◌, ◌-◌, ◌<◌, ◌^◌}
pub use Rattle.std.proofs.Common.{◌∙◌, ◌∷◌, ◌≡◌, ◌≢◌, ◌≤◌, ◌⊎◌}
pub use Rattle.std.specs.Prelude.{None, Option, Some, if◌then◌else◌, not, option_map, sum, ◌==◌}
pub use Rattle.watched_code.specs.Watched.{AreWatchAnswered, Change, Watched, default_of, segment_bound}
pub use Rattle.watched_code.specs.Watched.{watched_items}
pub use Rattle.watched_code.specs.WatchedCode.{AreSegments, IsSegment, bad_code, code_length, default_code}
pub use Rattle.watched_code.specs.WatchedCode.{defaults_code, fault_at, segment, segment_bytes, segment_code}
pub use Rattle.watched_code.specs.WatchedCode.{segments_code, segments_of, watched_front, watched_front_over}
pub use Rattle.watched_code.specs.WatchedCode.{weight_segments}
pub use Rattle.byte_scaling.specs.{Cells.NearestIsByte, Cells.nearest_byte, declared.width.Width.TheVariants.Byte}
pub use Rattle.cpu12_asm.specs.{Items.IsRising, Items.given_by}
pub use Rattle.cpu12_isa.specs.{Agreement.AgreeFrom, Code.FitCode, Code.code_bytes, Code.encode_of, Flags.has}
pub use Rattle.cpu12_isa.specs.{Regions.is_free, Regions.stack_end}
pub use Rattle.cpu12_isa.specs.{declared.instr.Instr.Instr}
pub use Rattle.cpu12_parts.specs.{Executions.Execution, State.State, Whole.after_plain}
pub use Rattle.eval_code.proofs.{Algebra.bytes_set_out}
pub use Rattle.eval_code.specs.{Code.block_code, Evaluation.HasBytes}
pub use Rattle.eval_code.specs.{Firing.AreInputBytes, Items.IsApart, Items.block_items, MemoryMaps.main_map}
pub use Rattle.eval_code.specs.{Placed.BlockGivesAtParts, Placed.HasParts, Widths.answer}
pub use Rattle.eval_code.specs.{declared.memory_map.MemoryMap.MemoryMap}
pub use Rattle.firmware_code.specs.{Arrivals.FreeBytesLeave, Calls.HasRoutine, Frames.FrameCallsAndLeaves, Frames.Home}
pub use Rattle.firmware_code.specs.{Images.vector_items, Interruptible.IsInterruptibleStep}
pub use Rattle.fuzzy_meaning.specs.{Blocks.IsValid, Blocks.output_at, declared.block.Block.Block}
pub use Rattle.fuzzy_meaning.specs.{declared.block.Output.Output}
pub use Rattle.fz_num.specs.{declared.dec.Dec.Dec}
pub use Rattle.rule_layout.specs.{Layouts.IsWithinLimits, Layouts.instruction_of, Layouts.weights_of}
pub use Rattle.rule_layout.specs.{declared.flat.RuleInstruction.RuleInstruction}
pub use Rattle.std.proofs.{lemmas.Bool.Decides.nat_tests, lemmas.Bool.cases_eq, lemmas.List.Elements.All-cons}
pub use Rattle.std.proofs.{lemmas.List.Elements.All-nil, lemmas.List.Sums.sum_by-cons}
pub use Rattle.watched_code.specs.{Checksums.check_byte, declared.segments.Segment.Segment}
unfoldable pub use Rattle.eval_code.specs.{Bounds.instruction_bound, Bounds.steps_by}
unfoldable pub use Rattle.watched_code.specs.{Watched.watched_bound}
