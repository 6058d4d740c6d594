-- The names that most proofs of this crate cite, passed on from one place.
pub use Rattle.cpu12_emul.specs.Simulation.{AreSumsReady, HasRoom, OnStackOrNone, Same, Simulates}
pub use Rattle.cpu12_emul.specs.Step.{Next, next_of}
pub use Rattle.cpu12_emul.specs.Take.{FrameSeen, framed, may_interrupt, pairs_of}
pub use Rattle.cpu12_isa.specs.Agreement.{Agree, IsWritten, WritesAgree, WritesStay}
pub use Rattle.cpu12_isa.specs.Fits.{AreBytes, BytesStay, FitsRegs, FitsWrites}
pub use Rattle.cpu12_isa.specs.Memory.{bytes_at, from, placed, plus, word_of}
pub use Rattle.cpu12_parts.specs.Parts.{suspended, wav}
pub use Rattle.run_law.proofs.Algebra.{Stretch, before_more, joined}
pub use Rattle.run_law.specs.Following.{AllComplete, Completes, EachTold, all_onto, onto}
pub use Rattle.run_law.specs.Forms.{Form, Ran, RowSeen, Rows}
pub use Rattle.run_law.specs.Soundness.{AllGood, Ascend, Before, Begins, Quiet, Sound, WritesAreQuiet, below_sums}
pub use Rattle.run_law.specs.Uninterrupted.{counted, expected_frame, frames_after, frames_of, is_new, resumed_of}
pub use Rattle.run_law.specs.Uninterrupted.{state_by, stepped, taken_at, taken_before, uninterrupted}
pub use Rattle.std.proofs.Common.{Bool, List, Ok, [], ap, ap₂, arith, drop, false, get_or, if◌then◌else◌, inl}
pub use Rattle.std.proofs.Common.{inr, length, map, max, nat_le, nat_lt, not, refl, subst, suc, sym, take, true, zero}
pub use Rattle.std.proofs.Common.{ℕ, ◌%◌, ◌&&◌, ◌*◌, ◌++◌, ◌+◌, ◌-◌, ◌<◌, ◌==◌, ◌^◌, ◌∙◌, ◌∷◌, ◌≡◌, ◌≤◌, ◌⊎◌}
pub use Rattle.std.specs.Prelude.{All, None, Option, Some, slice_get, slice_index}
pub use Rattle.two_level_code.specs.MemoryMaps.{fast_map, is_fast_ram, is_fast_rom, is_open_to_fast}
pub use Rattle.two_level_code.specs.Running.{HasFastRom, IsFastStack, IsInFast, fast_code}
pub use Rattle.two_level_runs.specs.Answering.{AreTold, IsReadOff, IsTold, IsToldFrom, answer_of_fast, outputs_after}
pub use Rattle.two_level_runs.specs.Answering.{plan_of, request_of, taken_by}
pub use Rattle.two_level_runs.specs.Inside.{AreBelow, AreOnStack, FastRunsFollow, FollowsInside}
pub use Rattle.two_level_runs.specs.Outer.{CanEnter, HasFastCode, IsQuietRun, IsServable, OuterEnters}
pub use Rattle.two_level_runs.specs.Outer.{OuterIsQuiet, OuterIsServable, OuterServes, RunsFast}
pub use Rattle.two_level_runs.specs.Rows.{first_two, two_level_form, levels_of, place_of_level, sample_of}
pub use Rattle.two_level_runs.specs.Runs.{FastSeen, entered, fast_run, seen_of, served_by, told_by}
pub use Rattle.two_level_runs.specs.Steps.{FastRunsExist, FastStepsReturn, IsFastRun, IsFastState, is_foreign}
pub use Rattle.two_level_runs.specs.Steps.{is_kept, is_open_inside}
pub use Rattle.alone_runs.specs.{Answering.FirstAlike, Following.rows_of_samples, Forms.with_writes}
pub use Rattle.alone_runs.specs.{Given.RequestsAreGood, OpenBytes.AreOpenAlike, Rows.bytes_of, Rows.requests_of}
pub use Rattle.byte_scaling.specs.{declared.width.Width.TheVariants.Byte}
pub use Rattle.cpu12_emul.specs.{Fits.StepFits, Image.image_memory}
pub use Rattle.cpu12_isa.proofs.{Algebra.bit}
pub use Rattle.cpu12_isa.specs.{Act.read_by, Act.write_all, Code.decode_at, Code.six_from, Flags.has}
pub use Rattle.cpu12_isa.specs.{Flags.interrupts_masked, Meaning.effect, Meaning.plain_act, Regions.LeavesStack}
pub use Rattle.cpu12_isa.specs.{Regions.is_free, Regions.is_hidden, Registers.frame_bytes, Registers.pulled}
pub use Rattle.cpu12_isa.specs.{declared.instr.Ccr.Ccr, declared.instr.Regs.Regs}
pub use Rattle.cpu12_parts.specs.{Executions.all_steps, Fits.FitsState, Fits.FitsTemps, Laws.IsOff, Laws.addresses}
pub use Rattle.cpu12_parts.specs.{State.State, Touching.Each, Touching.IsIn, Touching.IsInstructionOver}
pub use Rattle.cpu12_parts.specs.{declared.temps.Temps.Temps, declared.temps.Temps.TheVariants.Free}
pub use Rattle.cpu12_parts.specs.{declared.temps.Temps.TheVariants.OnStack, declared.temps.Temps.TheVariants.Running}
pub use Rattle.eval_code.specs.{Bounds.step_bound, Evaluation.HasAnswers, Evaluation.Reads, Evaluation.Writes}
pub use Rattle.eval_code.specs.{Firing.AreInputBytes, declared.memory_map.MemoryMap.MemoryMap}
pub use Rattle.firmware_runs.specs.{Facts.FactsBeside, Ports.given}
pub use Rattle.fuzzy_meaning.specs.{declared.block.Block.Block}
pub use Rattle.interrupt_plan.specs.{Levels.AreGoodLevels, Levels.IsGoodLevel, Levels.LevelNotAfter}
pub use Rattle.interrupt_plan.specs.{declared.Request.Request, declared.levels.Level.Level}
pub use Rattle.run_forms.specs.{Rest.SampleSummary, Rest.counted_at}
pub use Rattle.run_law.specs.{Moments.TakenAtOnce}
pub use Rattle.std.proofs.{lemmas.Bool.Decides.nat_tests, lemmas.Bool.both_ways, lemmas.Bool.cases_lt}
pub use Rattle.std.proofs.{lemmas.Bool.or_parts, lemmas.List.Elements.All-cons, lemmas.List.length-map}
pub use Rattle.trace_io.specs.{Traces.input_bytes}
pub use Rattle.two_level_code.specs.{Images.fast_most, Images.joint_memory, Images.slow_alone}
pub use Rattle.two_level_code.specs.{Standing.StandsBeside, Standing.TwoStandBeside, declared.two.Two.Two}
pub use Rattle.two_level_runs.specs.{InnerNotes.inner_notes, Levels.FastStands}
unfoldable pub use Rattle.run_law.specs.{Forms.rows_from}
