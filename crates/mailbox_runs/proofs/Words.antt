-- The names that most proofs of this crate cite, passed on from one place.
pub use Rattle.cpu12_emul.specs.Simulation.{AreSumsReady, HasRoom, IsShownStep, OnStackOnly, Same}
pub use Rattle.cpu12_emul.specs.Step.{Left, Next, applied, is_part, next_of, step_act}
pub use Rattle.cpu12_emul.specs.Take.{FrameSeen, frame_of, framed, may_interrupt}
pub use Rattle.firmware_code.specs.Uninterrupted.{AreAnswersOf, AreUninterrupted, is_waiting, values_in}
pub use Rattle.mailbox_code.specs.Mailboxes.{IsMailboxOf, is_mail, is_postable}
pub use Rattle.mailbox_code.specs.Turns.{IsAt, IsChoice, IsLook, IsMaskedStep}
pub use Rattle.mailbox_runs.specs.Answering.{answer_in, answer_of, begun, ended, frames_in, resumed_in, run_of_turns}
pub use Rattle.mailbox_runs.specs.Behind.{HoldsMail, not_mail, part_form, posted_by}
pub use Rattle.mailbox_runs.specs.PostedTurns.{End, TurnEnds, part_taken, plain_frame}
pub use Rattle.mailbox_runs.specs.Postings.{AreOfSize, IsBox, last_of, mailed, posted}
pub use Rattle.mailbox_runs.specs.Runs.{AnswerSeen, RunSeen, TurnForm, answer_seen, answered_alone, answers_by}
pub use Rattle.mailbox_runs.specs.Runs.{arrival, before_turns, input_bytes, is_over, most_turns, no_turn, post_writes}
pub use Rattle.mailbox_runs.specs.Runs.{steps_of, then_turns, turn_form, turn_from, waits_by, writes_from}
pub use Rattle.mailbox_runs.specs.Turns.{AreTurns, Turn, answers, behind, idle, over, samples_of, taken_from, up_to}
pub use Rattle.mailbox_runs.specs.Turns.{waiting}
pub use Rattle.mailbox_runs.specs.UninterruptedTurns.{AllTurnRuns, HasSteps, HaveSteps, IsAnswerRun, IsIdleRun}
pub use Rattle.mailbox_runs.specs.UninterruptedTurns.{MailboxRunsTurns, TurnsHaveSteps}
pub use Rattle.mailbox_runs.specs.UsedLaws.{PlainStepLaws, Stepping, TakingLaws, TurnLaws, Writing}
pub use Rattle.run_law.specs.Forms.{Ran, Taking, before_rest, is_empty, one_if, put_take, taken, told}
pub use Rattle.run_law.specs.Soundness.{AllGood, AllSimulate, Ascend, Before}
pub use Rattle.run_law.specs.Uninterrupted.{counted, frames_after, has_moment, is_inside, is_new, kind_by, resumed_of}
pub use Rattle.run_law.specs.Uninterrupted.{state_by, stepped, uninterrupted}
pub use Rattle.std.proofs.Common.{All, Bool, List, None, Ok, Option, Result, Some, [], ap, append-nil, append_assoc}
pub use Rattle.std.proofs.Common.{ap₂, arith, drop, false, get_or, inl, inr, length, length-append, map, max, min}
pub use Rattle.std.proofs.Common.{nat_le, nat_lt, not, refl, set, subst, suc, sym, take, true, zero, ℕ, ◌&&◌, ◌*◌}
pub use Rattle.std.proofs.Common.{◌++◌, ◌+◌, ◌-◌, ◌<◌, ◌==◌, ◌^◌, ◌∙◌, ◌∷◌, ◌≡◌, ◌≢◌, ◌≤◌, ◌⊎◌}
pub use Rattle.alone_runs.specs.{Rows.bytes_of}
pub use Rattle.byte_scaling.specs.{Widths.places, declared.width.Width.TheVariants.Byte}
pub use Rattle.byte_scaling.specs.{declared.width.Width.TheVariants.Word, declared.width.Width.Width}
pub use Rattle.cpu12_emul.specs.{Image.image_memory, declared.ends.Stepped.TheVariants.Plain}
pub use Rattle.cpu12_isa.proofs.{Algebra.agree_self, Algebra.agree_with}
pub use Rattle.cpu12_isa.specs.{Act.outcome, Act.write_all, Agreement.Agree, Agreement.AllShown, Agreement.IsWritten}
pub use Rattle.cpu12_isa.specs.{Code.six_from, Flags.has, Flags.interrupts_masked, Flags.zero_result, Memory.placed}
pub use Rattle.cpu12_isa.specs.{Memory.plus, Regions.is_free, Regions.is_hidden, declared.instr.Instr.Instr}
pub use Rattle.cpu12_isa.specs.{declared.instr.Instr.TheVariants.Beq, declared.instr.Instr.TheVariants.LdaaExtended}
pub use Rattle.cpu12_isa.specs.{declared.instr.Instr.TheVariants.Orcc, declared.instr.Regs.Regs}
pub use Rattle.cpu12_isa.specs.{declared.instr.Write.Write}
pub use Rattle.cpu12_parts.specs.{Executions.Execution, Executions.IsUntil, Executions.all_steps, Parts.suspended}
pub use Rattle.cpu12_parts.specs.{Parts.wav, State.State, Whole.IsPlainStep, declared.temps.Temps.Temps}
pub use Rattle.cpu12_parts.specs.{declared.temps.Temps.TheVariants.Free}
pub use Rattle.eval_code.specs.{Evaluation.put, Firing.AreInputBytes, Widths.answer}
pub use Rattle.eval_code.specs.{declared.memory_map.MemoryMap.MemoryMap}
pub use Rattle.firmware_code.specs.{Arrivals.given, Interruptible.is_idle, declared.firmware.Firmware.Firmware}
pub use Rattle.firmware_runs.specs.{Facts.Facts, Facts.FactsBeside, Instructions.AreSteps}
pub use Rattle.firmware_runs.specs.{Instructions.InstructionsAreSteps, Instructions.IsServing}
pub use Rattle.fuzzy_meaning.specs.{declared.block.Block.Block}
pub use Rattle.interrupt_plan.specs.{Posts.IsGoodPost, declared.Post.Post}
pub use Rattle.mailbox_runs.specs.{Shifts.frames_from, Shifts.ran_from, Counts.notes_of, Counts.with_rest}
pub use Rattle.mailbox_runs.specs.{TurnsExist.PostsHaveTurns, WholeRuns.RunsAreTurns}
pub use Rattle.run_forms.specs.{Arrival.PlainIsOneStep, Rest.TakingSummary, Rest.with_before}
pub use Rattle.run_law.proofs.{Algebra.uninterrupted_add}
pub use Rattle.run_law.specs.{Following.asked, Moments.TakenAtFirstOpen}
pub use Rattle.std.proofs.{lemmas.Bool.Decides.nat_tests, lemmas.Bool.cases_lt, lemmas.Bool.or_parts}
pub use Rattle.std.proofs.{lemmas.List.Elements.All-cons, lemmas.List.map-append}
pub use Rattle.std.specs.{Prelude.if◌then◌else◌, Prelude.slice_index, Prelude.◌||◌}
unfoldable pub use Rattle.eval_code.specs.{Bounds.steps_by}
unfoldable pub use Rattle.mailbox_runs.specs.{Runs.turns_from}
unfoldable pub use Rattle.run_law.specs.Forms.{run_from, takes}
