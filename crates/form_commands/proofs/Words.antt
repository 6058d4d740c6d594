-- The names that most proofs of this crate cite, passed on from one place.
pub use Rattle.command_parts.proofs.Algebra.{counted-map, lines_more, made_with, of_seen}
pub use Rattle.form_commands.specs.Lrun.{inner_line, two_level_report, two_level_row_lines, lrun_lines, outer_lines}
pub use Rattle.form_commands.specs.Srun.{watched_report, watched_row_lines}
pub use Rattle.std.proofs.Common.{Err, List, [], ap, ap₂, arith, length, refl, rules, subst, sym, take, true, ℕ, ◌++◌}
pub use Rattle.std.proofs.Common.{◌+◌, ◌-◌, ◌<◌, ◌^◌, ◌∙◌, ◌∷◌, ◌≡◌, ◌≤◌}
pub use Rattle.std.proofs.lemmas.List.Elements.{All-cons, All-head, All-nil, All-tail}
pub use Rattle.std.specs.Prelude.{All, codes, decimal, map, string_bytes}
pub use Rattle.alone_runs.specs.{Answering.AnswersItsBlock, Answering.AnswersUnderPlans, Rows.bytes_of}
pub use Rattle.box_tree.specs.{Texts.format_of, declared.cert.CertKind.CertKind}
pub use Rattle.byte_scaling.specs.{declared.width.Width.TheVariants.Byte}
pub use Rattle.command_parts.specs.{Firmwares.GivesFirmware}
pub use Rattle.command_parts.specs.{Lines.counted, SeenOutputs.only_lines}
pub use Rattle.command_parts.specs.{Readings.Reading, declared.firmware.Compiled.Compiled}
pub use Rattle.command_parts.specs.{declared.firmware.Form.TheVariants.Alone}
pub use Rattle.command_parts.specs.{declared.firmware.Form.TheVariants.Mailbox}
pub use Rattle.cpu12_emul.specs.{declared.ends.Frame.Frame}
pub use Rattle.firmware_code.specs.{Uninterrupted.AreAnswersOf, declared.firmware.Firmware.Firmware}
pub use Rattle.form_commands.specs.{Hrun.handled_report, Hrun.handled_row_lines, Mrun.answer_line}
pub use Rattle.form_commands.specs.{Mrun.mrun_lines, Mrun.mailbox_report}
pub use Rattle.fuzzy_meaning.specs.{declared.block.Block.Block}
pub use Rattle.fz_shelf.proofs.{Algebra.bare-append, Algebra.bare-decimal}
pub use Rattle.fz_status.specs.{declared.status.Status.Status}
pub use Rattle.handled_runs.specs.{Forms.handled_seen, declared.rows.HandledRow.HandledRow}
pub use Rattle.interrupt_plan.specs.{declared.Request.Request}
pub use Rattle.mailbox_code.specs.{Mailboxes.mailbox_bound}
pub use Rattle.mailbox_runs.specs.{Runs.answer_seen, Runs.run_under_posts}
pub use Rattle.run_forms.specs.{Rows.boundary_seen}
pub use Rattle.run_law.specs.{Forms.RowSeen}
pub use Rattle.run_reports.specs.{Laws.AnswersAreReported, Laws.AnswersKeepTheBound}
pub use Rattle.run_reports.specs.{Laws.SpelledBytesFit, Posted.IsOneOf, Posted.MailboxAnswersAreNear, MailboxRun.run_of}
pub use Rattle.run_reports.specs.{RowLines.begun_lines, RowLines.frame_line, declared.files.HandledFiles.HandledFiles}
pub use Rattle.run_reports.specs.{declared.files.TwoLevelFiles.TwoLevelFiles, declared.files.MailboxFiles.MailboxFiles}
pub use Rattle.run_reports.specs.{declared.files.WatchedFiles.WatchedFiles}
pub use Rattle.std.proofs.{lemmas.List.length-map, lemmas.Simd.map-map}
pub use Rattle.trace_io.specs.{Traces.input_bytes}
pub use Rattle.trace_io.specs.{declared.sample.Sample.Sample}
pub use Rattle.two_level_code.specs.{Images.fast_most}
pub use Rattle.two_level_runs.specs.{Harness.row_seen, InnerNotes.inner_seen, Rows.two_level_seen, Runs.FastSeen}
pub use Rattle.two_level_runs.specs.{declared.rows.TwoRow.TwoRow}
pub use Rattle.watched_runs.specs.{Rows.faults_of, Rows.upset_rows, declared.form.WatchedRow.WatchedRow}
