-- The names that most proofs of this crate cite, passed on from one place.
pub use Rattle.run_commands.specs.Debug.{behind_blank, debug_lines, shown_line}
pub use Rattle.run_commands.specs.Generate.{GenerateMakes, answers_of, frames_of, generate_lines, generated_target}
pub use Rattle.run_commands.specs.Generate.{resumed_of}
pub use Rattle.std.proofs.Common.{Err, List, [], ap, ap₂, arith, drop, length, map, refl, rules, subst, sym, take}
pub use Rattle.std.proofs.Common.{true, ℕ, ◌*◌, ◌++◌, ◌-◌, ◌∙◌, ◌∷◌, ◌≡◌, ◌≤◌}
pub use Rattle.alone_runs.specs.{Answering.AnswersUnderPlans, Rows.firmware_rows}
pub use Rattle.alone_runs.specs.{Rows.row_seen, declared.rows.Row.Row}
pub use Rattle.box_tree.specs.{Texts.format_of, declared.cert.CertKind.TheVariants.Named}
pub use Rattle.byte_scaling.specs.{declared.width.Width.TheVariants.Byte}
pub use Rattle.command_parts.proofs.{Algebra.counted-map}
pub use Rattle.command_parts.specs.{Certs.StopsHalving, Certs.target_refusals, Firmwares.GivesFirmware}
pub use Rattle.command_parts.specs.{SeenOutputs.only_lines}
pub use Rattle.command_parts.specs.{declared.firmware.Form.TheVariants.Alone}
pub use Rattle.cpu12_isa.specs.{Regions.free_start, Regions.stack_end}
pub use Rattle.debug_script.specs.{Showing.shown}
pub use Rattle.firmware_code.specs.{declared.firmware.Firmware.Firmware}
pub use Rattle.fuzzy_meaning.specs.{declared.block.Block.Block}
pub use Rattle.fz_shelf.proofs.{Algebra.bare-address, Algebra.bare-append}
pub use Rattle.fz_status.specs.{declared.status.Status.Status}
pub use Rattle.interrupt_plan.specs.{declared.Request.Request}
pub use Rattle.run_commands.specs.{declared.debug.DebugFiles.DebugFiles}
pub use Rattle.run_commands.specs.{declared.debug.DebugRun.DebugRun, declared.run.Run.Run}
pub use Rattle.run_law.specs.{Forms.RowSeen}
pub use Rattle.run_reports.specs.{Laws.AnswersAreReported}
pub use Rattle.run_reports.specs.{Reports.left_of, Reports.report_of, RowLines.run_lines}
pub use Rattle.run_reports.specs.{declared.files.RunFiles.RunFiles}
pub use Rattle.std.proofs.{lemmas.List.length-map}
pub use Rattle.std.specs.{List.flat_map, Prelude.sum}
pub use Rattle.trace_io.specs.{Traces.input_bytes, declared.sample.Sample.Sample}
