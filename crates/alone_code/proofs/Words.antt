-- The names that most proofs of this crate cite, passed on from one place.
pub use Rattle.std.proofs.Common.{All, List, [], ap, arith, false, length, refl, subst, sym, ℕ, ◌-◌, ◌<◌, ◌^◌, ◌∙◌, ◌∷◌}
pub use Rattle.std.proofs.Common.{◌≡◌, ◌≤◌}
pub use Rattle.alone_code.specs.{Answers.AreAnsweredBeside, Answers.FirmwareAnswers, Firmwares.firmware_items}
pub use Rattle.byte_scaling.specs.{declared.width.Width.Width}
pub use Rattle.cpu12_asm.specs.{Items.IsRising}
pub use Rattle.cpu12_emul.specs.{Image.image_memory}
pub use Rattle.cpu12_isa.specs.{Regions.is_free}
pub use Rattle.cpu12_parts.specs.{State.State}
pub use Rattle.eval_code.specs.{Bounds.step_bound, Evaluation.HasBytes, Firing.AreInputBytes, Items.IsApart}
pub use Rattle.eval_code.specs.{MemoryMaps.main_map, Widths.answer}
pub use Rattle.firmware_code.specs.{Arrivals.given, Frames.Home, Frames.IsFramed, Images.IsImageOf, Settings.Setting}
pub use Rattle.firmware_code.specs.{declared.firmware.Firmware.Firmware}
pub use Rattle.fuzzy_meaning.specs.{Blocks.IsValid, declared.block.Block.Block}
pub use Rattle.rule_layout.specs.{Layouts.IsWithinLimits}
unfoldable pub use Rattle.eval_code.specs.{Bounds.instruction_bound}
